-- What shards leave, one after another.
use Rattle.std.proofs.Common.{◌≡◌, ℕ, zero, suc, ◌+◌, true, List, [], ◌∷◌, All, map, refl}
use Rattle.std.proofs.{Common.{ap, ◌∙◌, arith}, lemmas.List.Elements.All-nil}
use Rattle.std.proofs.lemmas.{List.Elements.All-append, Grind.common_steps}
use Rattle.std.specs.List.{range_with_len, AllZip}
use Rattle.graph_types.specs.{Graph.Graph, declared.batches.NamedOp.NamedOp, declared.batches.Outcome.Outcome}
use Rattle.edge_block.specs.{Slots.BlockView, Rows.{Shape, shape_of}, Batches.{Resolved, resolved, opened_rows, layout_after}}
use Rattle.edge_block.specs.Batches.{rows_all}
use Rattle.batch_shards.specs.{Closing.row_values, Births.births_end, Done.IsShardDone}
use Rattle.batch_shards.specs.{Done.sources_in, declared.shard.{Shard.Shard, ShardDone.ShardDone}}
use Rattle.graph_version.specs.Versions.{is_in}
use Rattle.graph_version.proofs.NumbersIn.{in_left, in_right}
use Rattle.batch_shards.proofs.Left.{rows_left, taken_left}
use Rattle.batch_apply.specs.{Shards.IsShardOf, Plans.{written, written_all}, Applied.written_from}
use Rattle.batch_apply.proofs.Together.{shard_outcomes_at, shard_layout_at, shard_births_at}

-- What shards leave, one after another

module _ (before : ℕ → List BlockView) where
  module _ (workers : ℕ) (ops : List NamedOp) (g : Graph) (layout : ℕ → List Shape) where
    abbrev rs : List Resolved
    rs = resolved ops g

    pub layouts_left : (a k : ℕ) (shards : List Shard) (dones : List ShardDone)
        → AllZip (IsShardOf workers rs layout) (range_with_len a k) shards → AllZip (IsShardDone before) shards dones
        → All (λ r. map shape_of r.1 ≡ layout_after ops g (λ s. map shape_of (before s)) r.0) (rows_left dones)
    layouts_left a zero [] [] p z = grind (arith, common_steps, All-nil)
    layouts_left a k [] (d ∷ dones) p z = absurd z
    layouts_left a zero (s ∷ shards) dones p z = absurd p
    layouts_left a (suc k) [] dones p z = absurd p
    layouts_left a k (s ∷ shards) [] p z = absurd z
    layouts_left a (suc k) (s ∷ shards) (d ∷ dones) p z =
        All-append (λ (r : ℕ × List BlockView). map shape_of r.1 ≡ layout_after ops g (λ s. map shape_of (before s)) r.0)
        (row_values d.rows.items) (rows_left dones)
        (shard_layout_at workers a ops g layout before s d p.0 z.0) (layouts_left (a + 1) k shards dones p.1 z.1)

    pub births_left : (f h : BlockView → ℕ) (n a k : ℕ) (shards : List Shard) (dones : List ShardDone)
        → ((b : BlockView) → is_in b.number (taken_left dones) ≡ true → h b ≡ n)
        → AllZip (IsShardOf workers rs layout) (range_with_len a k) shards → AllZip (IsShardDone before) shards dones
        → All (λ r. All (λ b. h b ≡ f b) (before r.0) → map h r.1
        ≡ births_end n (rows_all rs (opened_rows (λ s. map shape_of (before s))) r.0) (map f (before r.0))) (rows_left dones)
    births_left f h n a zero [] [] each p z = grind (arith, common_steps, All-nil)
    births_left f h n a k [] (d ∷ dones) each p z = absurd z
    births_left f h n a zero (s ∷ shards) dones each p z = absurd p
    births_left f h n a (suc k) [] dones each p z = absurd p
    births_left f h n a k (s ∷ shards) [] each p z = absurd z
    births_left f h n a (suc k) (s ∷ shards) (d ∷ dones) each p z =
        All-append (λ (r : ℕ × List BlockView). All (λ b. h b ≡ f b) (before r.0) → map h r.1
        ≡ births_end n (rows_all rs (opened_rows (λ s. map shape_of (before s))) r.0) (map f (before r.0)))
        (row_values d.rows.items) (rows_left dones)
        (shard_births_at workers a ops g layout before s d p.0 z.0 f h n
        (λ b is. each b (in_left b.number d.left.taken.items (taken_left dones) is)))
        (births_left f h n (a + 1) k shards dones
        (λ b is. each b (in_right b.number d.left.taken.items (taken_left dones) is)) p.1 z.1)

    pub outcomes_left : (a k : ℕ) (shards : List Shard) (dones : List ShardDone)
        → AllZip (IsShardOf workers rs layout) (range_with_len a k) shards → AllZip (IsShardDone before) shards dones
        → (xs : List Outcome) → written_from dones xs
        ≡ written_all workers a (map sources_in shards) rs (opened_rows (λ s. map shape_of (before s))) xs
    outcomes_left a zero [] [] p z xs = refl
    outcomes_left a k [] (d ∷ dones) p z xs = absurd z
    outcomes_left a zero (s ∷ shards) dones p z xs = absurd p
    outcomes_left a (suc k) [] dones p z xs = absurd p
    outcomes_left a k (s ∷ shards) [] p z xs = absurd z
    outcomes_left a (suc k) (s ∷ shards) (d ∷ dones) p z xs =
        ap (λ os. written_from dones (written os xs)) (shard_outcomes_at workers a ops g layout before s d p.0 z.0)
        ∙ outcomes_left (a + 1) k shards dones p.1 z.1 _
