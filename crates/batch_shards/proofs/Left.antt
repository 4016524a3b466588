-- What shards leave, one after another.
use Rattle.std.proofs.Common.{◌≡◌, ℕ, ◌+◌, Bool, List, [], ◌∷◌, ◌++◌, map, All, count_by, flat_map, refl, sym, ap, ap₂, subst}
use Rattle.std.proofs.{Common.{◌∙◌, arith}, lemmas.{Grind.{flat_map-append, common_steps}, List.map-append}}
use Rattle.std.proofs.lemmas.List.Elements.{All-nil, All-append}
use Rattle.std.specs.List.{AllZip}
use Rattle.edge_block.specs.Slots.{BlockView}
use Rattle.edge_block.proofs.ShardSteps.{all_sources}
use Rattle.graph_version.specs.Versions.{IsBlockOf}
use Rattle.graph_version.proofs.RowsAmong.{sources_of}
use Rattle.batch_shards.specs.{Closing.row_values, Done.{sources_in, IsShardDone, Exchanges}}
use Rattle.batch_shards.specs.{RowBlocks.{shared_blocks, shared_numbers}, declared.shard.{Shard.Shard, ShardDone.ShardDone}}
use Rattle.batch_shards.proofs.Exchanged.{nothing_exchanged, both_exchanged}

pub all_shards : (shards : List Shard) → all_sources (map sources_in shards) ≡ flat_map sources_in shards
all_shards [] = refl
all_shards (s ∷ shards) = ap (λ l. sources_in s ++ l) (all_shards shards)

abbrev pub rows_left : List ShardDone → List (ℕ × List BlockView)
rows_left dones = flat_map (λ d. row_values d.rows.items) dones

abbrev pub taken_left : List ShardDone → List ℕ
taken_left dones = flat_map (λ d. d.left.taken.items) dones

abbrev pub dropped_left : List ShardDone → List BlockView
dropped_left dones = flat_map (λ d. shared_blocks d.left.dropped.items) dones

abbrev pub unused_left : List ShardDone → List ℕ
unused_left dones = flat_map (λ d. shared_numbers d.left.unused.items) dones

abbrev pub fresh_all : List Shard → List ℕ
fresh_all shards = flat_map (λ s. shared_numbers s.fresh.items) shards

module _ (before : ℕ → List BlockView) where
  pub sources_left : (shards : List Shard) (dones : List ShardDone) → AllZip (IsShardDone before) shards dones
      → sources_of (rows_left dones) ≡ flat_map sources_in shards
  sources_left [] [] z = refl
  sources_left [] (d ∷ dones) z = absurd z
  sources_left (s ∷ shards) [] z = absurd z
  sources_left (s ∷ shards) (d ∷ dones) z =
      map-append (λ (r : ℕ × List BlockView). r.0) (row_values d.rows.items) (rows_left dones)
      ∙ ap₂ (λ a b. a ++ b) z.0.sources_are (sources_left shards dones z.1)

  pub blocks_left : (shards : List Shard) (dones : List ShardDone) → AllZip (IsShardDone before) shards dones
      → All (λ r. All (IsBlockOf r.0) r.1) (rows_left dones)
  blocks_left [] [] z = All-nil (λ (r : ℕ × List BlockView). All (IsBlockOf r.0) r.1)
  blocks_left [] (d ∷ dones) z = absurd z
  blocks_left (s ∷ shards) [] z = absurd z
  blocks_left (s ∷ shards) (d ∷ dones) z =
      All-append (λ (r : ℕ × List BlockView). All (IsBlockOf r.0) r.1) (row_values d.rows.items) (rows_left dones) z.0.blocks
      (blocks_left shards dones z.1)

  pub exchanged_left : (shards : List Shard) (dones : List ShardDone) → AllZip (IsShardDone before) shards dones
      → Exchanges (flat_map before (flat_map sources_in shards)) (flat_map (λ r. r.1) (rows_left dones)) (taken_left dones)
      (dropped_left dones)
  exchanged_left [] [] z = nothing_exchanged
  exchanged_left [] (d ∷ dones) z = absurd z
  exchanged_left (s ∷ shards) [] z = absurd z
  exchanged_left (s ∷ shards) (d ∷ dones) z =
      subst (λ b. Exchanges b (flat_map (λ r. r.1) (rows_left (d ∷ dones))) (taken_left (d ∷ dones)) (dropped_left (d ∷ dones)))
      (sym (flat_map-append before (sources_in s) (flat_map sources_in shards)))
      (subst (λ c. Exchanges (flat_map before (sources_in s) ++ flat_map before (flat_map sources_in shards)) c
      (taken_left (d ∷ dones)) (dropped_left (d ∷ dones)))
      (sym (flat_map-append (λ (r : ℕ × List BlockView). r.1) (row_values d.rows.items) (rows_left dones)))
      (both_exchanged (flat_map before (sources_in s)) (flat_map (λ r. r.1) (row_values d.rows.items))
      (flat_map before (flat_map sources_in shards)) (flat_map (λ r. r.1) (rows_left dones))
      d.left.taken.items (taken_left dones) (shared_blocks d.left.dropped.items) (dropped_left dones) z.0.exchanged
      (exchanged_left shards dones z.1)))

  pub handed_left : (shards : List Shard) (dones : List ShardDone) → AllZip (IsShardDone before) shards dones
      → (q : ℕ → Bool) → count_by q (taken_left dones) + count_by q (unused_left dones) ≡ count_by q (fresh_all shards)
  handed_left [] [] z q = refl
  handed_left [] (d ∷ dones) z q = absurd z
  handed_left (s ∷ shards) [] z q = absurd z
  handed_left (s ∷ shards) (d ∷ dones) z q = grind (arith, common_steps, handed_left shards dones z.1 q)
