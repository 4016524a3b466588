-- Sums over the sources of shards are sums over all sources.
use Rattle.std.proofs.Common.{◌≡◌, ℕ, ◌%◌, ◌==◌, List, [], ◌∷◌, true}
use Rattle.std.proofs.Common.{refl, sym, ap, ap₂, ◌∙◌, arith}
use Rattle.std.proofs.lemmas.Grind.{common_steps}
use Rattle.graph_types.specs.{Graph.Graph, declared.batches.NamedOp.NamedOp}
use Rattle.edge_block.specs.{Rows.{Shape, OpenBlock}, Batches.{Resolved, resolved}}
use Rattle.edge_block.{specs.Batches.{rows_all, rows_step, outcome_in, outcomes_all}, proofs.ShardLaws.shard_rows}
use Rattle.batch_apply.specs.Shards.{acts, unsourced, IsShardOf}
use Rattle.batch_shards.specs.{Done.steps_in, declared.shard.Shard.Shard}

-- rows and outcomes don't depend on the sources' numbers beside the keys
unsourced_rows : (r : Resolved) (rows : ℕ → List OpenBlock) → rows_step (unsourced r) rows ≡ rows_step r rows
unsourced_rows r rows = grind (arith, common_steps)

unsourced_outcome : (over : List ℕ) (r : Resolved) (rows : ℕ → List OpenBlock)
    → outcome_in over (unsourced r) rows ≡ outcome_in over r rows
unsourced_outcome over r rows = grind (arith, common_steps)

acts_rows : (rs : List Resolved) (rows : ℕ → List OpenBlock) → rows_all (acts rs) rows ≡ rows_all rs rows
acts_rows [] rows = refl
acts_rows (r ∷ rs) rows = ap (rows_all (acts rs)) (unsourced_rows r rows) ∙ acts_rows rs (rows_step r rows)

acts_outcomes : (over : List ℕ) (rs : List Resolved) (rows : ℕ → List OpenBlock)
    → outcomes_all over (acts rs) rows ≡ outcomes_all over rs rows
acts_outcomes over [] rows = refl
acts_outcomes over (r ∷ rs) rows = ap₂ (λ o os. o ∷ os) (unsourced_outcome over r rows)
    (ap (outcomes_all over (acts rs)) (unsourced_rows r rows) ∙ acts_outcomes over rs (rows_step r rows))

pub same_rows : (rs ss : List Resolved) → acts rs ≡ acts ss → (rows : ℕ → List OpenBlock) → rows_all rs rows ≡ rows_all ss rows
same_rows rs ss e rows = sym (acts_rows rs rows) ∙ ap (λ xs. rows_all xs rows) e ∙ acts_rows ss rows

pub same_outcomes : (over : List ℕ) (rs ss : List Resolved) → acts rs ≡ acts ss → (rows : ℕ → List OpenBlock)
    → outcomes_all over rs rows ≡ outcomes_all over ss rows
same_outcomes over rs ss e rows = grind (arith, common_steps, acts_outcomes)

-- a worker's shard leaves the rows of its sources as the batch does
pub worker_rows : (workers w : ℕ) (ops : List NamedOp) (g : Graph) (layout : ℕ → List Shape) (shard : Shard)
    → IsShardOf workers (resolved ops g) layout w shard → (rows : ℕ → List OpenBlock) (source : ℕ)
    → (source % workers == w) ≡ true
    → rows_all (steps_in shard) rows source ≡ rows_all (resolved ops g) rows source
worker_rows workers w ops g layout shard is rows source own = grind (arith, common_steps, same_rows, shard_rows)
