-- A plan: a batch's operations with the numbers of their names, by shard.
use Rattle.std.specs.{Prelude.{ℕ, ◌+◌, List, [], ◌∷◌, map, Bool}, List.enumerate_from}
use Rattle.graph_types.specs.{Graph.Graph, declared.batches.{NamedOp.NamedOp, Outcome.Outcome}}
use Rattle.edge_block.specs.{Rows.OpenBlock, Batches.{Resolved, resolved, is_in_shard, outcomes_all, picked}}
pub use Rattle.graph_types.specs.Outcomes.{told, written}

-- the batch's operations, each with its place
abbrev pub placed_ops : List NamedOp → Graph → List (ℕ × Resolved)
placed_ops ops g = enumerate_from 0 (resolved ops g)

-- the operations of a shard without their places
abbrev pub shard_operations : List (ℕ × Resolved) → List Resolved
shard_operations shard = map (λ p. p.1) shard

-- the results of the operations that pass, each with its place
abbrev pub results : {A : Type 0} → (Resolved → Bool) → List Resolved → List A → ℕ → List (ℕ × A)
results p rs ys k = picked (λ (x : ℕ × Resolved). p x.1) (enumerate_from k rs) (enumerate_from k ys)

-- the outcomes in shards with these sources, of workers from w on, written one shard after another
abbrev pub written_all : ℕ → ℕ → List (List ℕ) → List Resolved → (ℕ → List OpenBlock) → List Outcome → List Outcome
written_all workers w [] rs rows xs = xs
written_all workers w (sources ∷ shards) rs rows xs =
    written_all workers (w + 1) shards rs rows
    (written (results (is_in_shard workers w) rs (map told (outcomes_all sources rs rows)) 0) xs)
