-- What shards leave, put together, is what the batch leaves.
use Rattle.std.proofs.Common.{◌≡◌, ℕ, ◌%◌, ◌==◌, List, map, filter, zip, true, ap, ◌∙◌, All}
use Rattle.std.specs.List.{enumerate_from}
use Rattle.graph_types.specs.{Graph.Graph, declared.batches.NamedOp.NamedOp, declared.batches.Outcome.Outcome}
use Rattle.edge_block.specs.{Rows.Shape, Batches.{Resolved, resolved, is_in_shard, shard_ops, picked}}
use Rattle.edge_block.{specs.Batches.{outcomes_all, opened_rows}, proofs.ShardLaws.shard_outcomes}
use Rattle.batch_apply.specs.Plans.{placed_ops, shard_operations}
use Rattle.graph_types.specs.Outcomes.{told}
use Rattle.edge_block.proofs.ShardResults.{shard_is, map_picked, placed_results}

module _ (workers w : ℕ) (ops : List NamedOp) (g : Graph) (layout : ℕ → List Shape) where
  abbrev shard : List (ℕ × Resolved)
  shard = filter (λ p. is_in_shard workers w p.1) (placed_ops ops g)

  pub same_ops : shard_operations shard ≡ shard_ops workers w (resolved ops g)
  same_ops = shard_is (is_in_shard workers w) (resolved ops g) 0

  -- a shard's outcomes over some of its sources stand at their places of the batch's over these
  pub shard_places : (sources : List ℕ) → All (λ s. (s % workers == w) ≡ true) sources
      → zip (map (λ x. x.0) shard) (map told (outcomes_all sources (shard_operations shard) (opened_rows layout)))
      ≡ picked (λ (x : ℕ × Resolved). is_in_shard workers w x.1) (placed_ops ops g)
      (enumerate_from 0 (map told (outcomes_all sources (resolved ops g) (opened_rows layout))))
  shard_places sources own =
      let all : List Outcome = outcomes_all sources (resolved ops g) (opened_rows layout) in
      ap (λ rs. zip (map (λ x. x.0) shard) (map told (outcomes_all sources rs (opened_rows layout)))) same_ops
      ∙ ap (λ os. zip (map (λ x. x.0) shard) (map told os))
      (shard_outcomes workers w g.limits.weight ops g.names g.kinds (opened_rows layout) sources own)
      ∙ ap (zip (map (λ x. x.0) shard)) (map_picked told (is_in_shard workers w) (resolved ops g) all)
      ∙ placed_results (is_in_shard workers w) (resolved ops g) (map told all) 0
