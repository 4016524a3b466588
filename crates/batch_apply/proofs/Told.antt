-- A batch's outcomes are told as they are: no expiry takes 2 ^ 64 edges.
use Rattle.std.proofs.Common.{◌≡◌, ◌+◌, ◌^◌, ◌<◌, List, [], ◌∷◌, length, map, refl, ap₂, arith}
use Rattle.std.specs.FinMap.{len}
use Rattle.graph_types.specs.{Graph.Graph, Step.{after, outcome, outcomes}}
use Rattle.graph_types.specs.declared.batches.NamedOp.{NamedOp}
use Rattle.graph_types.specs.declared.batches.Outcome.{Outcome}
use Rattle.graph_types.specs.Outcomes.{told}
use Rattle.graph_types.proofs.{Cases.at_most_one, OutcomeSteps.one_told}
use Rattle.batch_apply.{specs.Applied.is_inserted, proofs.EdgeCounts.op_len}

-- an operation makes at most one edge
pub told_exact : (ops : List NamedOp) (g : Graph) → len g.edges + length ops < 2 ^ 64
    → map told (outcomes ops g) ≡ outcomes ops g
told_exact [] g few = refl
told_exact (op ∷ ops) g few = ap₂ (λ (o : Outcome) (os : List Outcome). o ∷ os)
    (one_told op g (omega (arith, few)))
    (told_exact ops (after op g) (omega (arith, few, op_len op g, at_most_one (is_inserted (outcome op g)))))
