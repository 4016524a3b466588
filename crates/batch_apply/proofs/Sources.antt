-- An operation's source is one of the vertices that the batch leaves.
use Rattle.std.proofs.Common.{◌≡◌, ◌<◌, ℕ, List, [], ◌∷◌, length, ◌≤◌, ap, subst, All, arith}
use Rattle.std.proofs.lemmas.{List.Elements.{All-nil, All-cons}, Grind.common_steps}
use Rattle.graph_types.specs.{Graph.Graph, Step.after_all, declared.batches.NamedOp.NamedOp}
use Rattle.graph_types.proofs.{NameLists.number_of-lt, OperationParts.{no_fewer_all, names_of_all}}
use Rattle.graph_types.specs.Parts.{Parts, OfEdge, OfAll, parts_in, names_after, kinds_after, names_after_all}
use Rattle.graph_types.proofs.PickedStamps.{below_if}
use Rattle.edge_block.specs.{Rows.Shape, Batches.{resolve_parts, resolved, resolved_by, HasEndsWithin, IsLayoutOf}}
use Rattle.batch_shards.specs.{Done.sources_in, declared.shard.Shard.Shard}
use Rattle.batch_apply.{specs.Shards.{IsSourceBelow, IsShardOf, latest_expiry}, proofs.OldRows.old_within}

one_below : (names kinds : List (List ℕ)) (op : Parts) (n : ℕ) → length names ≤ n
    → IsSourceBelow n (resolve_parts names kinds op)
one_below names kinds (OfEdge change kind source target) n few = grind (arith, common_steps, below_if, number_of-lt)
one_below names kinds (OfAll time) n few = tt

all_below : (most : ℕ) (ops : List NamedOp) (names kinds : List (List ℕ))
    → All (IsSourceBelow (length (names_after_all ops names))) (resolved_by most ops names kinds)
all_below most [] names kinds = All-nil (IsSourceBelow (length names))
all_below most (op ∷ ops) names kinds =
    let n : ℕ = length (names_after_all ops (names_after op names)) in
    All-cons (IsSourceBelow n) (resolve_parts (names_after op names) (kinds_after op kinds) (parts_in most op))
    (resolved_by most ops (names_after op names) (kinds_after op kinds))
    (one_below (names_after op names) (kinds_after op kinds) (parts_in most op) n (no_fewer_all ops (names_after op names)))
    (all_below most ops (names_after op names) (kinds_after op kinds))

pub sources_within : (workers worker : ℕ) (ops : List NamedOp) (g : Graph) (layout : ℕ → List Shape) (shard : Shard)
    → HasEndsWithin g → IsLayoutOf layout g.edges → IsShardOf workers (resolved ops g) layout worker shard
    → All (λ s. s < length (after_all ops g).names) (sources_in shard)
sources_within workers worker ops g layout shard within shows is =
    let more = no_fewer_all ops g.names in
    let left : length (names_after_all ops g.names) ≡ length (after_all ops g).names = ap length (names_of_all ops g) in
    is.within (length (after_all ops g).names) (subst (λ ns. All (IsSourceBelow (length ns)) (resolved ops g))
    (names_of_all ops g) (all_below g.limits.weight ops g.names g.kinds))
    (λ s old. let lt = old_within g layout (latest_expiry (resolved ops g)) s within shows old in omega
    (arith, lt, more, left))
