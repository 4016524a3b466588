-- What one operation exceeds, a batch exceeds; and the names that are left without looking at edges.
use Rattle.std.proofs.Common.{◌≡◌, ℕ, ◌<◌, ◌≤◌, List, length, get_or, drop, arith}
use Rattle.std.proofs.lemmas.Grind.{common_steps}
use Rattle.graph_types.specs.{Graph.Graph, Step.after, Step.after_all, declared.batches.NamedOp.NamedOp}
use Rattle.graph_types.specs.Parts.{names_after_all}
use Rattle.graph_types.proofs.{NameLists.{length-after_all-names, length-after_all-kinds}, OperationParts.names_of_all}
use Rattle.graph_types.proofs.LimitsKept.{limits_after_all}
use Rattle.graph_types.specs.{Refusals.IsLimitRefusal, declared.refusals.ApplyError.ApplyError}
use Rattle.graph_model.specs.Refusals.{Exceeds, IsNamesRefusal}

Exceeds-after_all : (e : ApplyError) (ops : List NamedOp) (g : Graph) → Exceeds e g → Exceeds e (after_all ops g)
Exceeds-after_all h0 ops g past = grind (arith, common_steps, length-after_all-names, length-after_all-kinds, limits_after_all)

pub Exceeds-drop : (e : ApplyError) (ops : List NamedOp) (i : ℕ) (op : NamedOp) (g : Graph) → i < length ops
    → op ≡ get_or ops i op → Exceeds e (after op g) → Exceeds e (after_all (drop i ops) g)
Exceeds-drop e h1 i op g l is past = grind (arith, common_steps, Exceeds-after_all, limits_after_all)

pub IsNamesRefusal-more : (e : ApplyError) (limit : ℕ) (xs ys : List (List ℕ)) → length xs ≤ length ys
    → IsNamesRefusal limit e xs → IsNamesRefusal limit e ys
IsNamesRefusal-more e limit xs ys more h4 = grind (arith, common_steps)

pub Refuses-names : (e : ApplyError) (ops : List NamedOp) (g : Graph) → IsNamesRefusal g.limits.names e (names_after_all ops g.names)
    → IsLimitRefusal e ops g
Refuses-names h0 ops g why = grind (arith, common_steps, names_of_all)
