-- A plan's names are those that the batch rule leaves, and its refusals the batch rule's.
use Rattle.std.proofs.Common.{◌≡◌, ◌∙◌, List, sym, ap, arith}
use Rattle.std.proofs.lemmas.Grind.{common_steps}
use Rattle.graph_types.specs.{Graph.Graph, Step.after_all, declared.batches.NamedOp.NamedOp}
use Rattle.graph_types.proofs.LimitsKept.{limits_after_all}
use Rattle.graph_types.{specs.Parts.{names_after_all, kinds_after_all}, proofs.OperationParts.{names_of_all, kinds_of_all}}
use Rattle.vertex_names.specs.Book.{Book}
use Rattle.graph_version.specs.Kept.{vertex_book, kind_book}
use Rattle.graph_types.specs.{Refusals.IsLimitRefusal, declared.refusals.ApplyError.ApplyError}
use Rattle.batch_apply.specs.Plan.{with_names, graph_named, IsUnplanned}

pub names_book : (ops : List NamedOp) (g : Graph) (old new : Book) → old ≡ vertex_book g
    → new ≡ with_names old (names_after_all ops old.names) → new ≡ vertex_book (after_all ops g)
names_book ops g old new was is = grind (arith, common_steps, names_of_all, limits_after_all)

pub kinds_book : (ops : List NamedOp) (g : Graph) (old new : Book) → old ≡ kind_book g
    → new ≡ with_names old (kinds_after_all ops old.names) → new ≡ kind_book (after_all ops g)
kinds_book ops g old new was is = grind (arith, common_steps, kinds_of_all, limits_after_all)

-- the batch rule's refusal is that of the books of the graph's names
pub plan_refused : (error : ApplyError) (ops : List NamedOp) (g : Graph) (names kinds : Book) → names ≡ vertex_book g
    → kinds ≡ kind_book g → IsUnplanned error ops names kinds → IsLimitRefusal error ops g
plan_refused error ops g names kinds names_are kinds_are refused =
    let by : Graph = graph_named names kinds in
    let same_names : (after_all ops by).names ≡ (after_all ops g).names =
    sym (names_of_all ops by) ∙ ap (λ (b : Book). names_after_all ops b.names) names_are ∙ names_of_all ops g in
    let same_kinds : (after_all ops by).kinds ≡ (after_all ops g).kinds =
    sym (kinds_of_all ops by) ∙ ap (λ (b : Book). kinds_after_all ops b.names) kinds_are ∙ kinds_of_all ops g in
    let names_few : names.limit ≡ g.limits.names = ap (λ (b : Book). b.limit) names_are in
    let kinds_few : kinds.limit ≡ g.limits.kinds = ap (λ (b : Book). b.limit) kinds_are in
    grind (arith, common_steps, same_names, same_kinds, names_few, kinds_few)

-- and it is that of the books that some of the operations leave, and of the others
pub unplanned_all : (error : ApplyError) (ops rest : List NamedOp) (names kinds more_names more_kinds : Book)
    → names_after_all rest more_names.names ≡ names_after_all ops names.names
    → kinds_after_all rest more_kinds.names ≡ kinds_after_all ops kinds.names
    → more_names.limit ≡ names.limit → more_kinds.limit ≡ kinds.limit
    → IsUnplanned error rest more_names more_kinds → IsUnplanned error ops names kinds
unplanned_all error ops rest names kinds more_names more_kinds left_names left_kinds names_few kinds_few refused =
    let later : Graph = graph_named more_names more_kinds in
    let first : Graph = graph_named names kinds in
    let same_names : (after_all rest later).names ≡ (after_all ops first).names =
    sym (names_of_all rest later) ∙ left_names ∙ names_of_all ops first in
    let same_kinds : (after_all rest later).kinds ≡ (after_all ops first).kinds =
    sym (kinds_of_all rest later) ∙ left_kinds ∙ kinds_of_all ops first in
    grind (arith, common_steps, same_names, same_kinds, names_few, kinds_few)
