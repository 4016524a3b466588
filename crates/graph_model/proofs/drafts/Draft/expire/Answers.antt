-- The edges that stay show the map without the others, and the list is shorter by those that went.
use Rattle.std.proofs.Common.{length, ap, sym, ◌∙◌, arith, subst}
use Rattle.graph_types.specs.{Graph.{Graph, content_of, graph_in, IsContentIn}, declared.batches.Outcome.TheVariants.Expired}
use Rattle.graph_types.proofs.Expiry.{map_of-later, count_before-map_of, count-later}
use Rattle.graph_types.proofs.ChangedContents.{IsContentIn-later}
use Rattle.graph_model.specs.Drafts.{shown_by}
use Rattle.graph_model.proofs.drafts.Draft.expire.Goals as goal

pub overflow_sub-result : goal.overflow_sub-result
overflow_sub-result c =
    omega (
      arith,
      ap length c.as_slice-before.ensures.value,
      ap length c.as_slice-after.ensures.value,
      ap length c.clear_before.ensures,
      count-later c.args.time c.args.self.now.edges.items,
    )

pub returns-clause-outcome : goal.returns-clause-outcome
returns-clause-outcome c =
    let gone = count_before-map_of c.args.time c.args.self.now.edges.items c.requires.content.keys_distinct in
    let all = count-later c.args.time c.args.self.now.edges.items in
    let first = ap length c.as_slice-before.ensures.value in
    let second = ap length c.as_slice-after.ensures.value in
    let left = ap length c.clear_before.ensures in
    ap (λ n. Expired n) (omega arith)

pub returns-clause-graph : goal.returns-clause-graph
returns-clause-graph c =
    let names = c.args.self.now.names.items in
    let kinds = c.args.self.now.kinds.items in
    ap (λ edges. graph_in c.args.limits (content_of names kinds edges)) c.clear_before.ensures
    ∙ ap (λ edges. let g : Graph = record { names = names; kinds = kinds; edges = edges; limits = c.args.limits } in g)
    (map_of-later c.args.time c.args.self.now.edges.items c.requires.content.keys_distinct)

pub returns-clause-content : goal.returns-clause-content
returns-clause-content c =
    subst (λ edges. IsContentIn c.args.limits (content_of c.args.self.now.names.items c.args.self.now.kinds.items edges))
    (sym c.clear_before.ensures) (IsContentIn-later c.args.limits c.args.time (shown_by c.args.self.now) c.requires)
