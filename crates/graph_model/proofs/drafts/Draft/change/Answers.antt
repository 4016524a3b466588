-- The steps of the body are those of a change on plain lists.
use Rattle.std.{proofs.Common.{◌≡◌, ◌∙◌, ap, arith}, specs.{Option.option_map, FinMap.get}}
use Rattle.std.proofs.lemmas.Grind.{common_steps}
use Rattle.graph_types.specs.{Graph.{graph_in, map_of}, Step.changed_key, Changes.option_stamp}
use Rattle.graph_types.proofs.{ChangedContents.AreMarks-found, ListedNames.at_most}
use Rattle.graph_types.proofs.ChangedContents.{IsApplied, graph_in-applied, IsContentIn-applied}
use Rattle.graph_model.specs.Drafts.{shown_by, shown_key, edge_with}
use Rattle.graph_model.proofs.drafts.Draft.change.Goals as goal

pub of-key-requires-clause-kind : goal.of-key-requires-clause-kind
of-key-requires-clause-kind c =
    let place = at_most _ _ _ _ c.number_of.ensures c.as_slice.ensures.value in
    omega (
      arith,
      place,
      c.in_ok-make_kind.ensures.few
          (omega (arith, c.requires.content.kinds_few, c.kinds.ensures.number)),
      c.kinds.ensures.number,
      c.kinds.ensures.limits.kinds,
    )

pub of-key-requires-clause-source : goal.of-key-requires-clause-source
of-key-requires-clause-source c =
    let place = at_most _ _ _ _ c.number_of-2.ensures c.as_slice-2.ensures.value in
    omega (
      arith,
      place,
      c.in_ok-make_names.ensures.few
          (omega (arith, c.requires.content.names_few, c.names.ensures.number)),
      c.names.ensures.number,
      c.names.ensures.limits.names,
    )

pub of-key-requires-clause-target : goal.of-key-requires-clause-target
of-key-requires-clause-target c =
    let place = at_most _ _ _ _ c.number_of-3.ensures c.as_slice-3.ensures.value in
    omega (
      arith,
      place,
      c.in_ok-make_names.ensures.few
          (omega (arith, c.requires.content.names_few, c.names.ensures.number)),
      c.names.ensures.number,
      c.names.ensures.limits.names,
    )

pub change_edge-outcome-requires-clause-before : goal.change_edge-outcome-requires-clause-before
change_edge-outcome-requires-clause-before c =
    AreMarks-found (shown_by c.args.self.now) (shown_key c.of-key.result) c.marks_at-before.result c.requires.content.content
    (c.marks_at-before.ensures ∙ ap (λ edges. get (map_of edges) (shown_key c.of-key.result)) c.as_slice-4.ensures.value)

stood : (c : goal.In_ok-put_at) → option_stamp c.marks_at-before.result
    ≡ get (map_of c.args.self.now.edges.items) (shown_key c.of-key.result)
stood c = c.marks_at-before.ensures ∙ ap (λ edges. get (map_of edges) (shown_key c.of-key.result)) c.as_slice-4.ensures.value

numbers : (c : goal.In_ok-put_at) → shown_key c.of-key.result
    ≡ changed_key c.args.change c.args.kind.now c.args.source.now c.args.target.now (graph_in c.args.limits (shown_by c.args.self.now))
numbers c = grind (arith, common_steps)

applied : (c : goal.In_ok-put_at)
    → IsApplied c.args.change c.args.kind.now c.args.source.now c.args.target.now (shown_by c.args.self.now)
    (shown_by (record { names = c.make_names.new.names; kinds = c.make_kind.new.kinds; edges = c.put_at.new.edges }))
    (shown_key c.of-key.result) (option_map (edge_with c.of-key.result) c.change_edge-outcome.result.1)
applied c = grind (arith, common_steps)

pub returns-clause-graph : goal.returns-clause-graph
returns-clause-graph c = graph_in-applied _ _ _ _ _ _ _ _ (applied c) c.args.limits

pub returns-clause-content : goal.returns-clause-content
returns-clause-content c =
    IsContentIn-applied _ _ _ _ _ _ _ _ _ c.names.ensures.limits c.requires.most (applied c) c.requires.content (omega (
      arith,
      c.in_ok-make_names.ensures.few
          (omega (arith, c.requires.content.names_few, c.names.ensures.number)),
      c.names.ensures.number,
    ))
    (omega (
      arith,
      c.in_ok-make_kind.ensures.few
          (omega (arith, c.requires.content.kinds_few, c.kinds.ensures.number)),
      c.kinds.ensures.number,
    ))
