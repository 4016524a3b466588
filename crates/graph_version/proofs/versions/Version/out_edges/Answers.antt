use Rattle.std.proofs.Common.{◌∙◌, ◌≤◌, ◌*◌, List, All, length, sym, subst, ap}
use Rattle.graph_types.specs.{Graph.stamp_of, Limits.IsWeightIn, declared.ids.Edge.Edge}
use Rattle.edge_block.specs.Slots.{IsStamp}
use Rattle.graph_version.specs.{Rows.row_of, Edges.edges_in_blocks, Versions.{VersionView, IsVersion, content}}
use Rattle.graph_version.proofs.InRange.{edges_stamped, row_light, few_edges_in_row}
use Rattle.graph_version.proofs.versions.Version.out_edges.Goals as goal

pub returns-clause-edges : goal.returns-clause-edges
returns-clause-edges c =
    c.of_row.ensures.edges ∙ ap (λ (v : VersionView). edges_in_blocks (row_of v.rows c.args.source.0)) c.self.view_is

pub returns-clause-in_range : goal.returns-clause-in_range
returns-clause-in_range c =
    subst (All (λ (e : Edge). IsStamp (stamp_of e))) (sym c.of_row.ensures.edges) (edges_stamped _ c.of_row.ensures.each)

pub returns-clause-weights : goal.returns-clause-weights
returns-clause-weights c =
    let is : IsVersion c.args.self.now = rw (← c.self.view_is) c.self.invariant.version in
    subst (All (λ (e : Edge). IsWeightIn (content c.args.self.now).limits.weight e.weight))
    (sym (returns-clause-edges c)) (row_light c.args.self.now is c.args.source.0)

pub returns-clause-few : goal.returns-clause-few
returns-clause-few c =
    let is : IsVersion c.args.self.now = rw (← c.self.view_is) c.self.invariant.version in
    subst (λ (es : List Edge). length es ≤ length (content c.args.self.now).names * length (content c.args.self.now).kinds)
    (sym (returns-clause-edges c)) (few_edges_in_row c.args.self.now c.args.source.0 is)

pub returns-clause-version : goal.returns-clause-version
returns-clause-version c = rw (← c.self.view_is) c.self.invariant.version
