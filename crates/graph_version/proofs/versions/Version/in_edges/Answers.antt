use Rattle.std.proofs.Common.{◌∙◌, All, sym, subst, ap}
use Rattle.std.proofs.lemmas.List.Elements.{All-filter}
use Rattle.graph_types.specs.{Limits.IsWeightIn, declared.ids.Edge.Edge}
use Rattle.graph_version.specs.{Rows.blocks_of, Edges.edges_in_blocks, InEdges.{edges_into, leads_into}}
use Rattle.graph_version.specs.Versions.{VersionView, IsVersion, content}
use Rattle.graph_version.proofs.InRange.{edges_light}
use Rattle.graph_version.proofs.versions.Version.in_edges.Goals as goal

pub returns-clause-edges : goal.returns-clause-edges
returns-clause-edges c =
    c.over.ensures ∙ ap (λ (v : VersionView). edges_into c.args.target.0 (edges_in_blocks (blocks_of v.rows))) c.self.view_is

pub returns-clause-weights : goal.returns-clause-weights
returns-clause-weights c =
    let v : VersionView = c.args.self.now in
    let is : IsVersion v = rw (← c.self.view_is) c.self.invariant.version in
    subst (All (λ (e : Edge). IsWeightIn (content v).limits.weight e.weight)) (sym (returns-clause-edges c))
    (All-filter (leads_into c.args.target.0) (λ (e : Edge). IsWeightIn (content v).limits.weight e.weight)
    (edges_in_blocks (blocks_of v.rows)) (edges_light v is))

pub returns-clause-version : goal.returns-clause-version
returns-clause-version c = rw (← c.self.view_is) c.self.invariant.version
