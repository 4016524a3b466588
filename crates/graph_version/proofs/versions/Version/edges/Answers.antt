use Rattle.std.proofs.{Common.{◌∙◌, All, sym, subst, ap, arith}, lemmas.Grind.common_steps}
use Rattle.graph_types.specs.{Limits.IsWeightIn, declared.ids.Edge.Edge}
use Rattle.graph_version.specs.{Rows.blocks_of, Edges.edges_in_blocks, Versions.{VersionView, IsVersion, content}}
use Rattle.graph_version.proofs.{Shown.rows_each_once, InRange.edges_light}
use Rattle.graph_version.proofs.versions.Version.edges.Goals as goal

pub returns-clause-edges : goal.returns-clause-edges
returns-clause-edges c = c.over.ensures ∙ ap (λ (v : VersionView). edges_in_blocks (blocks_of v.rows)) c.self.view_is

pub returns-clause-each_once : goal.returns-clause-each_once
returns-clause-each_once c = grind (arith, common_steps, rows_each_once)

pub returns-clause-weights : goal.returns-clause-weights
returns-clause-weights c =
    let is : IsVersion c.args.self.now = rw (← c.self.view_is) c.self.invariant.version in
    subst (All (λ (e : Edge). IsWeightIn (content c.args.self.now).limits.weight e.weight))
    (sym (returns-clause-edges c)) (edges_light c.args.self.now is)
