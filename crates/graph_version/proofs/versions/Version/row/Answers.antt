use Rattle.std.proofs.Common.{◌∙◌, ◌≤◌, ◌*◌, List, All, length, sym, subst, ap}
use Rattle.graph_types.specs.Limits.{IsWeightIn}
use Rattle.edge_block.specs.{Slots.{IsStamp}, Lending.LentEdge}
use Rattle.graph_version.specs.{Rows.row_of, Lending.{lent_in_blocks}, Versions.{VersionView, IsVersion, content}}
use Rattle.graph_version.proofs.InRange.{lent_stamped, lent_light, few_lent}
use Rattle.graph_version.proofs.versions.Version.row.Goals as goal

pub returns-clause-lends : goal.returns-clause-lends
returns-clause-lends c =
    c.over.ensures ∙ ap lent_in_blocks c.row_blocks.ensures.blocks
    ∙ ap (λ (v : VersionView). lent_in_blocks (row_of v.rows c.args.source.0)) c.self.view_is

pub returns-clause-in_range : goal.returns-clause-in_range
returns-clause-in_range c =
    let row = c.over.ensures ∙ ap lent_in_blocks c.row_blocks.ensures.blocks in
    subst (All (λ (e : LentEdge). IsStamp e.stamp)) (sym row) (lent_stamped _ c.row_blocks.ensures.each)

pub returns-clause-weights : goal.returns-clause-weights
returns-clause-weights c =
    let is : IsVersion c.args.self.now = rw (← c.self.view_is) c.self.invariant.version in
    subst (All (λ (e : LentEdge). IsWeightIn (content c.args.self.now).limits.weight e.stamp.weight))
    (sym (returns-clause-lends c)) (lent_light c.args.self.now is c.args.source.0)

pub returns-clause-few : goal.returns-clause-few
returns-clause-few c =
    let is : IsVersion c.args.self.now = rw (← c.self.view_is) c.self.invariant.version in
    subst (λ (es : List LentEdge). length es ≤ length (content c.args.self.now).names * length (content c.args.self.now).kinds)
    (sym (returns-clause-lends c)) (few_lent c.args.self.now c.args.source.0 is)

pub returns-clause-version : goal.returns-clause-version
returns-clause-version c = rw (← c.self.view_is) c.self.invariant.version
