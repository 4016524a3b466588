use Rattle.std.proofs.Common.{◌∙◌, sym, subst}
use Rattle.graph_version.specs.Ages.{AreSince}
use Rattle.std.specs.List.{each_same}
use Rattle.graph_version.proofs.row_page.PartClone.clone.Goals as goal

pub invariant_of-result : goal.invariant_of-result
invariant_of-result c = (
  subst (AreSince c.self.inside.since) (sym (each_same _ _ c.in_ok-clone.ensures.cases.whole)) c.self.invariant.0,
  c.in_ok-clone.ensures.cases.long,
)

pub returns : goal.returns
returns c = record { cases = each_same _ _ c.in_ok-clone.ensures.cases.whole ∙ c.self.view_is }
