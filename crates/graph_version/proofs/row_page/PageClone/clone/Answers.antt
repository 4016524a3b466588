use Rattle.std.proofs.Common.{◌∙◌, sym, subst}
use Rattle.graph_version.specs.{Ages.AreSince, Parts.in_part}
use Rattle.list_pieces.proofs.{Full.zipped_full, Shown.zipped_flat}
use Rattle.graph_version.proofs.row_page.PageClone.clone.Goals as goal

pub invariant_of-result : goal.invariant_of-result
invariant_of-result c = (
  zipped_full 8 in_part _ _ c.in_ok-parts.ensures.cases.whole c.self.invariant.0,
  c.in_ok-parts.ensures.cases.long,
  subst (AreSince c.self.inside.since) (sym (zipped_flat in_part _ _ c.in_ok-parts.ensures.cases.whole)) c.self.invariant.2,
)

pub returns : goal.returns
returns c = record { cases = zipped_flat in_part _ _ c.in_ok-parts.ensures.cases.whole ∙ c.self.view_is }
