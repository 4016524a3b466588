use Rattle.std.proofs.Common.{◌∙◌}
use Rattle.graph_version.specs.RowPages.{in_page}
use Rattle.list_pieces.proofs.{Full.zipped_full, Shown.zipped_flat}
use Rattle.graph_version.proofs.row_group.GroupClone.clone.Goals as goal

pub invariant_of-result : goal.invariant_of-result
invariant_of-result c =
    (zipped_full 64 in_page _ _ c.in_ok-clone.ensures.cases.whole c.self.invariant.0, c.in_ok-clone.ensures.cases.long)

pub returns : goal.returns
returns c = record { cases = zipped_flat in_page _ _ c.in_ok-clone.ensures.cases.whole ∙ c.self.view_is }
