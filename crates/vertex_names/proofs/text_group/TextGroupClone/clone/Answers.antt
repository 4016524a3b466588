use Rattle.std.proofs.Common.{◌∙◌, ap, length}
use Rattle.vertex_names.specs.Texts.{names_in}
use Rattle.list_pieces.proofs.{Pieces.zipped_pieces, Shown.zipped_flat}
use Rattle.vertex_names.proofs.text_group.TextGroupClone.clone.Goals as goal

pub invariant_of-result : goal.invariant_of-result
invariant_of-result c = (
  ap length (zipped_flat names_in _ _ c.in_ok-clone.ensures.cases.0) ∙ c.self.invariant.0,
  zipped_pieces 256 names_in _ _ c.in_ok-clone.ensures.cases.0 c.self.invariant.1,
)

pub returns : goal.returns
returns c = record { cases = rw (← c.self.view_is) (zipped_flat names_in _ _ c.in_ok-clone.ensures.cases.0) }
