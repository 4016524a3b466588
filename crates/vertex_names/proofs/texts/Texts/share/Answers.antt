use Rattle.std.proofs.Common.{◌∙◌, ap, length}
use Rattle.vertex_names.specs.Groups.{in_text_group}
use Rattle.list_pieces.proofs.{Pieces.zipped_pieces, Shown.zipped_flat}
use Rattle.vertex_names.proofs.texts.Texts.share.Goals as goal

pub invariant_of-result : goal.invariant_of-result
invariant_of-result c = (
  ap length (zipped_flat in_text_group _ _ c.in_ok-clone.ensures.cases.0)
      ∙ c.self.invariant.0,
  zipped_pieces 32768 in_text_group _ _ c.in_ok-clone.ensures.cases.0 c.self.invariant.1,
)

pub returns : goal.returns
returns c = rw (← c.self.view_is) (zipped_flat in_text_group _ _ c.in_ok-clone.ensures.cases.0)
