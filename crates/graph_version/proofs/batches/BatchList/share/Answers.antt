use Rattle.std.proofs.Common.{◌∙◌, ap, length}
use Rattle.graph_version.specs.BatchHalls.{in_hall}
use Rattle.list_pieces.proofs.{Pieces.zipped_pieces, Shown.zipped_flat}
use Rattle.graph_version.proofs.batches.BatchList.share.Goals as goal

pub invariant_of-result : goal.invariant_of-result
invariant_of-result c = (
  ap length (zipped_flat in_hall _ _ c.in_ok-clone.ensures.cases.0) ∙ c.self.invariant.0,
  zipped_pieces 8192 in_hall _ _ c.in_ok-clone.ensures.cases.0 c.self.invariant.1,
  c.self.invariant.2,
)

pub returns : goal.returns
returns c = rw (← c.self.view_is) (zipped_flat in_hall _ _ c.in_ok-clone.ensures.cases.0)
