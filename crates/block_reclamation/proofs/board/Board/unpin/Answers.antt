use Rattle.std.proofs.Common.{rules}
use Rattle.block_reclamation.proofs.board.Board.unpin.Goals as goal

-- Its search is long where it fails.
pub returns : goal.returns
returns c = search rules
