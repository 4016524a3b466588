use Rattle.std.proofs.Common.{rules}
use Rattle.block_reclamation.proofs.board.SeatNo.number.Goals as goal

-- Its search is long where it fails.
pub returns-clause-value : goal.returns-clause-value
returns-clause-value c = search rules
