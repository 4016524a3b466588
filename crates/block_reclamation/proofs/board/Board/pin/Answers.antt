use Rattle.std.proofs.Common.{rules}
use Rattle.block_reclamation.proofs.board.Board.pin.Goals as goal

-- Their searches are long where they fail.
pub returns-clause-pinned : goal.returns-clause-pinned
returns-clause-pinned c = search rules

pub returns-clause-there : goal.returns-clause-there
returns-clause-there c = search rules
