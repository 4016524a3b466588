use Rattle.std.proofs.Common.{rules}
use Rattle.block_reclamation.proofs.board.Board.floor.Goals as goal

-- Their searches are long where they fail.
pub returns-clause-value : goal.returns-clause-value
returns-clause-value c = search rules

pub returns-clause-below_pins : goal.returns-clause-below_pins
returns-clause-below_pins c = search rules
