use Rattle.std.proofs.Common.{rules}
use Rattle.block_reclamation.proofs.board.Board.settle.Goals as goal

-- Their searches are long where they fail.
pub invariant_of-self : goal.invariant_of-self
invariant_of-self c = search rules

pub returns : goal.returns
returns c = search rules
