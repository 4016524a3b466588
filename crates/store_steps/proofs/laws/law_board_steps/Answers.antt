use Rattle.store_steps.proofs.BoardSteps.{pins_as_machine, settles_as_machine, unpins_as_machine, raises_as_machine}
use Rattle.store_steps.proofs.laws.law_board_steps.Goals as goal

pub returns : goal.returns
returns c = record {
  pins = pins_as_machine;
  settles = settles_as_machine;
  unpins = unpins_as_machine;
  raises = raises_as_machine;
}
