use Rattle.epoch_core.proofs.Examples.{are_examples}
use Rattle.epoch_core.proofs.laws.law_examples.Goals as goal

pub returns : goal.returns
returns c = are_examples
