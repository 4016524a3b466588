use Rattle.store_steps.proofs.Examples.{are_examples}
use Rattle.store_steps.proofs.laws.law_examples.Goals as goal

pub returns : goal.returns
returns c = are_examples
