use Rattle.epoch_core.proofs.{Steps.always_sound, HeldBlocks.leaves_what_is_held, HeldBlocks.leaves_what_may_be_held}
use Rattle.epoch_core.proofs.laws.law_exact_collection.Goals as goal

pub returns : goal.returns
returns c = record {
  held = λ start events is. leaves_what_is_held _ (always_sound start events is);
  may_be_held = λ start events is. leaves_what_may_be_held _ (always_sound start events is);
}
