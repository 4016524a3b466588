use Rattle.epoch_core.proofs.{Steps.always_sound, Collected.leaves_what_pins_need, Collected.leaves_none_unpinned}
use Rattle.epoch_core.proofs.laws.law_collection.Goals as goal

pub returns : goal.returns
returns c = record {
  left = λ start events is. leaves_what_pins_need _ (always_sound start events is);
  none = λ start events is. leaves_none_unpinned _ (always_sound start events is);
}
