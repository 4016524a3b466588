use Rattle.epoch_core.proofs.{Steps.always_sound, Sizes.blocks_run, Epochs.fills_no_held, Epochs.pins_in_order, Epochs.partition}
use Rattle.epoch_core.proofs.laws.law_epoch.Goals as goal

pub returns : goal.returns
returns c = record {
  fills = λ start events is. fills_no_held _ (always_sound start events is);
  pins = λ start events is. pins_in_order _ (always_sound start events is);
  partition = λ start events is. partition _ _ (always_sound start events is) (blocks_run start.world events);
}
