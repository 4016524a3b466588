use Rattle.std.proofs.Common.{refl}
use Rattle.script_server.proofs.laws.law_examples.Goals as goal

pub returns : goal.returns
returns c = record {
  births = refl;
  free = refl;
  retired = refl;
  first_held = record { floor_are = refl; freed_are = refl; left_are = refl };
  second_held = record { floor_are = refl; freed_are = refl; left_are = refl };
  both_held = record { floor_are = refl; freed_are = refl; left_are = refl };
  last_held = record { floor_are = refl; freed_are = refl; left_are = refl };
  none_held = record { floor_are = refl; freed_are = refl; left_are = refl };
  empty_held = record { floor_are = refl; freed_are = refl; left_are = refl };
  rebased_batches = refl;
  rebased_held = refl;
  rebased_layout = refl;
  rebased_births = refl;
  rebased_free = refl;
  rebased_used = refl;
  rebased_retired = refl;
  after_rebased = refl;
}
