use Rattle.owned_desk.proofs.OwnedHeld.{held_are_snapshots, leaves_held_blocks, run_goes_on, starts, stays_numbered}
use Rattle.owned_desk.proofs.laws.law_owned_desk.Goals as goal

pub returns : goal.returns
returns c = record {
  opened = starts;
  runs = run_goes_on;
  versions = stays_numbered;
  snapshots = held_are_snapshots;
  collections = leaves_held_blocks;
}
