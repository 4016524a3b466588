use Rattle.store_steps.proofs.BatchLaws.{applied_accepted, applied_desk, applied_moves, accepted_steps}
use Rattle.store_steps.proofs.StatusCounts.{accepted_counts}
use Rattle.store_steps.proofs.laws.law_accepted.Goals as goal

pub returns : goal.returns
returns c = record {
  accepted = applied_accepted;
  desk = applied_desk;
  moves = applied_moves;
  counts = accepted_counts;
  steps = accepted_steps;
}
