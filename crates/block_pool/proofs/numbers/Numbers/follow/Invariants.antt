use Rattle.std.{proofs.Common.◌≡◌, proofs.Common.◌<◌, proofs.Common.ℕ, proofs.Common.None, specs.Prelude.slice_index_or}
use Rattle.block_pool.specs.Kept.{statuses, IsNumbers}
use Rattle.block_pool.proofs.numbers.Numbers.follow.Given as goal

abbrev pub invariant-loop-seat : goal.invariant-loop-seat
invariant-loop-seat l = record {
  kept : IsNumbers l.self;
  after : statuses l.self ≡ statuses l.initial.self;
  pins : (s : ℕ) → s < l.seat → slice_index_or l.copy.settled s None ≡ slice_index_or l.self.pins s None;
}
