use Rattle.std.proofs.Common.{ap, ◌∙◌}
use Rattle.stream_store.specs.Seats.{SessionView}
use Rattle.stream_store.proofs.seats.PinnedSeat.enter.Goals as goal

-- Its search is long where it fails.
pub returns-clause-number : goal.returns-clause-number
returns-clause-number g c = ap (λ (s : SessionView). s.number) c.settle.ensures ∙ c.look.ensures.number
