use Rattle.std.{proofs.Common.{◌≡◌, ◌+◌, ◌≤◌, ◌++◌, map, length, vec_len}, specs.List.range_with_len}
use Rattle.stream_store.specs.Seats.{SeatView}
use Rattle.stream_store.proofs.opening.seats_of.Given as goal

abbrev pub invariant-loop-readers : goal.invariant-loop-readers
invariant-loop-readers l = (map (λ (s : SeatView). s.seen) l.seats.items ++ l.readers.items ≡ l.initial.readers.items)
    × (vec_len l.seats + length l.readers.items ≤ 16)
    × (map (λ (s : SeatView). s.number) l.seats.items ≡ range_with_len 0 (length l.seats.items))

abbrev pub decreases-loop-readers : goal.decreases-loop-readers
decreases-loop-readers l = length l.readers.items
