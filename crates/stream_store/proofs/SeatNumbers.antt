-- Seats that are numbered in order.
use Rattle.std.proofs.Common.{◌≡◌, ℕ, ◌+◌, ◌<◌, ◌≤◌, List, [], ◌∷◌, map, length, get_or, sym, ap, ◌∙◌, arith}
use Rattle.std.proofs.lemmas.List.{get_or-map, FromFn.get_or-range_with_len}
use Rattle.std.specs.List.{range_with_len}
use Rattle.stream_store.specs.Seats.{SeatView}

pub numbered : (seats : List SeatView) (n : ℕ) → map (λ (s : SeatView). s.number) seats ≡ range_with_len 0 n
    → (slot : ℕ) (d : SeatView)
    → slot < length seats → length seats ≤ n → (get_or seats slot d).number ≡ slot
numbered seats n same slot d below few =
    sym (get_or-map (λ (s : SeatView). s.number) seats slot d d.number below)
    ∙ (ap (λ numbers. get_or numbers slot d.number) same ∙ (get_or-range_with_len 0 n slot d.number (omega arith)
    ∙ (let plain : 0 + slot ≡ slot = omega arith in plain)))

pub some_seat : (seats : List SeatView) (slot : ℕ) → slot < length seats → SeatView
some_seat [] slot below = absurd (omega arith)
some_seat (seat ∷ seats) slot below = seat
