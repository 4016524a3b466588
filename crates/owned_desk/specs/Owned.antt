-- A desk with one owner, who holds versions by their numbers: each number that is held has one seat, and a count.
use Rattle.std.specs.Prelude.{◌≡◌, ◌≢◌, ◌⊎◌, ℕ, ◌+◌, ◌-◌, ◌<◌, ◌≤◌, List, length, Option, Some, None, replicate, [], slice_index_or, slice_set}
use Rattle.std.specs.Prelude.{if◌then◌else◌, ◌==◌, true}
use Rattle.block_reclamation.specs.declared.copies.{Pin.Pin, TheConstants.SEATS}
use Rattle.block_reclamation.specs.{Board.{BoardState, no_pins, with_pin}, Copies.pin_at}
use Rattle.graph_version.specs.Versions.{VersionView}
use Rattle.store_steps.specs.Desks.{DeskView}
pub use Rattle.desk.specs.Copies.{copied}
use Rattle.version_diff.specs.Pairs.{PairView}
use Rattle.owned_desk.specs.Kept.{KeepsVersions, KeptView, seat_version}
use Rattle.owned_desk.specs.declared.{errors.HoldError.{HoldError, TheVariants.{NoSeat, OutOfMemory}}, owned.Hold.Hold}
use Rattle.owned_desk.specs.declared.errors.PairError.{PairError, TheVariants.{NotHeld, Backwards, OutOfMemory as NoMemory}}

-- `counts` has how often each seat's number is held, `opening` which opening of the desk this is, and `versions` the version of
-- each seat's number
pub record OwnedView : Type 0 where
  pub desk : DeskView
  pub board : BoardState
  pub counts : List ℕ
  pub opening : ℕ
  pub versions : List (Option VersionView)

abbrev pub owned_view : DeskView → BoardState → List ℕ → ℕ → KeptView → OwnedView
owned_view desk board counts opening kept =
    record { desk = desk; board = board; counts = counts; opening = opening; versions = kept.versions }

-- the pin of a held version: it was entered, so the pin is settled
abbrev pub held_pin : ℕ → Pin
held_pin number = record { number = number; is_settled = true }

-- how often the number of a seat is held
abbrev pub count_at : List ℕ → ℕ → ℕ
count_at counts seat = slice_index_or counts seat 0

-- the seat's version is held as often as the count says, and not at all where it has no pin
abbrev pub IsHoldCounted : ℕ → Option Pin → ℕ → Type 0
IsHoldCounted last None count = count ≡ 0
IsHoldCounted last (Some pin) count = (0 < count) × (pin ≡ held_pin pin.number) × (pin.number ≤ last)

-- each seat's pin is counted, no number has two seats, and the floor isn't past the last version
pub record IsOwned (o : OwnedView) : Type 0 where
  pub pins : length o.board.pins ≡ SEATS
  pub seats : length o.counts ≡ SEATS
  pub floor_low : o.board.floor ≤ length o.desk.last.batches
  pub counted : (seat : ℕ) → seat < SEATS
      → IsHoldCounted (length o.desk.last.batches) (pin_at o.board.pins seat) (count_at o.counts seat)
  pub apart : (a b number : ℕ) → a < SEATS → b < SEATS → pin_at o.board.pins a ≡ Some (held_pin number)
      → pin_at o.board.pins b ≡ Some (held_pin number) → a ≡ b

-- and each seat's version is kept, with the sources that later batches touched
pub record KeepsOwned (o : OwnedView) (touched : List ℕ) : Type 0 where
  pub owned : IsOwned o
  pub kept : KeepsVersions o.desk o.board.pins (record { versions = o.versions; touched = touched })

-- as it opens: nothing is held
abbrev pub opened_owned : DeskView → ℕ → OwnedView
opened_owned desk opening =
    owned_view desk no_pins (replicate SEATS 0) opening (record { versions = replicate SEATS None; touched = [] })

-- the number is held at this seat, or it is held at none and this seat is free
abbrev pub IsSeatFor : OwnedView → ℕ → ℕ → Type 0
IsSeatFor o number seat = (seat < SEATS) × ((pin_at o.board.pins seat ≡ Some (held_pin number))
    ⊎ ((pin_at o.board.pins seat ≡ None)
    × ((other : ℕ) → other < SEATS → pin_at o.board.pins other ≢ Some (held_pin number))))

-- the number is held at this seat
abbrev pub IsSeatOf : OwnedView → ℕ → ℕ → Type 0
IsSeatOf o number seat = (seat < SEATS) × (pin_at o.board.pins seat ≡ Some (held_pin number))

-- with this pin, this count and this version at a seat
abbrev pub with_hold : OwnedView → ℕ → Option Pin → ℕ → Option VersionView → OwnedView
with_hold o seat pin count version = record o {
  board = with_pin o.board seat pin;
  counts = slice_set o.counts seat count;
  versions = slice_set o.versions seat version;
}

-- a number is held once more: its seat has its pin and the last version, and its count is one more
pub record HoldsOnce (old : OwnedView) (number : ℕ) (new : OwnedView) : Type 0 where
  pub seat : ℕ
  pub is_for : IsSeatFor old number seat
  pub new_is : new ≡ with_hold old seat (Some (held_pin number)) (count_at old.counts seat + 1) (Some old.desk.last)

-- why a number isn't held: all seats are other numbers'. Memory may run out at any place
abbrev pub RefusesHold : OwnedView → ℕ → HoldError → Type 0
RefusesHold o number NoSeat = (seat : ℕ) → IsSeatFor o number seat → ⊥
RefusesHold o number OutOfMemory = Unit {0}

-- a number is held once less: its count is one less, and at 0 its pin and its version are taken away
pub record ReleasesOnce (old : OwnedView) (number : ℕ) (new : OwnedView) : Type 0 where
  pub seat : ℕ
  pub is_of : IsSeatOf old number seat
  pub new_is : new ≡ with_hold old seat (if count_at old.counts seat == 1 then None else Some (held_pin number))
      (count_at old.counts seat - 1) (if count_at old.counts seat == 1 then None else seat_version old.versions seat)

-- a hold is taken back: of a former opening nothing is left to release, and of this one the number is held once less
abbrev pub IsReleased : OwnedView → Hold → OwnedView → Type 0
IsReleased old hold new = ((hold.opening < old.opening) × (new ≡ old))
    ⊎ ((hold.opening ≡ old.opening) × ReleasesOnce old hold.number new)

-- why a hold isn't taken back: the opening is yet to come, or the number isn't held
abbrev pub RefusesRelease : OwnedView → Hold → Type 0
RefusesRelease o hold = (o.opening < hold.opening)
    ⊎ ((hold.opening ≡ o.opening) × ((seat : ℕ) → IsSeatOf o hold.number seat → ⊥))

-- Pairs

-- the hold is of this opening, and this is the version of its number
pub record HoldsVersion (o : OwnedView) (hold : Hold) (v : VersionView) : Type 0 where
  pub opening : hold.opening ≡ o.opening
  pub seat : ℕ
  pub is_of : IsSeatOf o hold.number seat
  pub version : seat_version o.versions seat ≡ Some v

-- the hold is of another opening, or its number isn't held
abbrev pub HoldsNothing : OwnedView → Hold → Type 0
HoldsNothing o hold = (hold.opening ≢ o.opening) ⊎ ((seat : ℕ) → IsSeatOf o hold.number seat → ⊥)

-- the versions of two holds, the second of which has no smaller number
pub record IsPairOf (o : OwnedView) (first second : Hold) (p : PairView) : Type 0 where
  pub earlier : HoldsVersion o first p.earlier
  pub later : HoldsVersion o second p.later
  pub ordered : first.number ≤ second.number

-- both are held, and the second has the smaller number
pub record AreBackwards (o : OwnedView) (first second : Hold) : Type 0 where
  pub v : VersionView
  pub of_first : HoldsVersion o first v
  pub w : VersionView
  pub of_second : HoldsVersion o second w
  pub backwards : second.number < first.number

-- why there is no pair: one of them isn't held, or they are the other way round. Memory may run out at any place
abbrev pub RefusesPair : OwnedView → Hold → Hold → PairError → Type 0
RefusesPair o first second NotHeld = HoldsNothing o first ⊎ HoldsNothing o second
RefusesPair o first second Backwards = AreBackwards o first second
RefusesPair o first second NoMemory = Unit {0}
