-- Worlds of the machine of interleavings that a board shows, and the steps of the machine that the board's calls are
-- where these are done. Blocks, versions, and what a session holds are open.
use Rattle.std.specs.Prelude.{◌≡◌, ℕ, ◌<◌, ◌≤◌, length, Some, None, option_map}
use Rattle.epoch_core.specs.{declared.events.Event.{Event, TheVariants.{Floor, Pin, Settle, Release}}, Machine.step, Worlds.World}
use Rattle.epoch_core.specs.Worlds.{session_of, seat_pin, pin_in, held_in, last_number}
use Rattle.block_reclamation.specs.{declared.copies.{PinCopy.PinCopy, TheConstants.SEATS}, Copies.{floor_of, pin_at, unsettled}}
use Rattle.block_reclamation.specs.{Copies.{settled, copy_of}, Board.{BoardState, IsBoard, with_pin}}
use Rattle.store_steps.specs.{Desks.DeskView, Shown.ShowsWorld}

-- the board shows the floor, and each session's pin
pub record ShowsBoard (b : BoardState) (w : World) : Type 0 where
  pub floor : w.floor ≡ b.floor
  pub pins : (s : ℕ) → seat_pin (session_of w s) ≡ pin_at b.pins s

-- where the event is done, the world after it is one that this board shows, to each desk it is as before, and its copy of
-- the pins is this one
abbrev pub ShowsIfDone : World → Event → BoardState → PinCopy → Type 0
ShowsIfDone w event new copy =
    (after : World) → step w event ≡ Some after
    → ShowsBoard new after × ((d : DeskView) → ShowsWorld d w → ShowsWorld d after) × (after.copy ≡ copy)

-- pinning a seat is Pin of its session
abbrev pub PinsAsMachine : Type 0
PinsAsMachine =
    (b : BoardState) (w : World) (s : ℕ) → IsBoard b → s < SEATS → ShowsBoard b w
    → ShowsIfDone w (Pin s) (with_pin b s (Some (unsettled b.floor))) w.copy

-- settling a seat at the number that its session holds is Settle, where the pin is at most that number
abbrev pub SettlesAsMachine : Type 0
SettlesAsMachine =
    (b : BoardState) (w : World) (s n : ℕ) → IsBoard b → s < SEATS → ShowsBoard b w → held_in (session_of w s) ≡ Some n
    → ((pin : ℕ) → pin_in (session_of w s) ≡ Some pin → pin ≤ n)
    → ShowsIfDone w (Settle s) (with_pin b s (option_map (settled n) (pin_at b.pins s))) w.copy

-- taking a seat's pin away is Release
abbrev pub UnpinsAsMachine : Type 0
UnpinsAsMachine =
    (b : BoardState) (w : World) (s : ℕ) → IsBoard b → s < SEATS → ShowsBoard b w
    → ShowsIfDone w (Release s) (with_pin b s None) w.copy

-- the board after a raise with this last number
abbrev pub raised_board : ℕ → BoardState → BoardState
raised_board last b = record b { floor = floor_of (copy_of last b.pins) }

-- raising the floor to the least of the last number and the pins, and copying them, is Floor
abbrev pub RaisesAsMachine : Type 0
RaisesAsMachine =
    (b : BoardState) (w : World) → IsBoard b → length w.sessions ≤ SEATS → ShowsBoard b w
    → ShowsIfDone w Floor (raised_board (last_number w) b) (copy_of (last_number w) b.pins)
