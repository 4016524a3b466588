-- An owned desk beside the machine of interleavings: the worlds that it shows, the events that each call is, and what a collection
-- leaves, by the versions that are held.
use Rattle.std.specs.Prelude.{◌≡◌, ◌↔◌, ℕ, ◌<◌, ◌==◌, List, [], ◌∷◌, length, map, replicate, Option, None, Some, slice_get}
use Rattle.std.specs.Prelude.{if◌then◌else◌, IsTrue, IsFalse, true}
use Rattle.block_reclamation.specs.{declared.copies.{Pin.Pin as SeatPin, TheConstants.SEATS}, Copies.pin_at}
use Rattle.block_reclamation.specs.Status.{is_at, is_among, is_retired}
use Rattle.epoch_core.specs.declared.events.Event.{Event, TheVariants.{Floor, Pin, Enter, Settle, Release}}
use Rattle.epoch_core.specs.declared.session_states.SessionState.{SessionState, TheVariants.{Idle, Holding}}
use Rattle.epoch_core.specs.{Runs.run, Versions.blocks_at, Worlds.{World, MachineState, IsStart}}
use Rattle.graph_types.specs.declared.batches.NamedOp.{NamedOp}
use Rattle.graph_version.specs.{Rows.{blocks_of, numbers_of}, Versions.VersionView}
use Rattle.store_steps.specs.{Boards.ShowsBoard, Desks.last_numbers, Held.IsSnapshot, Shown.ShowsWorld}
use Rattle.store_steps.specs.Steps.{all_done, posting, recycling}
use Rattle.owned_desk.specs.declared.owned.Hold.{Hold}
use Rattle.owned_desk.specs.Owned.{OwnedView, IsSeatFor, IsSeatOf, copied, count_at}

-- between two calls the session of a seat is idle, or it holds the version of the seat's number and has told it
abbrev pub seat_session : Option SeatPin → SessionState
seat_session None = Idle
seat_session (Some pin) = Holding (record { pin = pin.number; settled = true; version = pin.number })

-- desk and board show the world, and each of its sessions holds what the seat of its number does
pub record ShowsOwned (o : OwnedView) (w : World) : Type 0 where
  pub desk : ShowsWorld o.desk w
  pub board : ShowsBoard o.board w
  pub sessions : w.sessions ≡ map seat_session o.board.pins

-- a world in which nothing is held, and no floor was raised
abbrev pub IsUnheld : World → Type 0
IsUnheld w = (w.floor ≡ 0) × (w.sessions ≡ replicate SEATS Idle)

-- the desk shows a start of the machine
abbrev pub ShowsMachineStart : OwnedView → Type 0
ShowsMachineStart o = (start : MachineState) × IsStart start × ShowsOwned o start.world

-- The events of each call

-- in each world that the old desk shows these events are all done, and the new desk shows the world after them
abbrev pub Follows : OwnedView → List Event → OwnedView → Type 0
Follows old events new =
    (w : World) → ShowsOwned old w → (after : World) × (all_done events w ≡ Some after) × ShowsOwned new after

-- a batch: Take and Fill of each block that it takes, and one Post
abbrev pub FollowsBatch : OwnedView → List NamedOp → OwnedView → Type 0
FollowsBatch old batch new = (taken : List ℕ) × Follows old (posting new.desk.last batch taken) new

-- a hold: a seat that had no pin is pinned, enters and settles; one that has the number's pin does nothing more
abbrev pub hold_events : ℕ → Option SeatPin → List Event
hold_events seat None = Pin seat ∷ Enter seat ∷ Settle seat ∷ []
hold_events seat (Some pin) = []

abbrev pub FollowsHold : OwnedView → OwnedView → Type 0
FollowsHold old new =
    (seat : ℕ) × IsSeatFor old (length old.desk.last.batches) seat
    × Follows old (hold_events seat (pin_at old.board.pins seat)) new

-- a release: the last hold of a number releases its session
abbrev pub release_events : ℕ → ℕ → List Event
release_events seat count = if count == 1 then Release seat ∷ [] else []

-- a hold of a former opening is nothing to the machine
abbrev pub FollowsRelease : OwnedView → Hold → OwnedView → Type 0
FollowsRelease old hold new =
    (hold.opening < old.opening → Follows old [] new)
    × (hold.opening ≡ old.opening
    → (seat : ℕ) × IsSeatOf old hold.number seat × Follows old (release_events seat (count_at old.counts seat)) new)

-- a collection: Floor, and Recycle of each retired block that the pins as they stand don't need
abbrev pub collect_events : OwnedView → List Event
collect_events o = Floor ∷ recycling (copied o.desk o.board) o.desk.pool

-- Held versions

-- the version of this number lists the blocks of this one
abbrev pub IsNumbered : World → ℕ → VersionView → Type 0
IsNumbered w n v = blocks_at w.opening w.versions n ≡ numbers_of (blocks_of v.rows)

-- a run of the machine from a start leaves this world
pub record IsLeftByRun (w : World) : Type 0 where
  pub start : MachineState
  pub is_start : IsStart start
  pub events : List Event
  pub left : run events start.world ≡ w

-- the version of a number that is held lists the block
pub record IsListedByHeld (o : OwnedView) (w : World) (b : ℕ) : Type 0 where
  pub seat : ℕ
  pub number : ℕ
  pub holds : IsSeatOf o number seat
  pub lists : IsTrue (is_among b (blocks_at w.opening w.versions number))

-- whatever world the old desk showed: a block is retired in the new one exactly if the version of a number that is held lists it
-- and the last version doesn't
abbrev pub LeavesHeldBlocks : OwnedView → OwnedView → Type 0
LeavesHeldBlocks old new =
    (w : World) → IsLeftByRun w → ShowsOwned old w → (b : ℕ)
    → IsTrue (is_at is_retired (slice_get new.desk.pool b))
    ↔ (IsListedByHeld old w b × IsFalse (is_among b (last_numbers new.desk)))

-- whatever world the desk shows: the version of each number that is held is as it was
abbrev pub HeldAreSnapshots : OwnedView → Type 0
HeldAreSnapshots o =
    (w : World) → IsLeftByRun w → ShowsOwned o w → (seat number : ℕ) → IsSeatOf o number seat
    → IsSnapshot o.desk w.copy w number
