-- What sessions hold, and what a collection leaves of it, where the desk and the board show a run of the machine.
use Rattle.std.specs.Prelude.{◌≡◌, ◌↔◌, ℕ, ◌≤◌, false, List, length, take, slice_get, Some, IsTrue, IsFalse}
use Rattle.graph_types.specs.Step.{left_by}
use Rattle.block_reclamation.specs.{Status.{is_free, is_reclaimable, is_retired, is_at, is_among}, Board.IsBoard}
use Rattle.block_reclamation.specs.declared.copies.{PinCopy.PinCopy, TheConstants.SEATS}
use Rattle.epoch_core.specs.{declared.events.Event.Event, Versions.AreEdgesOf, Versions.blocks_at, Versions.edges_of}
use Rattle.epoch_core.specs.{Runs.run, Worlds.{World, MachineState, IsStart, session_of, held_in}}
use Rattle.epoch_core.specs.Collections.{HaveSettled, IsHeldBlock}
use Rattle.store_steps.specs.{Desks.{DeskView, IsCollected, last_numbers}, Reached.{Store, IsReached, raised_store}}

-- version n as the desk and the machine show it now: its blocks have, each once, the edges that the desk's first n
-- batches leave; and none of its blocks is free, or freed by a collection by the copy made last
pub record IsSnapshot (d : DeskView) (copy : PinCopy) (w : World) (n : ℕ) : Type 0 where
  pub within : n ≤ length d.last.batches
  pub shown : AreEdgesOf (edges_of w.heap (blocks_at w.opening w.versions n)) (left_by (take n d.last.batches) d.last.opening)
  pub in_use : (c : ℕ) → IsTrue (is_among c (blocks_at w.opening w.versions n)) → is_at is_free (slice_get d.pool c) ≡ false
  pub kept : (c : ℕ) → IsTrue (is_among c (blocks_at w.opening w.versions n))
      → is_at (is_reclaimable copy) (slice_get d.pool c) ≡ false

-- whatever the start and the run: the version that a session holds is such a one
abbrev pub HeldIsSnapshot : Type 0
HeldIsSnapshot =
    (start : MachineState) (events : List Event) (s : Store) (seat n : ℕ) → IsStart start → IsReached start.world events s
    → held_in (session_of (run events start.world) seat) ≡ Some n → IsSnapshot s.desk s.copy (run events start.world) n

-- whatever the start and the run, where each pinned session has settled: when the floor is raised and the desk then collects by
-- the copy made so, a block is still retired exactly where some session's held version lists it and the last version doesn't
abbrev pub CollectionIsExact : Type 0
CollectionIsExact =
    (start : MachineState) (events : List Event) (s : Store) (new : DeskView) → IsStart start → length start.world.sessions ≤ SEATS
    → IsReached start.world events s → IsBoard s.board → HaveSettled (run events start.world)
    → IsCollected s.desk (raised_store s).copy new → (b : ℕ)
    → IsTrue (is_at is_retired (slice_get new.pool b))
    ↔ (IsHeldBlock (run events start.world) b × IsFalse (is_among b (last_numbers new)))
