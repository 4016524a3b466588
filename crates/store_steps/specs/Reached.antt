-- A store beside a run of the machine from a start: each call adds the events that it is.
use Rattle.std.specs.Prelude.{◌≡◌, ℕ, ◌<◌, ◌≤◌, List, [], ◌∷◌, ◌++◌, length, Option, Some, None, option_map, IsTrue}
use Rattle.epoch_core.specs.{declared.events.Event.Event, Worlds.{World, session_of, held_in}, Runs.{run, is_done}}
use Rattle.epoch_core.specs.declared.events.Event.TheVariants.{Floor, Pin, Enter, Settle, Ask, Read, Reply, Release}
use Rattle.graph_types.specs.declared.requests.Request.{Request}
use Rattle.block_reclamation.specs.{declared.copies.{PinCopy.PinCopy, Pin.Pin as SeatPin, TheConstants.SEATS}, Copies.no_copy}
use Rattle.block_reclamation.specs.{Copies.{pin_at, unsettled, settled, copy_of}, Board.{BoardState, IsBoard, no_pins, with_pin}}
use Rattle.store_steps.specs.{Desks.DeskView, Shown.ShowsWorld, Boards.{ShowsBoard, raised_board}, Steps.{Simulates, SimulatesAt}}

-- what the machine sees of a store: its desk, its board, and the copy of the pins that was made last
pub record Store : Type 0 where
  pub desk : DeskView
  pub board : BoardState
  pub copy : PinCopy

-- as it opens: no seat is pinned, and no pin was copied
abbrev pub opened_store : DeskView → Store
opened_store d = record { desk = d; board = no_pins; copy = no_copy }

-- with this pin at the seat, or none
abbrev pub with_seat : Store → ℕ → Option SeatPin → Store
with_seat s seat pin = record s { board = with_pin s.board seat pin }

-- with the floor raised, and the pins copied, beside the last version's number
abbrev pub raised_store : Store → Store
raised_store s = record {
  desk = s.desk;
  board = raised_board (length s.desk.last.batches) s.board;
  copy = copy_of (length s.desk.last.batches) s.board.pins;
}

-- the store shows the world that these events leave, whose copy of the pins is the store's
pub record IsReached (start : World) (events : List Event) (s : Store) : Type 0 where
  pub desk : ShowsWorld s.desk (run events start)
  pub board : ShowsBoard s.board (run events start)
  pub copied_is : (run events start).copy ≡ s.copy

-- what a call does: a store before it, the events that the call is, and the store after it
pub record Transition : Type 0 where
  pub old : Store
  pub events : List Event
  pub new : Store

-- where these events reach the store before, they and the call's reach the store after
abbrev pub Leads : World → List Event → Transition → Type 0
Leads start events t = IsReached start events t.old → IsReached start (events ++ t.events) t.new

-- an event of a reader's, which changes nothing of a store
abbrev pub IsReaders : World → Event → Type 0
IsReaders start event =
    (s : Store) (events : List Event) → Leads start events (record { old = s; events = event ∷ []; new = s })

-- a store whose desk shows the start is reached by no events, and each call leads to what it leaves by its events
pub record StaysReached (start : World) : Type 0 where
  pub opening : (d : DeskView) → ShowsWorld d start → IsReached start [] (opened_store d)
  -- the desk's calls
  pub applied :
      (s : Store) (next : DeskView) (events more : List Event) → Simulates s.desk more next
      → Leads start events (record { old = s; events = more; new = record s { desk = next } })
  pub collected :
      (s : Store) (next : DeskView) (events more : List Event) → SimulatesAt s.copy s.desk more next
      → Leads start events (record { old = s; events = more; new = record s { desk = next } })
  -- the board's calls
  pub raised :
      (s : Store) (events : List Event) → IsBoard s.board → length start.sessions ≤ SEATS
      → Leads start events (record { old = s; events = Floor ∷ []; new = raised_store s })
  pub pinned :
      (s : Store) (seat : ℕ) (events : List Event) → IsBoard s.board → seat < SEATS → seat < length start.sessions
      → pin_at s.board.pins seat ≡ None
      → Leads start events (record {
        old = s;
        events = Pin seat ∷ [];
        new = with_seat s seat (Some (unsettled s.board.floor));
      })
  pub settled :
      (s : Store) (seat n : ℕ) (events : List Event) → IsBoard s.board → seat < SEATS
      → held_in (session_of (run events start) seat) ≡ Some n
      → Leads start events (record {
        old = s;
        events = Settle seat ∷ [];
        new = with_seat s seat (option_map (settled n) (pin_at s.board.pins seat));
      })
  pub unpinned :
      (s : Store) (seat : ℕ) (events : List Event) → IsBoard s.board → seat < SEATS
      → IsTrue (is_done (run events start) (Release seat))
      → Leads start events (record { old = s; events = Release seat ∷ []; new = with_seat s seat None })
  -- a reader's events, which change nothing of the store
  pub enter : (seat : ℕ) → IsReaders start (Enter seat)
  pub ask : (seat : ℕ) (request : Request) → IsReaders start (Ask seat request)
  pub read : (seat : ℕ) → IsReaders start (Read seat)
  pub reply : (seat : ℕ) → IsReaders start (Reply seat)
  -- after an Enter that is done the seat's session holds the number of the desk's last version
  pub entered :
      (s : Store) (seat : ℕ) (events : List Event) → IsReached start events s
      → IsTrue (is_done (run events start) (Enter seat))
      → held_in (session_of (run (events ++ Enter seat ∷ []) start) seat) ≡ Some (length s.desk.last.batches)
