-- The calls of a store that threads share: a list of those under the desk's lock, a list of those under the board's lock and of the
-- sessions' questions, and one order of both.
use Rattle.std.specs.Prelude.{◌≡◌, ℕ, ◌<◌, ◌≤◌, ◌==◌, max, Bool, true, false, List, [], ◌∷◌, ◌++◌, length, filter, Some, None}
use Rattle.std.specs.Prelude.{option_map, take, replicate, slice_set, slice_index_or}
use Rattle.graph_types.specs.{Graph.Graph, Step.left_by, Answer.IsAnswer, declared.batches.NamedOp.NamedOp}
use Rattle.graph_types.specs.declared.requests.Request.{Request}
use Rattle.graph_version.specs.Versions.{VersionView}
use Rattle.block_reclamation.specs.{declared.copies.PinCopy.PinCopy, declared.copies.Pin.Pin as SeatPin}
use Rattle.block_reclamation.specs.{declared.copies.TheConstants.SEATS, Copies.{no_copy, pin_at, unsettled, settled, copy_of}}
use Rattle.block_reclamation.specs.Board.{BoardState, no_pins, with_pin}
use Rattle.epoch_core.specs.{declared.events.Event.Event, Worlds.{World, MachineState, Answer, IsStart, session_of, held_in}}
use Rattle.epoch_core.specs.{Runs.{AllReplies, run}, Versions.blocks_at}
use Rattle.epoch_core.specs.declared.events.Event.TheVariants.{Floor, Pin, Enter, Settle, Ask, Read, Reply, Release}
use Rattle.store_steps.specs.{Desks.{DeskView, IsCollected}, Shown.ShowsWorld, Boards.raised_board}
use Rattle.store_steps.specs.{Steps.{posting, recycling, all_done}, Acceptances.IsAccepted}
use Rattle.store_steps.specs.Reached.{Store, IsReached, opened_store}

-- under the desk's lock: a batch that takes these blocks, or a collection by the copy made last, each with the desk that it leaves;
-- under both locks: a raise, with the copy of the pins that it makes; under the board's lock: a seat is pinned, settled at the
-- number of the version entered, or unpinned; under no lock: a session enters the last version, or it asks a request of the version
-- of this number and is answered so
pub data Call : Type 0 where
  Applies : (batch : List NamedOp) (taken : List ℕ) (next : DeskView) → Call
  Collects : (next : DeskView) → Call
  Raises : (copy : PinCopy) → Call
  Pins : (seat : ℕ) → Call
  Settles : (seat number : ℕ) → Call
  Unpins : (seat : ℕ) → Call
  Enters : (seat : ℕ) → Call
  Asks : (seat number : ℕ) (request : Request) (answer : Answer) → Call

-- Whose a call is

abbrev pub is_desks : Call → Bool
is_desks (Applies batch taken next) = true
is_desks (Collects next) = true
is_desks (Raises copy) = true
is_desks _ = false

-- one of the seat's, under the board's lock or a question, or a raise
abbrev pub is_of : ℕ → Call → Bool
is_of seat (Raises copy) = true
is_of seat (Pins other) = other == seat
is_of seat (Settles other number) = other == seat
is_of seat (Unpins other) = other == seat
is_of seat (Asks other number request answer) = other == seat
is_of seat _ = false

abbrev pub is_raise : Call → Bool
is_raise (Raises copy) = true
is_raise _ = false

-- What a call leaves

abbrev pub next_desk : DeskView → Call → DeskView
next_desk d (Applies batch taken next) = next
next_desk d (Collects next) = next
next_desk d _ = d

abbrev pub desk_by : DeskView → List Call → DeskView
desk_by d [] = d
desk_by d (c ∷ cs) = desk_by (next_desk d c) cs

abbrev pub next_copy : PinCopy → Call → PinCopy
next_copy copy (Raises made) = made
next_copy copy _ = copy

abbrev pub next_board : BoardState → Call → BoardState
next_board b (Raises copy) = raised_board copy.last b
next_board b (Pins seat) = with_pin b seat (Some (unsettled b.floor))
next_board b (Settles seat number) = with_pin b seat (option_map (settled number) (pin_at b.pins seat))
next_board b (Unpins seat) = with_pin b seat None
next_board b _ = b

abbrev pub board_by : BoardState → List Call → BoardState
board_by b [] = b
board_by b (c ∷ cs) = board_by (next_board b c) cs

abbrev pub next_store : Store → Call → Store
next_store s c = record { desk = next_desk s.desk c; board = next_board s.board c; copy = next_copy s.copy c }

-- what calls leave, one after another
abbrev pub store_by : Store → List Call → Store
store_by s [] = s
store_by s (c ∷ cs) = store_by (next_store s c) cs

-- a question adds its answer to the replies to its session
abbrev pub next_replies : List (List Answer) → Call → List (List Answer)
next_replies replies (Asks seat number request answer) =
    slice_set replies seat (slice_index_or replies seat [] ++ answer ∷ [])
next_replies replies _ = replies

-- What is known of the two lists

-- the graph of version n, where this is the last version
abbrev pub graph_of_version : VersionView → ℕ → Graph
graph_of_version last n = left_by (take n last.batches) last.opening

-- what the contracts of desk and board say of a desk's call, where the copy made last is this one
abbrev pub IsDeskCall : DeskView → PinCopy → Call → Type 0
IsDeskCall d copy (Applies batch taken next) =
    (dropped : List ℕ) × IsAccepted (record { old = d; batch = batch; taken = taken; dropped = dropped; new = next })
IsDeskCall d copy (Collects next) = IsCollected d copy next
IsDeskCall d copy (Raises made) = made.last ≡ length d.last.batches
IsDeskCall d copy _ = ⊥

abbrev pub AreDeskCalls : DeskView → PinCopy → List Call → Type 0
AreDeskCalls d copy [] = Unit {0}
AreDeskCalls d copy (c ∷ cs) = IsDeskCall d copy c × AreDeskCalls (next_desk d c) (next_copy copy c) cs

-- a raise copies the pins as they stand; a seat is pinned if it has no pin, settled if its pin is unsettled, unpinned if it has one;
-- a question has an answer over the graph of the version at which the seat settled
abbrev pub IsBoardCall : ℕ → VersionView → BoardState → Call → Type 0
IsBoardCall sessions last b (Raises copy) = copy ≡ copy_of copy.last b.pins
IsBoardCall sessions last b (Pins seat) = (seat < sessions) × (pin_at b.pins seat ≡ None)
IsBoardCall sessions last b (Settles seat number) = (pin : ℕ) × (pin_at b.pins seat ≡ Some (unsettled pin))
IsBoardCall sessions last b (Unpins seat) = (pin : SeatPin) × (pin_at b.pins seat ≡ Some pin)
IsBoardCall sessions last b (Asks seat number request answer) =
    (pin_at b.pins seat ≡ Some (record { number = number; is_settled = true }))
    × IsAnswer request (graph_of_version last number) answer
IsBoardCall sessions last b _ = ⊥

abbrev pub AreBoardCalls : ℕ → VersionView → BoardState → List Call → Type 0
AreBoardCalls sessions last b [] = Unit {0}
AreBoardCalls sessions last b (c ∷ cs) = IsBoardCall sessions last b c × AreBoardCalls sessions last (next_board b c) cs

-- the last number at the next raise, and this one if there is none
abbrev pub posted_by : ℕ → List Call → ℕ
posted_by final [] = final
posted_by final (Raises copy ∷ cs) = copy.last
posted_by final (c ∷ cs) = posted_by final cs

-- a seat's calls, after a raise at this last number, where its next entry gives at least the least: each entry gives at least the
-- version that the raise before its pin saw, at least what the seat entered before, and one that is posted by the next raise
abbrev pub EntersInOrder : ℕ → ℕ → ℕ → List Call → Type 0
EntersInOrder final seen least [] = Unit {0}
EntersInOrder final seen least (Raises copy ∷ cs) = EntersInOrder final copy.last least cs
EntersInOrder final seen least (Pins seat ∷ cs) = EntersInOrder final seen (max least seen) cs
EntersInOrder final seen least (Settles seat number ∷ cs) =
    (least ≤ number) × (number ≤ posted_by final cs) × EntersInOrder final seen number cs
EntersInOrder final seen least (c ∷ cs) = EntersInOrder final seen least cs

-- what is known of each list alone, from an opening on: its calls do what their contracts say, both have the same raises, and each
-- seat enters in order
pub record AreLocked (sessions : ℕ) (d : DeskView) (desk board : List Call) : Type 0 where
  pub desk_calls : AreDeskCalls d no_copy desk
  pub board_calls : AreBoardCalls sessions (desk_by d desk).last no_pins board
  pub raises : filter is_raise desk ≡ filter is_raise board
  pub entries : (seat : ℕ) → EntersInOrder (length (desk_by d desk).last.batches) 0 0 (filter (is_of seat) board)

-- One order

-- a question is asked, each block of its version is read, and it is replied to
abbrev pub events_of : World → Store → Call → List Event
events_of w s (Applies batch taken next) = posting next.last batch taken
events_of w s (Collects next) = recycling s.copy s.desk.pool
events_of w s (Raises copy) = Floor ∷ []
events_of w s (Pins seat) = Pin seat ∷ []
events_of w s (Settles seat number) = Settle seat ∷ []
events_of w s (Unpins seat) = Release seat ∷ []
events_of w s (Enters seat) = Enter seat ∷ []
events_of w s (Asks seat number request answer) =
    (Ask seat request ∷ replicate (length (blocks_at w.opening w.versions number)) (Read seat)) ++ Reply seat ∷ []

-- a seat that settles, or is asked, holds the version of that number
abbrev pub Holds : World → Call → Type 0
Holds w (Settles seat number) = held_in (session_of w seat) ≡ Some number
Holds w (Asks seat number request answer) = held_in (session_of w seat) ≡ Some number
Holds w _ = Unit {0}

-- after the first events the further ones are all done
abbrev pub AreDone : World → List Event → List Event → Type 0
AreDone start events more = all_done more (run events start) ≡ Some (run (events ++ more) start)

-- how far a run has come: the events so far, the replies to the sessions, and the store
pub record Moment : Type 0 where
  pub events : List Event
  pub replies : List (List Answer)
  pub store : Store

-- the moment after one call more, which is these events
abbrev pub next_moment : Moment → List Event → Call → Moment
next_moment m more c = record {
  events = m.events ++ more;
  replies = next_replies m.replies c;
  store = next_store m.store c;
}

-- from this moment on, whose store its events reach, the calls are a run of the machine: the events of each are all done, reply with
-- its answer, and reach what it leaves of the store
abbrev pub AreRun : World → Moment → List Call → Type 0
AreRun start m [] = IsReached start m.events m.store
AreRun start m (c ∷ cs) =
    let w : World = run m.events start in
    let more : List Event = events_of w m.store c in
    IsReached start m.events m.store × Holds w c × AreDone start m.events more
    × AllReplies w more m.replies (next_replies m.replies c) × AreRun start (next_moment m more c) cs

-- where a run begins
abbrev pub opened_moment : MachineState → DeskView → Moment
opened_moment start d = record { events = []; replies = start.replies; store = opened_store d }

-- all calls of both lists, each raise once, and entries: the desk's calls stand in their order, and for each seat its calls and the
-- raises do; this order is a run of the machine, and leaves the desk and the board that the lists leave
pub record IsOneRun (start : MachineState) (d : DeskView) (desk board : List Call) : Type 0 where
  pub order : List Call
  pub desk_order : filter is_desks order ≡ desk
  pub seat_order : (seat : ℕ) → filter (is_of seat) order ≡ filter (is_of seat) board
  pub runs : AreRun start.world (opened_moment start d) order
  pub desk_left : (store_by (opened_store d) order).desk ≡ desk_by d desk
  pub board_left : (store_by (opened_store d) order).board ≡ board_by no_pins board

-- whatever the start: what each lock saw is one run
abbrev pub LocksAreOneRun : Type 0
LocksAreOneRun =
    (start : MachineState) (d : DeskView) (desk board : List Call) → IsStart start → length start.world.sessions ≤ SEATS
    → ShowsWorld d start.world → AreLocked (length start.world.sessions) d desk board → IsOneRun start d desk board
