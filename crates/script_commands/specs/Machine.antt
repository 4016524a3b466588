-- A server beside the machine of interleavings: which world it shows, and which events each command is.
use Rattle.std.specs.Prelude.{◌≡◌, ℕ, List, [], ◌∷◌, ◌++◌, length, map, replicate, slice_get, slice_index_or, slice_set, Result, Ok, Err}
use Rattle.std.specs.Prelude.{Option, None, Some, true}
use Rattle.block_reclamation.specs.Copies as copies
use Rattle.epoch_core.specs.declared.events.Event.{Event, TheVariants.{Floor, Pin, Enter, Settle, Ask, Read, Reply, Release}}
use Rattle.epoch_core.specs.declared.session_states.SessionState.{SessionState, TheVariants.{Idle, Holding}}
use Rattle.epoch_core.specs.{Runs.{AllReplies, Runs}, Versions.{blocks_at, graph_at, graph_of_opening}}
use Rattle.epoch_core.specs.Worlds.{Answer, IsStart, MachineState, World, start_in}
use Rattle.feed_csv.specs.declared.command.Command.{Command, TheVariants.{Commit, OpenSlot, CloseSlot, Query, Collect, Rebase}}
use Rattle.graph_types.specs.declared.requests.Request.{Request}
use Rattle.script_lines.specs.declared.words.Word.{Word}
use Rattle.store_steps.specs.{Boards.ShowsBoard, Shown.ShowsWorld, Steps.{all_done, posting, recycling}}
use Rattle.stream_store.specs.Configs.{ConfigView}
use Rattle.script_commands.specs.{Servers.{pending_of, result_of}, Slots.held_slots, declared.server.{Server.Server, Response.Response}}
use Rattle.script_commands.specs.States.{Held, RecordResult, answer_result, pins_of, version_in}

-- between two commands the session of a slot is idle, or it holds the slot's version and has told its number
abbrev pub session_for : Option Held → SessionState
session_for None = Idle
session_for (Some held) = Holding (record { pin = held.number; settled = true; version = held.number })

-- desk and board show the world, and each of its sessions is that of the slot of its number
pub record ShowsMachine (server : Server) (w : World) : Type 0 where
  pub desk : ShowsWorld server.desk.desk w
  pub board : ShowsBoard server.slots.board w
  pub sessions : w.sessions ≡ map session_for (held_slots server.slots)

-- the version that a slot holds
abbrev pub held_at : Server → ℕ → Result Held Word
held_at server slot = version_in (slice_get (held_slots server.slots) slot)

-- The events

-- a question to a slot that holds a version: it is asked, each block of the version is read, and it is replied to
abbrev pub asking : World → ℕ → Request → Result Held Word → List Event
asking w slot request (Ok held) =
    (Ask slot request ∷ replicate (length (blocks_at w.opening w.versions held.number)) (Read slot)) ++ Reply slot ∷ []
asking w slot request (Err word) = []

-- a collection: Floor, and Recycle of each block that the copy of the pins doesn't need
abbrev pub collecting_by : Server → List Event
collecting_by server =
    Floor ∷ recycling (copies.copy_of (length server.desk.desk.last.batches) (pins_of (held_slots server.slots))) server.desk.desk.pool

-- the events of a command that came to this, in a world that the old server shows
abbrev pub AreEventsOf : Command → Server → RecordResult → Server → World → List Event → Type 0
AreEventsOf Commit old (Ok lines) new w events =
    (taken : List ℕ) × (events ≡ posting new.desk.desk.last (pending_of old) taken)
AreEventsOf (OpenSlot slot) old (Ok lines) new w events = events ≡ Pin slot ∷ Enter slot ∷ Settle slot ∷ []
AreEventsOf (CloseSlot slot) old (Ok lines) new w events = events ≡ Release slot ∷ []
AreEventsOf (Query slot request) old outcome new w events = events ≡ asking w slot request (held_at old slot)
AreEventsOf Collect old (Ok lines) new w events = events ≡ collecting_by old
AreEventsOf command old outcome new w events = events ≡ []

-- What they reply

-- the session of this slot gets one more reply, and that is what the question comes to, over what the batches up to the held
-- version leave
abbrev pub IsReplyTo : ℕ → Request → World → Result Held Word → RecordResult → List (List Answer) → List (List Answer) → Type 0
IsReplyTo slot request w (Ok held) outcome old new =
    (answer : Answer) × (new ≡ slice_set old slot (slice_index_or old slot [] ++ answer ∷ []))
    × (outcome ≡ answer_result slot request (graph_at w.opening w.versions held.number) answer)
IsReplyTo slot request w (Err word) outcome old new = new ≡ old

-- a question to a slot that holds a version adds its reply, and nothing else adds any
abbrev pub AddsReplies : Command → Server → RecordResult → World → List (List Answer) → List (List Answer) → Type 0
AddsReplies (Query slot request) server outcome w old new = IsReplyTo slot request w (held_at server slot) outcome old new
AddsReplies command server outcome w old new = new ≡ old

-- The run

-- the machine goes on from here by the events of the command, each of them done, to a world that the new server shows
pub record ContinuesMachine (command : Command) (old : Server) (outcome : RecordResult) (new : Server) (here : MachineState) : Type 0 where
  pub events : List Event
  pub there : MachineState
  pub are : AreEventsOf command old outcome new here.world events
  pub done : all_done events here.world ≡ Some there.world
  pub replies : AllReplies here.world events here.replies there.replies
  pub told : AddsReplies command old outcome here.world here.replies there.replies
  pub shown : ShowsMachine new there.world

-- the new server shows a start of the machine, over what the batches up to the held version leave
abbrev pub Restarts : Result Held Word → Server → World → Type 0
Restarts (Ok held) new w =
    (start : MachineState) × IsStart start × (graph_of_opening start.world.opening ≡ graph_at w.opening w.versions held.number)
    × ShowsMachine new start.world
Restarts (Err word) new w = ⊥

-- a rebase starts anew, and each other command goes on
abbrev pub Moves : Command → Server → RecordResult → Server → MachineState → Type 0
Moves (Rebase slot) old (Ok lines) new here = Restarts (held_at old slot) new here.world
Moves command old outcome new here = ContinuesMachine command old outcome new here

-- what the server did for the command the machine does too, from the end of each run of it whose world the old server shows
abbrev pub MovesMachine : Command → Server → Response → List ℕ → Server → Type 0
MovesMachine command old response lines new =
    (start here : MachineState) (events : List Event) → IsStart start → Runs start events here → ShowsMachine old here.world
    → Moves command old (result_of response lines) new here

-- a server of this configuration shows the start of the machine with as many sessions and blocks, all of them free
abbrev pub StartsMachine : ConfigView → Server → Type 0
StartsMachine config server =
    IsStart (start_in config.limits config.seats config.blocks)
    × ShowsMachine server (start_in config.limits config.seats config.blocks).world
