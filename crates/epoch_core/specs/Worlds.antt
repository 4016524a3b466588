-- What the machine of interleavings knows at a moment: blocks of edges, versions, the floor, and where each
-- session stands. It is STINGER's store of edge blocks (Ediger, McColl, Riedy, Bader; IEEE HPEC 2012) under
-- sessions that hold a version while batches go on, as Aspen's readers do (Dhulipala, Blelloch, Shun; PLDI 2019).
use Rattle.std.specs.Prelude.{◌≡◌, ◌≢◌, ℕ, ◌<◌, ◌≤◌, ◌-◌, ◌++◌, List, [], length, map, replicate, slice_get, slice_index_or}
use Rattle.std.specs.{Prelude.if◌then◌else◌, Prelude.All, Prelude.AllPairs, Option.option_map, declared.result.Result.Result}
use Rattle.std.specs.declared.option.Option.{Option, TheVariants.None, TheVariants.Some}
use Rattle.graph_types.specs.{Graph.Graph, Graph.graph_of, Graph.content_of, declared.requests.AskError.AskError}
use Rattle.graph_types.specs.{Limits.{LimitsView, standard_limits}, declared.{ids.Edge.Edge, requests.Reply.Reply}}
use Rattle.block_reclamation.specs.declared.{status.BlockStatus.{BlockStatus, TheVariants.{Free, Used}}, copies.PinCopy.PinCopy}
use Rattle.block_reclamation.specs.{declared.copies.{TheConstants.SEATS, Pin.Pin}, Status.is_among, Copies.{no_copy, copy_of}}
use Rattle.block_reclamation.specs.Copies.{unsettled, settled_number, unsettled_number}
use Rattle.epoch_core.specs.declared.{states.Version.Version, states.Opening.Opening, session_states.SessionState.SessionState}
use Rattle.epoch_core.specs.declared.session_states.SessionState.TheVariants.{Idle, Pinned, Holding, Asking}
use Rattle.epoch_core.specs.Versions.{IsContentGraph, AreEdgesOf, blocks_at, edges_of, graph_at, graph_of_opening}

-- a reply, or the refusal that stands in its place
abbrev pub Answer : Type 0
Answer = Result Reply AskError

pub record World : Type 0 where
  -- what stands before the first batch: a content, and the blocks that have its edges
  pub opening : Opening
  -- for each block number the edges in the block
  pub heap : List (List Edge)
  -- for each block number what the block is
  pub status : List BlockStatus
  -- the versions after version 0, in the order of their numbers
  pub versions : List Version
  pub floor : ℕ
  -- what the last Floor saw: the last number, and the pins
  pub copy : PinCopy
  -- for each session number where the session stands
  pub sessions : List SessionState

-- the whole state: the world, and for each session number the replies to the session
pub record MachineState : Type 0 where
  pub world : World
  pub replies : List (List Answer)

-- Versions

-- the number of the last version, which is the number of batches
abbrev pub last_number : World → ℕ
last_number w = length w.versions

abbrev pub last_blocks : World → List ℕ
last_blocks w = blocks_at w.opening w.versions (last_number w)

abbrev pub last_graph : World → Graph
last_graph w = graph_at w.opening w.versions (last_number w)

-- the graph of a version's names and kinds and of these edges, whatever the limits
abbrev pub graph_with : Version → List Edge → Graph
graph_with version edges = graph_of (content_of version.names version.kinds edges)

-- what the batches up to each version leave is the graph of a content
abbrev pub HasContents : Opening → List Version → Type 0
HasContents opening versions = (n : ℕ) → n ≤ length versions → IsContentGraph (graph_at opening versions n)

-- Sessions

-- what is seen of a session: its pin, as a seat has it, and the number of the version that it holds
abbrev pub seat_pin : SessionState → Option Pin
seat_pin Idle = None
seat_pin (Pinned pin) = Some (unsettled pin)
seat_pin (Holding hold) = Some (record { number = hold.pin; is_settled = hold.settled })
seat_pin (Asking hold inquiry) = Some (record { number = hold.pin; is_settled = hold.settled })

abbrev pub pin_in : SessionState → Option ℕ
pin_in session = option_map (λ pin. pin.number) (seat_pin session)

-- the pin of a session that has told the number of its version, and of one that hasn't
abbrev pub settled_in : SessionState → Option ℕ
settled_in session = settled_number (seat_pin session)

abbrev pub unsettled_in : SessionState → Option ℕ
unsettled_in session = unsettled_number (seat_pin session)

-- one pin for each session, and none for each further seat
abbrev pub seat_pins : List SessionState → List (Option Pin)
seat_pins sessions = map seat_pin sessions ++ replicate (SEATS - length sessions) None

-- the copy of the pins as they stand
abbrev pub present_copy : World → PinCopy
present_copy w = copy_of (last_number w) (seat_pins w.sessions)

abbrev pub held_in : SessionState → Option ℕ
held_in (Holding hold) = Some hold.version
held_in (Asking hold inquiry) = Some hold.version
held_in _ = None

abbrev pub session_of : World → ℕ → SessionState
session_of w s = slice_index_or w.sessions s Idle

abbrev pub replies_of : MachineState → ℕ → List Answer
replies_of state s = slice_index_or state.replies s []

-- Starts

-- a state from which a run may start: there is version 0 alone, whose blocks are there, each once, and have the
-- edges of the opening graph; all other blocks are free; the floor is 0, no pin is copied, no session has
-- a pin, and none a reply
pub record IsStart (state : MachineState) : Type 0 where
  pub alone : state.world.versions ≡ []
  pub within : All (λ b. b < length state.world.status) state.world.opening.blocks
  pub different : AllPairs ◌≢◌ state.world.opening.blocks
  pub shown : AreEdgesOf (edges_of state.world.heap state.world.opening.blocks) (graph_of_opening state.world.opening)
  pub status : (b : ℕ) → b < length state.world.status → slice_get state.world.status b
      ≡ Some (if is_among b state.world.opening.blocks then Used 0 else Free)
  pub heap : length state.world.heap ≡ length state.world.status
  pub floor : state.world.floor ≡ 0
  pub copy : state.world.copy ≡ no_copy
  pub idle : state.world.sessions ≡ replicate (length state.world.sessions) Idle
  pub replies : state.replies ≡ replicate (length state.world.sessions) []

-- the opening without names, kinds, edges and blocks, under these limits and under the standard ones
abbrev pub empty_opening_in : LimitsView → Opening
empty_opening_in limits = record { content = content_of [] [] []; blocks = []; limits = limits }

abbrev pub empty_opening : Opening
empty_opening = empty_opening_in standard_limits

-- the start with the empty opening: all blocks are free and without edges
abbrev pub start_world_in : LimitsView → ℕ → ℕ → World
start_world_in limits sessions blocks = record {
  opening = empty_opening_in limits;
  heap = replicate blocks [];
  status = replicate blocks Free;
  versions = [];
  floor = 0;
  copy = no_copy;
  sessions = replicate sessions Idle;
}

abbrev pub start_world : ℕ → ℕ → World
start_world sessions blocks = start_world_in standard_limits sessions blocks

abbrev pub start_in : LimitsView → ℕ → ℕ → MachineState
start_in limits sessions blocks = record { world = start_world_in limits sessions blocks; replies = replicate sessions [] }

abbrev pub start : ℕ → ℕ → MachineState
start sessions blocks = start_in standard_limits sessions blocks
