-- A server's fields, and the states that they show.
use Rattle.std.specs.Prelude.{◌≡◌, ◌≢◌, ℕ, List, length, count_by, AllPairs, Ok, Err, Bool}
use Rattle.graph_version.specs.Versions.{layout_of}
use Rattle.block_reclamation.specs.Status.{is_free}
use Rattle.store_steps.specs.Desks.{DeskView, births_in, is_retired_by}
use Rattle.feed_csv.specs.declared.command.Command.{Command}
use Rattle.graph_types.specs.declared.batches.NamedOp.{NamedOp}
use Rattle.script_commands.specs.{Slots.{AreFew, AreSlotsOf, held_slots}, States.{Dates, IsCommandResult, RecordResult, Reopens}}
use Rattle.script_commands.specs.{States.{ServerState, after_command}, declared.server.{Server.Server, Response.Response}}
use Rattle.script_commands.specs.declared.server.{Response.TheVariants.{Lines, Refused}, Stop.{Stop, TheVariants.{Memory, Start}}}
use Rattle.stream_store.specs.declared.opening.OpenError.{OpenError}
use Rattle.stream_store.specs.declared.opening.OpenError.TheVariants as opening

-- the operations that are pending
abbrev pub pending_of : Server → List NamedOp
pending_of server = server.pending

-- no two names of the graph that the store opened with are one; the slots hold the desk's last version or ones before it, none
-- with more blocks than the store's; and there are as many blocks and slots as the configuration says
pub record IsServer (server : Server) : Type 0 where
  pub opening : AllPairs (λ a b. a ≢ b) server.desk.desk.last.opening.names
  pub slots : AreSlotsOf server.desk.desk.last server.slots
  pub few : AreFew server.config.blocks server.slots
  pub blocks : length server.desk.desk.pool ≡ server.config.blocks
  pub seats : length (held_slots server.slots) ≡ server.config.seats

-- the desk's last version is that of the state, its blocks have the births that the state says, and as many blocks are free, and
-- retired with each birth and retirement, as the state says
pub record ShowsDesk (d : DeskView) (s : ServerState) : Type 0 where
  pub opening : d.last.opening ≡ s.opening
  pub batches : d.last.batches ≡ s.batches
  pub layout : layout_of d.last.rows ≡ s.layout
  pub births : (source : ℕ) → births_in d source ≡ s.births source
  pub blocks : length d.pool ≡ s.blocks
  pub free : count_by is_free d.pool ≡ s.free
  pub retired : (q : ℕ → ℕ → Bool) → count_by (is_retired_by q) d.pool ≡ count_by (λ (x : Dates). q x.birth x.retirement) s.retired

-- the fields are those of the state
pub record ShowsServer (server : Server) (s : ServerState) : Type 0 where
  pub pending : server.pending ≡ s.pending
  pub desk : ShowsDesk server.desk.desk s
  pub held : held_slots server.slots ≡ s.held

-- what a record came to, with the lines in the buffer
abbrev pub result_of : Response → List ℕ → RecordResult
result_of Lines lines = Ok lines
result_of (Refused word) lines = Err word

-- the server did the command, in each state that it may show
abbrev pub Obeys : Command → Server → Response → List ℕ → Server → Type 0
Obeys command old response lines new =
    (s : ServerState) → ShowsServer old s
    → IsCommandResult command s (result_of response lines) × ShowsServer new (after_command command (result_of response lines) s)

-- the command opens a store anew with a version that a slot holds, in each state that the server may show
abbrev pub ReopensIn : Command → Server → Type 0
ReopensIn command server = (s : ServerState) → ShowsServer server s → Reopens (Ok command) s

-- what ends a run at a rebase whose store was not opened: out of memory has a word of its own
abbrev pub stop_of : OpenError → Stop
stop_of opening.OutOfMemory = Memory
stop_of opening.NoReader = Start opening.NoReader
stop_of (opening.PoolEmpty needed free) = Start (opening.PoolEmpty needed free)

-- a store that was not opened lacked a reader's place; out of memory is never reported so
abbrev pub LacksReader : Stop → Type 0
LacksReader stop = (error : OpenError) → stop ≡ Start error → error ≡ opening.NoReader

-- what ends a run at this command: a store is not opened only at a rebase to a version that a slot holds, where a reader's
-- place was lacking
abbrev pub EndsAt : Command → Server → Stop → Type 0
EndsAt command server stop = (error : OpenError) → stop ≡ Start error → (error ≡ opening.NoReader) × ReopensIn command server
