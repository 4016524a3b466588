-- What a run does beside the machine of interleavings: from each opening of a store to the next a run of the machine, whose replies
-- are the answers that the script prints.
use Rattle.std.specs.Prelude.{◌≡◌, ℕ, ◌+◌, ◌==◌, false, List, [], ◌∷◌, ◌++◌, if◌then◌else◌, slice_get, OnOk, Result, Ok, Err, Some}
use Rattle.std.specs.{List.AllZip}
use Rattle.feed_csv.specs.{Commands.item_of, Records.Row}
use Rattle.feed_csv.specs.declared.{command.Command.{Command, TheVariants.Query}, command.FeedWord.FeedWord}
use Rattle.graph_types.specs.declared.requests.Request.{Request}
use Rattle.epoch_core.specs.{Machine.Question, Runs.Runs, Versions.graph_of_opening, declared.events.Event.Event}
use Rattle.epoch_core.specs.Worlds.{Answer, IsStart, MachineState, World, replies_of}
use Rattle.script_lines.specs.declared.words.Word.{Word}
use Rattle.store_steps.specs.Steps.{all_done}
use Rattle.script_commands.specs.{Machine.{AreEventsOf, ShowsMachine}, Servers.{IsServer, ShowsServer}, declared.server.Server.Server}
use Rattle.script_commands.specs.States.{Held, IsRecordResult, Progress, RecordResult, Reopens, ServerState, after_record}
use Rattle.script_commands.specs.States.{answer_result, beginning, printed, version, version_in}
use Rattle.script_server.specs.{Ends.is_write, Executions.Input}
use Rattle.script_server.specs.declared.script.{ServeFault.ServeFault, Summary.Summary}

-- The answers

-- the question that a record asks of the version that this slot holds: its request, over what the batches up to the version leave
abbrev pub question_held : ServerState → Result Held Word → Request → List Question
question_held s (Ok held) request = record { request = request; graph = version held.number s } ∷ []
question_held s (Err word) request = []

abbrev pub question_to : ℕ → ServerState → Result Command FeedWord → List Question
question_to slot s (Ok (Query other request)) =
    if other == slot then question_held s (version_in (slice_get s.held slot)) request else []
question_to slot s _ = []

-- the records, executed one after another, print this text and bring a run from here to there; and each that asks the slot's version
-- a question prints the next of these answers, in order, until there is none
abbrev pub Prints : ℕ → List Row → Progress → List ℕ → List Answer → Progress → Type 0
Prints slot [] here text answers there = (text ≡ []) × (answers ≡ []) × (there ≡ here)
Prints slot (row ∷ rows) here text answers there =
    (outcome : RecordResult) × (rest : List ℕ) × (first : List Answer) × (more : List Answer)
    × IsRecordResult (item_of row) here.state outcome
    × (text ≡ printed (here.records + 1) outcome ++ rest) × (answers ≡ first ++ more)
    × AllZip (λ q answer. outcome ≡ answer_result slot q.request q.graph answer) (question_to slot here.state (item_of row)) first
    × Prints slot rows (after_record (item_of row) outcome here) rest more there

-- The events

-- where script, server and machine stand between two records
pub record Stand : Type 0 where
  pub progress : Progress
  pub server : Server
  pub world : World

abbrev pub stand : Progress → Server → World → Stand
stand progress server world = record { progress = progress; server = server; world = world }

-- the server shows the state of the script and the world of the machine
pub record IsShown (here : Stand) : Type 0 where
  pub server : IsServer here.server
  pub state : ShowsServer here.server here.progress.state
  pub machine : ShowsMachine here.server here.world

-- the events of a record: those of its command, and none where it is no command
abbrev pub AreEventsOfRecord : Result Command FeedWord → Server → RecordResult → Server → World → List Event → Type 0
AreEventsOfRecord (Ok command) old outcome new w events = AreEventsOf command old outcome new w events
AreEventsOfRecord (Err word) old outcome new w events = events ≡ []

-- a record, which doesn't open a store anew, comes to this, and the machine does the record's events, all of them
pub record Does (item : Result Command FeedWord) (here : Stand) (outcome : RecordResult) (events : List Event) (next : Stand) : Type 0 where
  pub stays : Reopens item here.progress.state → ⊥
  pub result : IsRecordResult item here.progress.state outcome
  pub progress : next.progress ≡ after_record item outcome here.progress
  pub are : AreEventsOfRecord item here.server outcome next.server here.world events
  pub done : all_done events here.world ≡ Some next.world
  pub shown : IsShown next

-- so do the records, one after another: they print this text, and these are their events
abbrev pub DoesAll : List Row → Stand → List ℕ → List Event → Stand → Type 0
DoesAll [] here text events there = (text ≡ []) × (events ≡ []) × (there ≡ here)
DoesAll (row ∷ rows) here text events there =
    (outcome : RecordResult) × (first : List Event) × (next : Stand) × (rest : List ℕ) × (more : List Event)
    × Does (item_of row) here outcome first next × (text ≡ printed (here.progress.records + 1) outcome ++ rest)
    × (events ≡ first ++ more) × DoesAll rows next rest more there

-- The segments

-- what is done over one store: a start of the machine, events, and where these lead, and the server there at first and at the end
pub record Segment : Type 0 where
  pub start : MachineState
  pub opened : Server
  pub events : List Event
  pub end : MachineState
  pub left : Server

-- these records, done over one store, are a run of the machine: from a start over the graph that the store was opened with, through
-- the events of each record, to replies that are, for each session, the answers that the slot of its number prints
pub record IsSegment (s : Segment) (rows : List Row) (here : Progress) (text : List ℕ) (there : Progress) : Type 0 where
  pub start : IsStart s.start
  pub opening : graph_of_opening s.start.world.opening ≡ here.state.opening
  pub shown : IsShown (stand here s.opened s.start.world)
  pub does : DoesAll rows (stand here s.opened s.start.world) text s.events (stand there s.left s.end.world)
  pub runs : Runs s.start s.events s.end
  pub replies : (slot : ℕ) → Prints slot rows here text (replies_of s.end slot) there

-- the records of a run: those over the first store, and before those over each further one the record that opens it
abbrev pub AreSegments : Segment → List Segment → List Row → Progress → List ℕ → Progress → Type 0
AreSegments s [] rows here text there = IsSegment s rows here text there
AreSegments s (next ∷ segments) rows here text there =
    (front : List Row) × (row : Row) × (back : List Row) × (lines : List ℕ) × (rest : List ℕ) × (between : Progress)
    × (outcome : RecordResult) × IsSegment s front here lines between × Reopens (item_of row) between.state
    × IsRecordResult (item_of row) between.state outcome × (rows ≡ front ++ row ∷ back)
    × (text ≡ lines ++ (printed (between.records + 1) outcome ++ rest))
    × AreSegments next segments back (after_record (item_of row) outcome between) rest there

-- one segment for each store that was opened; where none was, no record was done
abbrev pub AreAllSegments : List Segment → List Row → Progress → List ℕ → Progress → Type 0
AreAllSegments [] rows here text there = (rows ≡ []) × (text ≡ []) × (there ≡ here)
AreAllSegments (s ∷ segments) rows here text there = AreSegments s segments rows here text there

-- The run

-- what a run that did so many of these records has written begins with the lines of segments of the machine: those of all records
-- that it did, and at Ok of all that there are. Where a write failed they may be those of fewer
abbrev pub IsMachineText : Input → ℕ → Result Summary ServeFault → List ℕ → Type 0
IsMachineText input count result text =
    (segments : List Segment) × (given : List Row) × (left : List Row) × (lines : List ℕ) × (rest : List ℕ) × (there : Progress)
    × AreAllSegments segments given (beginning input.setup) lines there × (input.rows ≡ given ++ left) × (text ≡ lines ++ rest)
    × OnOk result (left ≡ []) × (is_write result ≡ false → there.records ≡ count)
