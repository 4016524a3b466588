-- What the sessions of a slot are told in a script, by the machine's words for what a session holds.
use Rattle.std.specs.Prelude.{◌≡◌, ℕ, ◌+◌, ◌==◌, List, [], ◌∷◌, ◌++◌, map, if◌then◌else◌, slice_get, Result, Ok, Err}
use Rattle.std.specs.{Prelude.Bool, Prelude.true, Prelude.false, Prelude.IsFalse, List.{AllZip, flat_map, list_any}}
use Rattle.feed_csv.specs.{Commands.item_of, Records.Row}
use Rattle.feed_csv.specs.declared.{command.Command.{Command, TheVariants.{OpenSlot, CloseSlot, Query, Rebase}}, command.FeedWord.FeedWord}
use Rattle.graph_types.specs.{Graph.unlimited, declared.requests.Request.Request}
use Rattle.epoch_core.specs.{Holdings.{Observation, Entered, Replied, Released, holdings_of, questions}, Worlds.Answer}
use Rattle.epoch_core.specs.Machine.{Question, Answers}
use Rattle.script_lines.specs.declared.words.Word.{Word}
use Rattle.script_commands.specs.States.{Held, IsRecordResult, Progress, RecordResult, ServerState, Setup, after_record}
use Rattle.script_commands.specs.States.{answer_result, beginning, last_version, printed, version_in}
use Rattle.script_server.specs.Executions.{Executes}

-- the request that a record asks of the version that this slot holds
abbrev pub asked_in : Result Held Word → Request → List Request
asked_in (Ok held) request = request ∷ []
asked_in (Err word) request = []

abbrev pub asked_of : ℕ → ServerState → Result Command FeedWord → List Request
asked_of slot s (Ok (Query other request)) = if other == slot then asked_in (version_in (slice_get s.held slot)) request else []
asked_of slot s _ = []

-- what befalls the slot in a record that comes to this: it is opened on the last version, whatever the limits, closed, as a rebase
-- closes all slots, or replied to
abbrev pub observed_in : ℕ → ServerState → Result Command FeedWord → RecordResult → List Observation
observed_in slot s (Ok (OpenSlot other)) (Ok lines) = if other == slot then Entered (unlimited (last_version s)) ∷ [] else []
observed_in slot s (Ok (CloseSlot other)) (Ok lines) = if other == slot then Released ∷ [] else []
observed_in slot s (Ok (Rebase other)) (Ok lines) = Released ∷ []
observed_in slot s item _ = map Replied (asked_of slot s item)

-- the records, executed one after another, print this text; this befalls the slot in them; and its requests come to these results
abbrev pub Tells : ℕ → List Row → Progress → List ℕ → List Observation → List RecordResult → Type 0
Tells slot [] here text seen told = (text ≡ []) × (seen ≡ []) × (told ≡ [])
Tells slot (row ∷ rows) here text seen told =
    (outcome : RecordResult) × (rest : List ℕ) × (more : List Observation) × (others : List RecordResult)
    × IsRecordResult (item_of row) here.state outcome × (text ≡ printed (here.records + 1) outcome ++ rest)
    × (seen ≡ observed_in slot here.state (item_of row) outcome ++ more)
    × (told ≡ map (λ request. outcome) (asked_of slot here.state (item_of row)) ++ others)
    × Tells slot rows (after_record (item_of row) outcome here) rest more others

-- a request's result at a slot: the lines of its answer, which begin with the slot's number, or the word of its refusal
abbrev pub IsToldAt : ℕ → Question → RecordResult → Type 0
IsToldAt slot q outcome = (answer : Answer) × Answers q answer × (outcome ≡ answer_result slot q.request q.graph answer)

-- one answer, told at two slots
abbrev pub AreToldAlike : ℕ → ℕ → RecordResult → RecordResult → Type 0
AreToldAlike slot other a b =
    (q : Question) × (answer : Answer) × Answers q answer × (a ≡ answer_result slot q.request q.graph answer)
    × (b ≡ answer_result other q.request q.graph answer)

-- each text that a script prints tells such things of each slot
abbrev pub TellsOfEachSlot : Type 0
TellsOfEachSlot =
    (slot : ℕ) (setup : Setup) (rows : List Row) (text : List ℕ) (there : Progress) → Executes rows (beginning setup) text there
    → (seen : List Observation) × (told : List RecordResult) × Tells slot rows (beginning setup) text seen told

-- in one script: what the requests come to are, one by one, the answers to the requests of the slot's holdings, each over what
-- the batches up to the held version leave
abbrev pub LinesAreAnswers : Type 0
LinesAreAnswers =
    (slot : ℕ) (setup : Setup) (rows : List Row) (text : List ℕ) (seen : List Observation) (told : List RecordResult)
    → Tells slot rows (beginning setup) text seen told → AllZip (IsToldAt slot) (questions (holdings_of seen)) told

-- in two scripts, over any set-ups: where two slots have the same holdings, the k-th requests are told one answer, and at slots of
-- one number they come to the same: the same lines, or the same word, beside which an error line has its record's number. Holdings
-- are the same where they are as many, and the k-th ones have versions of equal graphs, whatever the limits, and equal lists of
-- requests
pub record AgreeingSlotsAreToldAlike : Type 0 where
  pub two_slots :
      (slot other : ℕ) (setup other_setup : Setup) (rows other_rows : List Row) (text other_text : List ℕ)
      (seen other_seen : List Observation) (told other_told : List RecordResult)
      → Tells slot rows (beginning setup) text seen told → Tells other other_rows (beginning other_setup) other_text other_seen other_told
      → holdings_of seen ≡ holdings_of other_seen → AllZip (AreToldAlike slot other) told other_told
  pub one_slot :
      (slot : ℕ) (setup other_setup : Setup) (rows other_rows : List Row) (text other_text : List ℕ)
      (seen other_seen : List Observation) (told other_told : List RecordResult)
      → Tells slot rows (beginning setup) text seen told → Tells slot other_rows (beginning other_setup) other_text other_seen other_told
      → holdings_of seen ≡ holdings_of other_seen → told ≡ other_told

-- whether a record closes this slot, as a rebase closes all
abbrev pub closes_slot : ℕ → Result Command FeedWord → Bool
closes_slot slot (Ok (CloseSlot other)) = other == slot
closes_slot slot (Ok (Rebase other)) = true
closes_slot slot _ = false

abbrev pub StaysOpen : ℕ → List Row → Type 0
StaysOpen slot rows = IsFalse (list_any (λ row. closes_slot slot (item_of row)) rows)

-- the requests to a slot in these records
abbrev pub request_to : ℕ → Result Command FeedWord → List Request
request_to slot (Ok (Query other request)) = if other == slot then request ∷ [] else []
request_to slot _ = []

abbrev pub requests_to : ℕ → List Row → List Request
requests_to slot rows = flat_map (λ row. request_to slot (item_of row)) rows

-- from where a run has come to hold a version in a slot: whatever records follow, as long as none closes the slot, it is told
-- the same for the same requests
abbrev pub OthersChangeNothing : Type 0
OthersChangeNothing =
    (slot : ℕ) (setup : Setup) (front : List Row) (before : List ℕ) (here : Progress) (held : Held)
    (rows other_rows : List Row) (text other_text : List ℕ) (seen other_seen : List Observation)
    (told other_told : List RecordResult)
    → Executes front (beginning setup) before here → version_in (slice_get here.state.held slot) ≡ Ok held
    → Tells slot rows here text seen told → Tells slot other_rows here other_text other_seen other_told → StaysOpen slot rows
    → StaysOpen slot other_rows → requests_to slot rows ≡ requests_to slot other_rows → told ≡ other_told
