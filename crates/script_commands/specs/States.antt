-- Where a run stands between two records, and what one record does.
use Rattle.std.specs.Prelude.{◌≡◌, ◌≢◌, ℕ, ◌+◌, ◌-◌, not, List, [], ◌∷◌, ◌++◌, length, map, take, replicate, filter, true}
use Rattle.std.specs.{Prelude.{slice_get, slice_set, count_by, Option, None, Some, Result, Ok, Err}, FinMap.{entries, len}}
use Rattle.std.specs.Option.{option_map}
use Rattle.edge_block.specs.{Batches.{layout_after, sum_below, taken_by}, Rows.Shape}
use Rattle.block_reclamation.specs.{declared.copies.{Pin.Pin, PinCopy.PinCopy, TheConstants.SEATS}, Copies.needs}
use Rattle.block_reclamation.specs.Copies as copies
use Rattle.batch_shards.specs.Births.{births_after, dropped_births}
use Rattle.graph_types.specs.{Graph.Graph, Step.{after_all, empty_graph_in, left_by, outcomes}, View.in_view, Valid.push_refusal}
use Rattle.graph_types.specs.{Answer.{IsAnswer, resolved_filter}, declared.batches.{NamedOp.NamedOp, PushError.PushError}}
use Rattle.graph_types.specs.declared.requests.{Request.Request, Reply.Reply, AskError.AskError}
use Rattle.graph_types.specs.declared.batches.PushError.TheVariants as push
use Rattle.graph_types.specs.declared.requests.Request.TheVariants as request
use Rattle.graph_types.specs.declared.requests.Reply.TheVariants as reply
use Rattle.graph_types.specs.declared.requests.AskError.TheVariants as ask
use Rattle.feed_csv.specs.declared.command.Command.{Command, TheVariants.{Op, Commit, OpenSlot, CloseSlot, Query, Collect, Stat}}
use Rattle.feed_csv.specs.declared.command.{Command.TheVariants.Rebase, FeedWord.FeedWord}
use Rattle.feed_csv.specs.declared.command.FeedWord.TheVariants as feed
use Rattle.stream_store.specs.{Configs.ConfigView, Refusals.{Attempt, BatchRefusal, IsAdmissible}}
use Rattle.graph_types.specs.declared.refusals.ApplyError.{ApplyError}
use Rattle.graph_types.specs.declared.refusals.ApplyError.TheVariants as refused
use Rattle.script_lines.specs.declared.words.Word.{Word, TheVariants.{Feed, NotOpen, AlreadyOpen, BadWindow, NoKind, NoVertex}}
use Rattle.script_lines.specs.declared.words.Word.TheVariants.{BatchFull, BatchLimit, NamesFull, KindsFull, PoolEmpty}
use Rattle.script_lines.specs.Lines.{close_line, collect_line, commit_line, core_lines, count_different, degree_lines, edge_line}
use Rattle.script_lines.specs.Lines.{error_line, label_lines, level_lines, open_line, rebase_line, stat_line}

-- how a run is set up: the graph that it opens with, and how many blocks and seats there are
pub record Setup : Type 0 where
  pub opening : Graph
  pub blocks : ℕ
  pub seats : ℕ

-- a configuration opens with the empty graph, under its limits; how many workers there are changes nothing that is written
abbrev pub set_up : ConfigView → Setup
set_up config = record { opening = empty_graph_in config.limits; blocks = config.blocks; seats = config.seats }

-- of a retired block: the number of the version whose batch took it, and of the one whose batch dropped it
pub record Dates : Type 0 where
  pub birth : ℕ
  pub retirement : ℕ

abbrev pub dates : ℕ → ℕ → Dates
dates birth retirement = record { birth = birth; retirement = retirement }

-- a version that a slot holds: its number, and its row of blocks for each source
pub record Held : Type 0 where
  pub number : ℕ
  pub layout : ℕ → List Shape

-- the graph of version 0; the pending operations; the batches accepted so far, in order; the version that each slot
-- holds, or none, for as many slots as there are seats; the last version's row of blocks for each source, and which version
-- each of these blocks was taken by; how many blocks there are, and how many of them are free; and for each retired block the
-- versions that took and that retired it
pub record ServerState : Type 0 where
  pub opening : Graph
  pub pending : List NamedOp
  pub batches : List (List NamedOp)
  pub held : List (Option Held)
  pub layout : ℕ → List Shape
  pub births : ℕ → List ℕ
  pub blocks : ℕ
  pub free : ℕ
  pub retired : List Dates

-- how far a run has come: its state, how many records there were, and how many of them printed an error line
pub record Progress : Type 0 where
  pub state : ServerState
  pub records : ℕ
  pub errors : ℕ

-- at the start nothing is pending, accepted or held, no source has a block, and all blocks are free
abbrev pub beginning : Setup → Progress
beginning setup = record {
  state = record {
    opening = setup.opening;
    pending = [];
    batches = [];
    held = replicate setup.seats None;
    layout = λ source. [];
    births = λ source. [];
    blocks = setup.blocks;
    free = setup.blocks;
    retired = [];
  };
  records = 0;
  errors = 0;
}

-- version n is what the first n batches leave of the opening graph
abbrev pub version : ℕ → ServerState → Graph
version n s = left_by (take n s.batches) s.opening

abbrev pub last_version : ServerState → Graph
last_version s = left_by s.batches s.opening

-- the last version, as a slot that is opened holds it
abbrev pub last_held : ServerState → Held
last_held s = record { number = length s.batches; layout = s.layout }

-- what a record comes to: the lines that it prints, or the word of its refusal
abbrev pub RecordResult : Type 0
RecordResult = Result (List ℕ) Word

-- these lines, unless there is a refusal
abbrev pub lines_unless : Option Word → List ℕ → RecordResult
lines_unless None lines = Ok lines
lines_unless (Some word) lines = Err word

-- the words for the refusals of an operation, of a batch and of a request
abbrev pub push_word : PushError → Word
push_word push.BadName = Feed feed.BadName
push_word push.BadWeight = Feed feed.BadWeight
push_word push.BadTime = Feed feed.BadTime
push_word push.BatchFull = BatchFull
push_word push.OutOfMemory = Feed feed.Memory

abbrev pub batch_word : ApplyError → Word
batch_word refused.BatchLimit = BatchLimit
batch_word refused.NamesFull = NamesFull
batch_word refused.KindsFull = KindsFull
batch_word (refused.PoolEmpty needed free) = PoolEmpty
batch_word refused.OutOfMemory = Feed feed.Memory

abbrev pub ask_word : AskError → Word
ask_word ask.BadWindow = BadWindow
ask_word ask.NoKind = NoKind
ask_word ask.NoVertex = NoVertex
ask_word ask.OutOfMemory = Feed feed.Memory

-- what the pending batch would leave of the last version
abbrev pub left_by_pending : ServerState → Graph
left_by_pending s = after_all s.pending (last_version s)

-- how many blocks the pending batch takes, by the layout rule
abbrev pub blocks_taken : ServerState → ℕ
blocks_taken s = taken_by s.pending (last_version s) s.layout (length (left_by_pending s).names)

-- the births of those that it drops
abbrev pub blocks_dropped : ServerState → List ℕ
blocks_dropped s = dropped_births s.pending (last_version s) s.layout s.births (length (left_by_pending s).names)

-- how many blocks are used: neither free nor retired, they are the last version's
abbrev pub used : ServerState → ℕ
used s = s.blocks - (s.free + length s.retired)

-- the pending batch, as a desk would be asked to apply it
abbrev pub attempt : ServerState → Attempt
attempt s = record {
  ops = s.pending;
  batches = length s.batches;
  graph = last_version s;
  used = used s;
  free = s.free;
}

-- the pending batch is accepted, with a line on its outcomes; or refused, with the word for its refusal. No record is refused
-- because memory ran out, which ends a run
abbrev pub IsCommitted : ServerState → RecordResult → Type 0
IsCommitted s (Ok lines) =
    IsAdmissible (attempt s) × (lines ≡ commit_line (length s.batches + 1) (outcomes s.pending (last_version s)))
IsCommitted s (Err word) =
    (error : ApplyError) × BatchRefusal (attempt s) error × (error ≢ refused.OutOfMemory) × (word ≡ batch_word error)

-- the pending batch is accepted: the blocks that it takes are no longer free, and born with the new version's number, with which
-- those that it drops are retired
abbrev pub after_commit : ServerState → ServerState
after_commit s = record s {
  pending = [];
  batches = s.batches ++ s.pending ∷ [];
  layout = layout_after s.pending (last_version s) s.layout;
  births = births_after (length s.batches + 1) s.pending (last_version s) s.layout s.births;
  free = s.free - blocks_taken s;
  retired = s.retired ++ map (λ birth. dates birth (length s.batches + 1)) (blocks_dropped s);
}

-- the pins of held versions, one for each seat: a session that holds a version has told its number
abbrev pub holding : Held → Pin
holding held = record { number = held.number; is_settled = true }

abbrev pub pins_of : List (Option Held) → List (Option Pin)
pins_of held = map (option_map holding) held ++ replicate (SEATS - length held) None

-- the copy of these pins, and the floor: the least of the last version's number and all held numbers
abbrev pub copy_in : ServerState → PinCopy
copy_in s = copies.copy_of (length s.batches) (pins_of s.held)

abbrev pub floor_in : ServerState → ℕ
floor_in s = copies.floor_of (copy_in s)

-- how many blocks a collection frees: the retired ones that the copy doesn't need
abbrev pub recycled_blocks : ServerState → ℕ
recycled_blocks s = count_by (λ (d : Dates). not (needs (copy_in s) d.birth d.retirement)) s.retired

abbrev pub after_collect : ServerState → ServerState
after_collect s = record s {
  free = s.free + recycled_blocks s;
  retired = filter (λ (d : Dates). needs (copy_in s) d.birth d.retirement) s.retired;
}

abbrev pub op_refusal : Option PushError → Option Word
op_refusal None = None
op_refusal (Some error) = Some (push_word error)

-- the version that a slot holds: a slot past the seats is refused first, then one that holds none
abbrev pub version_in : Option (Option Held) → Result Held Word
version_in None = Err (Feed feed.BadSlot)
version_in (Some None) = Err NotOpen
version_in (Some (Some held)) = Ok held

-- a slot that already holds a version can't be opened
abbrev pub open_refusal : Option (Option Held) → Option Word
open_refusal None = Some (Feed feed.BadSlot)
open_refusal (Some None) = None
open_refusal (Some (Some held)) = Some AlreadyOpen

abbrev pub close_result : ℕ → Result Held Word → RecordResult
close_result slot (Ok held) = Ok (close_line slot)
close_result slot (Err word) = Err word

-- how many blocks a held version has: those in the rows of its vertices
abbrev pub held_block_count : Held → ServerState → ℕ
held_block_count held s = sum_below (length (version held.number s).names) (λ source. length (held.layout source))

-- A store is opened with the graph of a held version, which is laid out as it was there: the blocks are born with version 0, and
-- all others are free. No batch is accepted, no slot is open, and what was pending still is.
abbrev pub after_rebase : Held → ServerState → ServerState
after_rebase held s = record s {
  opening = version held.number s;
  batches = [];
  held = replicate (length s.held) None;
  layout = held.layout;
  births = λ source. map (λ (b : Shape). 0) (held.layout source);
  free = s.blocks - held_block_count held s;
  retired = [];
}

-- the line tells the new version 0
abbrev pub rebase_result : ServerState → Result Held Word → RecordResult
rebase_result s (Ok held) =
    let g = version held.number s in Ok (rebase_line 0 (length g.names) (len g.edges) (held_block_count held s))
rebase_result s (Err word) = Err word

abbrev pub rebased : ServerState → Result Held Word → ServerState
rebased s (Ok held) = after_rebase held s
rebased s (Err word) = s

-- the lines of a reply; those of labels begin with the number of different labels, and those of degrees with the number
-- of edges in the view. A reply of another kind than its request has none, and is no answer
abbrev pub reply_lines : ℕ → Request → Graph → Reply → List ℕ
reply_lines slot (request.Levels source filter) g (reply.Levels entries_of) = level_lines slot entries_of
reply_lines slot (request.Labels filter) g (reply.Labels entries_of) =
    label_lines slot (count_different (map (λ entry. entry.1) entries_of)) entries_of
reply_lines slot (request.Cores filter) g (reply.Cores entries_of) = core_lines slot entries_of
reply_lines slot (request.Degrees filter) g (reply.Degrees entries_of) =
    degree_lines slot (count_by (in_view (resolved_filter g filter)) (entries g.edges)) entries_of
reply_lines slot (request.OneEdge kind source target) g (reply.OneEdge shown) = edge_line slot shown
reply_lines slot asked g other = []

abbrev pub answer_result : ℕ → Request → Graph → Result Reply AskError → RecordResult
answer_result slot request g (Ok reply) = Ok (reply_lines slot request g reply)
answer_result slot request g (Err error) = Err (ask_word error)

-- a request's outcome is that of its answer over the version that the slot holds
abbrev pub IsReplied : ℕ → Request → ServerState → Result Held Word → RecordResult → Type 0
IsReplied slot request s (Err word) outcome = outcome ≡ Err word
IsReplied slot request s (Ok held) outcome =
    (answer : Result Reply AskError) × IsAnswer request (version held.number s) answer
    × (outcome ≡ answer_result slot request (version held.number s) answer)

-- what a command comes to
abbrev pub IsCommandResult : Command → ServerState → RecordResult → Type 0
IsCommandResult (Op op) s outcome = outcome ≡ lines_unless (op_refusal (push_refusal op (length s.pending))) []
IsCommandResult Commit s outcome = IsCommitted s outcome
IsCommandResult (OpenSlot slot) s outcome = outcome
    ≡ lines_unless (open_refusal (slice_get s.held slot)) (open_line slot (length s.batches))
IsCommandResult (CloseSlot slot) s outcome = outcome ≡ close_result slot (version_in (slice_get s.held slot))
IsCommandResult (Query slot request) s outcome = IsReplied slot request s (version_in (slice_get s.held slot)) outcome
IsCommandResult Collect s outcome = outcome ≡ Ok (collect_line (floor_in s) (recycled_blocks s) (length (after_collect s).retired))
IsCommandResult Stat s outcome = outcome ≡ Ok (stat_line (length s.batches) (length (last_version s).names)
    (len (last_version s).edges) s.free (length s.retired) (used s))
IsCommandResult (Rebase slot) s outcome = outcome ≡ rebase_result s (version_in (slice_get s.held slot))

-- the state that a command leaves: a refused batch is given up; a question, and any other refused command, changes nothing
abbrev pub after_command : Command → RecordResult → ServerState → ServerState
after_command (Op op) (Ok lines) s = record s { pending = s.pending ++ op ∷ [] }
after_command Commit (Ok lines) s = after_commit s
after_command Commit (Err word) s = record s { pending = [] }
after_command (OpenSlot slot) (Ok lines) s = record s { held = slice_set s.held slot (Some (last_held s)) }
after_command (CloseSlot slot) (Ok lines) s = record s { held = slice_set s.held slot None }
after_command Collect (Ok lines) s = after_collect s
after_command (Rebase slot) (Ok lines) s = rebased s (version_in (slice_get s.held slot))
after_command _ _ s = s

-- a record is a command, or is refused for the word that its fields have
abbrev pub IsRecordResult : Result Command FeedWord → ServerState → RecordResult → Type 0
IsRecordResult (Ok command) s outcome = IsCommandResult command s outcome
IsRecordResult (Err word) s outcome = outcome ≡ Err (Feed word)

-- the record opens a store anew, with the version that this slot holds
abbrev pub Reopens : Result Command FeedWord → ServerState → Type 0
Reopens item s = (slot : ℕ) × (held : Held) × (item ≡ Ok (Rebase slot)) × (version_in (slice_get s.held slot) ≡ Ok held)

abbrev pub after_item : Result Command FeedWord → RecordResult → ServerState → ServerState
after_item (Ok command) outcome s = after_command command outcome s
after_item (Err word) outcome s = s

-- one error line where the record was refused
abbrev pub error_count : RecordResult → ℕ
error_count (Ok lines) = 0
error_count (Err word) = 1

abbrev pub after_record : Result Command FeedWord → RecordResult → Progress → Progress
after_record item outcome p = record {
  state = after_item item outcome p.state;
  records = p.records + 1;
  errors = p.errors + error_count outcome;
}

-- what a record prints: its lines, or an error line with its number, counted from 1
abbrev pub printed : ℕ → RecordResult → List ℕ
printed number (Ok lines) = lines
printed number (Err word) = error_line number word
