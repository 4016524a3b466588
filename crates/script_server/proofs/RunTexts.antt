-- What a run has written when it ends.
use Rattle.std.proofs.Common.{◌≡◌, ℕ, ◌<◌, List, [], ◌++◌, length, append_assoc, append-nil, arith, refl, sym, ◌∙◌, ap}
use Rattle.std.{proofs.Common.{subst, inl, inr}, specs.Prelude.{false, Option, None, Some, Result, Ok, Err, IfErr, IfOk, IfSome}}
use Rattle.std.specs.{Prelude.{OnErr, OnOk, option_map, slice_get}, Io.KnownBytes.Appends}
use Rattle.graph_types.proofs.Prefixes.{appends_then, appends_nothing}
use Rattle.feed_csv.specs.{Commands.item_of, Records.IsOver, Records.Row, Records.TakesRecord, Records.record_limit, Records.records_of}
use Rattle.feed_csv.specs.{Script.MeetsEnd, Script.Script, declared.command.Command.Command, declared.command.FeedWord.FeedWord}
use Rattle.script_server.specs.declared.script.{Run.Run, ServeFault.{ServeFault, TheVariants.Write}, Summary.Summary}
use Rattle.script_server.specs.Ends.{CanEnd, End, NoMemory, NoStore, TellsEnd, Unread, Unwritten, last_text, records_done}
use Rattle.script_server.specs.{Executions.{IsFullText, input}, Texts.{IsIntendedText, IsText, IsTextTo}}
use Rattle.script_server.specs.Runs.{EndsTurn, GivesRow, IsFresh, IsReadyRun, IsStartup, IsTurn, ShowsRun, fed}
use Rattle.script_server.specs.Writes.{AppendsPart, AppendsSome, output}
use Rattle.script_commands.specs.{States.{Progress, Setup, beginning}, Servers.pending_of}
use Rattle.script_server.proofs.Writing.{part_then}
use Rattle.script_server.proofs.{RunEnd.done_none, RunSoFar.{Reaches, few_given}}
use Rattle.script_lines.specs.Lines.{end_line}

-- An end of a run

-- an end at no record can come before any
can_before : (end : End) (item : Option (Result Command FeedWord)) (here : Progress) → CanEnd end None here → CanEnd end item here
can_before Unread item here can = tt
can_before NoMemory item here can = can
can_before NoStore item here can = absurd can
can_before (Unwritten outcome) item here can = absurd can

-- one at a record that was taken comes before this one
can_at_first : (end : End) (row : Row) (rest : List Row) (others : Option (List Row)) (here : Progress)
    → TakesRecord (Some rest) row others → CanEnd end (Some (item_of row)) here
    → CanEnd end (option_map item_of (slice_get rest 0)) here
can_at_first end row rest None here takes can = absurd takes
can_at_first end row rest (Some others) here takes can =
    subst (λ rows. CanEnd end (option_map item_of (slice_get rows 0)) here) (sym takes) can

can_there : (end : End) (row : Option Row) (feed feed' : Script) (rest : List Row) (here : Progress) → feed.left ≡ Some rest
    → GivesRow feed row feed' → CanEnd end (option_map item_of row) here → CanEnd end (option_map item_of (slice_get rest 0)) here
can_there end None feed feed' rest here is gives can = can_before end (option_map item_of (slice_get rest 0)) here can
can_there end (Some row) feed feed' rest here is gives can =
    can_at_first end row rest feed'.left here (subst (λ left. TakesRecord left row feed'.left) is gives.left) can

-- the text so far, and what is printed last
text_to : (setup : Setup) (rows : List Row) (left : Option (List Row)) (run : Run) (before now : Option (List ℕ)) (end : End)
    → (reached : Reaches setup (Some rows) left run before now)
    → ((rest : List Row) → left ≡ Some rest → CanEnd end (option_map item_of (slice_get rest 0)) reached.here)
    → IsTextTo end (input setup rows) reached.here (reached.lines ++ last_text end run.records)
text_to setup rows None run before now end reached can = absurd reached.leaves
text_to setup rows (Some rest) run before now end reached can = record {
  given = reached.given;
  left = rest;
  lines = reached.lines;
  rows = reached.leaves;
  executes = reached.is_run;
  can = can rest refl;
  is = ap (λ n. reached.lines ++ last_text end n) reached.shows.records;
}

-- a part of what follows the text so far
part_of : (setup : Setup) (rows : List Row) (left : Option (List Row)) (run : Run) (before now after : Option (List ℕ))
    (next : List ℕ) (count : ℕ) (fault : ServeFault) → (reached : Reaches setup (Some rows) left run before now)
    → IsIntendedText (input setup rows) (reached.lines ++ next) → fault ≡ Write → AppendsPart now after next
    → AppendsSome before after (IsText (input setup rows) count (Err fault))
part_of setup rows left run before now after next count fault reached wanted is part = (
  reached.lines ++ part.0,
  appends_then before now after reached.lines part.0 reached.written part.3,
  inr (inr (
    is,
    reached.lines ++ next,
    part.1,
    wanted,
    ap (λ text. reached.lines ++ text) part.2 ∙ sym (append_assoc reached.lines part.0 part.1),
  )),
)

-- an end is told
told_of : (setup : Setup) (rows : List Row) (left : Option (List Row)) (run : Run) (before now after : Option (List ℕ)) (end : End)
    (count : ℕ) (fault : ServeFault) → (reached : Reaches setup (Some rows) left run before now)
    → IsTextTo end (input setup rows) reached.here (reached.lines ++ last_text end run.records) → count ≡ run.records
    → TellsEnd end run.records fault (output now after)
    → AppendsSome before after (IsText (input setup rows) count (Err fault))
told_of setup rows left run before now after end count fault reached is same (inl whole) = (
  reached.lines ++ last_text end run.records,
  appends_then before now after reached.lines (last_text end run.records) reached.written whole.1,
  inr (inl (end, reached.here, is, whole.0, sym (same ∙ reached.shows.records))),
)
told_of setup rows left run before now after end count fault reached is same (inr part) =
    part_of setup rows left run before now after (last_text end run.records) count fault reached (reached.here, inr (end, is))
    part.0 part.1

-- a turn that ended the run
pub stopped : (setup : Setup) (rows : List Row) (feed feed' : Script) (run : Run) (before now after : Option (List ℕ))
    (fault : ServeFault) → Reaches setup (Some rows) feed.left run before now
    → EndsTurn (fed feed run) fault feed' (output now after)
    → AppendsSome before after (IsText (input setup rows) (records_done feed') (Err fault))
stopped setup rows feed feed' run before now after fault reached turned =
    let end : End = turned.ends.end in
    told_of setup rows feed.left run before now after end (records_done feed') fault reached
    (text_to setup rows feed.left run before now end reached
    (λ rest is. can_there end turned.row feed feed' rest reached.here is turned.gives
    (turned.ends.can reached.here reached.shows)))
    turned.done turned.ends.told

-- The end of the input

-- all records were given
whole_of : (setup : Setup) (rows : List Row) (left : Option (List Row)) (run : Run) (before now : Option (List ℕ))
    → (reached : Reaches setup (Some rows) left run before now) → IsOver left → run.records < record_limit
    → IsFullText setup rows (reached.lines ++ end_line (length (pending_of run.server))) reached.here
whole_of setup rows None run before now reached over few = absurd reached.leaves
whole_of setup rows (Some rest) run before now reached over few =
    let all : rows ≡ reached.given = reached.leaves ∙ (ap (λ rest. reached.given ++ rest) over ∙ append-nil reached.given) in
    let number : run.records ≡ reached.here.records = reached.shows.records in (
      reached.lines,
      rw all reached.is_run,
      ap (λ pending. reached.lines ++ end_line (length pending)) reached.shows.server.pending,
      rw (← number) few,
    )

pub finished : (setup : Setup) (rows : List Row) (left : Option (List Row)) (run : Run) (before now after : Option (List ℕ))
    (count : ℕ)
    (summary : Summary) → Reaches setup (Some rows) left run before now → IsOver left → run.records < record_limit
    → count ≡ run.records
    → Appends now after (end_line (length (pending_of run.server)))
    → summary ≡ record { records = run.records; errors = run.errors; pending = length (pending_of run.server) }
    → AppendsSome before after (IsText (input setup rows) count (Ok summary))
finished setup rows left run before now after count summary reached over few same written counts = (
  reached.lines ++ end_line (length (pending_of run.server)),
  appends_then before now after reached.lines _ reached.written written,
  (
    reached.here,
    whole_of setup rows left run before now reached over few,
    sym (same ∙ reached.shows.records),
    rw (counts, reached.shows.records, reached.shows.errors, reached.shows.server.pending) refl,
  ),
)

pub unfinished : (setup : Setup) (rows : List Row) (left : Option (List Row)) (run : Run) (before now after : Option (List ℕ))
    (count : ℕ)
    → Reaches setup (Some rows) left run before now → IsOver left → run.records < record_limit
    → AppendsPart now after (end_line (length (pending_of run.server)))
    → AppendsSome before after (IsText (input setup rows) count (Err Write))
unfinished setup rows left run before now after count reached over few part =
    part_of setup rows left run before now after (end_line (length (pending_of run.server))) count Write reached
    (reached.here, inl (whole_of setup rows left run before now reached over few)) refl part

-- at the end of the input each record that was given was done
pub done_ended : (feed feed' : Script) (run : Run) → IsReadyRun feed run → MeetsEnd feed feed' → records_done feed' ≡ run.records
done_ended feed feed' run ready meets = rw meets.ended (meets.given ∙ sym ready.records)

-- what a run's finish answers
pub record Finishes (run : Run) (mid after : Option (List ℕ)) (result : Result Summary ServeFault) : Type 0 where
  pub whole : OnOk result (Appends mid after (end_line (length (pending_of run.server))))
  pub summary : IfOk result
      (λ summary. summary ≡ record { records = run.records; errors = run.errors; pending = length (pending_of run.server) })
  pub part : OnErr result (AppendsPart mid after (end_line (length (pending_of run.server))))
  pub fault : IfErr result (λ fault. fault ≡ Write)

-- the end of the input
pub whole_or_part : (setup : Setup) (rows : List Row) (feed feed' : Script) (run run' : Run)
    (before now mid after : Option (List ℕ))
    (result : Result Summary ServeFault) → IsReadyRun feed run → Reaches setup (Some rows) feed.left run before now
    → IsTurn (fed feed run) (Ok false) (fed feed' run') (output now mid)
    → Finishes run' mid after result
    → AppendsSome before after (IsText (input setup rows) (records_done feed') result)
whole_or_part setup rows feed feed' run run' before now mid after (Ok summary) ready reached turned ends =
    let same : run' ≡ run = turned.1 in
    let few : run.records < record_limit = few_given feed run ready turned.0.open_before in
    let written : Appends now after (end_line (length (pending_of run.server))) =
    appends_then now mid after [] (end_line (length (pending_of run.server))) turned.2 (rw same at ends.whole) in
    finished setup rows feed.left run before now after (records_done feed') summary reached turned.0.over few
    (done_ended feed feed' run ready turned.0) written (rw same at ends.summary)
whole_or_part setup rows feed feed' run run' before now mid after (Err error) ready reached turned ends =
    let same : run' ≡ run = turned.1 in
    let few : run.records < record_limit = few_given feed run ready turned.0.open_before in
    let written : AppendsPart now after (end_line (length (pending_of run.server))) =
    part_then now mid after [] (end_line (length (pending_of run.server))) turned.2 (rw same at ends.part) in
    let text = unfinished setup rows feed.left run before now after (records_done feed') reached turned.0.over few written in
    rw ends.fault text

-- the same of all records that are left, where they are known
pub all_stopped : (first : Option (List Row)) (feed feed' : Script) (start run : Run) (before now after : Option (List ℕ))
    (fault : ServeFault)
    → ((setup : Setup) → ShowsRun start (beginning setup) → Reaches setup first feed.left run before now)
    → EndsTurn (fed feed run) fault feed' (output now after)
    → IfSome first (λ rows. (setup : Setup) → ShowsRun start (beginning setup)
    → AppendsSome before after (IsText (input setup rows) (records_done feed') (Err fault)))
all_stopped None feed feed' start run before now after fault reached turned = tt
all_stopped (Some rows) feed feed' start run before now after fault reached turned = λ setup shows.
    stopped setup rows feed feed' run before now after fault (reached setup shows) turned

pub all_ended : (first : Option (List Row)) (feed feed' : Script) (start run run' : Run) (before now mid after : Option (List ℕ))
    (result : Result Summary ServeFault) → IsReadyRun feed run
    → ((setup : Setup) → ShowsRun start (beginning setup) → Reaches setup first feed.left run before now)
    → IsTurn (fed feed run) (Ok false) (fed feed' run') (output now mid)
    → Finishes run' mid after result
    → IfSome first (λ rows. (setup : Setup) → ShowsRun start (beginning setup)
    → AppendsSome before after (IsText (input setup rows) (records_done feed') result))
all_ended None feed feed' start run run' before now mid after result ready reached turned ends = tt
all_ended (Some rows) feed feed' start run run' before now mid after result ready reached turned ends =
    λ setup shows.
    whole_or_part setup rows feed feed' run run' before now mid after result ready
    (reached setup shows) turned ends

-- from a run to the records that are left
pub from_run : (left : Option (List Row)) (start : Run) (setup : Setup) (count : ℕ) (before mid after : Option (List ℕ))
    (result : Result Summary ServeFault)
    → ShowsRun start (beginning setup) → mid ≡ before
    → IfSome left (λ rows. (setup : Setup) → ShowsRun start (beginning setup)
    → AppendsSome mid after (IsText (input setup rows) count result))
    → IfSome left (λ rows. AppendsSome before after (IsText (input setup rows) count result))
from_run None start setup count before mid after result shows same all = tt
from_run (Some rows) start setup count before mid after result shows same all =
    subst (λ from. AppendsSome from after (IsText (input setup rows) count result)) same (all setup shows)

-- from the records that are left to the bytes
pub from_bytes : (IsWritten : List Row → ℕ → Result Summary ServeFault → List ℕ → Type 0) (known : Option (List ℕ))
    (left : Option (List Row)) (count : ℕ) (before mid after last : Option (List ℕ)) (result : Result Summary ServeFault)
    → left ≡ option_map records_of known → mid ≡ before → last ≡ after
    → IfSome left (λ rows. AppendsSome mid after (IsWritten rows count result))
    → IfSome known (λ bytes. (done : ℕ) × AppendsSome before last (IsWritten (records_of bytes) done result))
from_bytes IsWritten None left count before mid after last result same held ended all = tt
from_bytes IsWritten (Some bytes) left count before mid after last result same held ended all = (
  count,
  subst (λ to. AppendsSome before to (IsWritten (records_of bytes) count result)) (sym ended)
      (subst (λ from. AppendsSome from after (IsWritten (records_of bytes) count result)) held
      (subst (λ left. IfSome left (λ rows. AppendsSome mid after (IsWritten rows count result))) same all)),
)

-- A run that was not begun

unbegun_text : (setup : Setup) (rows : List Row) → IsTextTo NoMemory (input setup rows) (beginning setup) (last_text NoMemory 0)
unbegun_text setup rows = record {
  given = [];
  left = rows;
  lines = [];
  rows = refl;
  executes = (refl, refl);
  can = let few : 0 < record_limit = omega arith in few;
  is = refl;
}

pub never_started : (left : Option (List Row)) (setup : Setup) (feed : Script) (before after : Option (List ℕ))
    (fault : ServeFault) → IsFresh feed → IsStartup setup (Err fault) (output before after)
    → IfSome left (λ rows. AppendsSome before after (IsText (input setup rows) (records_done feed) (Err fault)))
never_started None setup feed before after fault fresh ends = tt
never_started (Some rows) setup feed before after fault fresh (inl none) =
    ([], subst (λ now. Appends before now []) (sym none.1) (appends_nothing before), inl (none.0, refl, done_none feed fresh))
never_started (Some rows) setup feed before after fault fresh (inr (inl whole)) = (
  last_text NoMemory 0,
  whole.1,
  inr (inl (NoMemory, beginning setup, unbegun_text setup rows, whole.0, sym (done_none feed fresh))),
)
never_started (Some rows) setup feed before after fault fresh (inr (inr part)) = (
  part.1.0,
  part.1.3,
  inr (inr (part.0, last_text NoMemory 0, part.1.1, (beginning setup, inr (NoMemory, unbegun_text setup rows)), part.1.2)),
)
