-- How far a run has come: the records that were given, and their lines, which were written.
use Rattle.std.proofs.Common.{ℕ, ◌+◌, ◌<◌, List, [], ◌∷◌, ◌++◌, append_assoc, append-nil, arith, refl, sym, ◌∙◌, ap}
use Rattle.std.specs.{Prelude.{true, Option, Ok}, Io.KnownBytes.Appends}
use Rattle.graph_types.proofs.Prefixes.{appends_nothing, appends_then}
use Rattle.feed_csv.specs.{Commands.item_of, Records.{Row, record_limit}, Script.{IsOpen, Script}}
use Rattle.feed_csv.proofs.LeftRows.{Leaves, leaves-none, leaves-append}
use Rattle.script_server.specs.{declared.script.Run.Run, Executions.Executes, Runs.{IsReadyRun, IsTurn, ShowsRun, fed}}
use Rattle.script_server.specs.Writes.{output}
use Rattle.script_commands.specs.States.{IsRecordResult, Progress, RecordResult, Setup, after_record, beginning, printed}
use Rattle.script_commands.specs.Servers.{result_of}

pub run-append : (rows : List Row) (row : Row) (here there : Progress) (text : List ℕ) (outcome : RecordResult)
    → Executes rows here text there
    → IsRecordResult (item_of row) there.state outcome
    → Executes (rows ++ row ∷ []) here (text ++ printed (there.records + 1) outcome) (after_record (item_of row) outcome there)
run-append [] row here there text outcome run is =
    rw (run.0, run.1) (outcome, [], rw run.1 at is, sym (append-nil (printed (here.records + 1) outcome)), (refl, refl))
run-append (first ∷ rows) row here there text outcome run is = (
  run.0,
  run.1 ++ printed (there.records + 1) outcome,
  run.2,
  ap (λ text. text ++ printed (there.records + 1) outcome) run.3
      ∙ append_assoc (printed (here.records + 1) run.0) run.1 (printed (there.records + 1) outcome),
  run-append rows row (after_record (item_of first) run.0 here) there run.1 outcome run.4 is,
)

-- some records were given, their lines were written, and the run has come this far
pub record Reaches (setup : Setup) (first left : Option (List Row)) (run : Run) (before now : Option (List ℕ)) : Type 0 where
  pub given : List Row
  pub lines : List ℕ
  pub here : Progress
  pub is_run : Executes given (beginning setup) lines here
  pub leaves : Leaves first given left
  pub written : Appends before now lines
  pub shows : ShowsRun run here

abbrev pub reaches_nothing : (setup : Setup) (first : Option (List Row)) (run : Run) (before : Option (List ℕ))
    → ShowsRun run (beginning setup)
    → Reaches setup first first run before before
reaches_nothing setup first run before shows = record {
  given = [];
  lines = [];
  here = beginning setup;
  is_run = (refl, refl);
  leaves = leaves-none first;
  written = appends_nothing before;
  shows = shows;
}

abbrev pub reaches_more : (setup : Setup) (first : Option (List Row)) (feed feed' : Script) (run run' : Run)
    (before now after : Option (List ℕ))
    → Reaches setup first feed.left run before now → IsTurn (fed feed run) (Ok true) (fed feed' run') (output now after)
    → Reaches setup first feed'.left run' before after
reaches_more setup first feed feed' run run' before now after reached turned =
    let outcome = result_of turned.2.response turned.2.lines in
    let step = turned.2.step reached.here reached.shows in
    record {
      given = reached.given ++ turned.0 ∷ [];
      lines = reached.lines ++ printed (reached.here.records + 1) outcome;
      here = after_record (item_of turned.0) outcome reached.here;
      is_run = run-append reached.given turned.0 (beginning setup) reached.here reached.lines outcome reached.is_run step.0;
      leaves = leaves-append first reached.given turned.0 feed.left feed'.left reached.leaves turned.1.left;
      written = appends_then before now after reached.lines (printed (reached.here.records + 1) outcome) reached.written step.1;
      shows = step.2;
    }

-- a run is ready for the next record again
pub ready_more : (feed feed' : Script) (run run' : Run) (now after : Option (List ℕ)) → IsReadyRun feed run
    → IsTurn (fed feed run) (Ok true) (fed feed' run') (output now after)
    → IsReadyRun feed' run'
ready_more feed feed' run run' now after ready turned = record {
  server = turned.2.server;
  reading = turned.1.reading;
  works = turned.1.works ∙ ready.works;
  records = turned.2.records ∙ (ap (λ n. n + 1) ready.records ∙ sym turned.1.given);
  errors = omega (arith, turned.2.errors, turned.2.records, ready.errors);
}

pub few_given : (feed : Script) (run : Run) → IsReadyRun feed run → IsOpen feed → run.records < record_limit
few_given feed run ready is_open = rw ready.records is_open.room
