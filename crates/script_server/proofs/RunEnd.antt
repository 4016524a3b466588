-- Why a run ends as it does.
use Rattle.std.proofs.Common.{◌≡◌, ◌≢◌, ℕ, ◌+◌, ◌<◌, List, length, ◌∙◌, ap, refl, subst, sym, arith, inl, inr}
use Rattle.std.{proofs.lemmas.Bool.true≢false, specs.Io.KnownBytes.Appends}
use Rattle.std.specs.Prelude.{◌⊎◌, Bool, false, true, Option, None, Some, Result, Ok, Err, IfErr, IfOk, is_err}
use Rattle.feed_csv.specs.{Commands.item_of, Records.Row, Records.record_limit}
use Rattle.feed_csv.specs.Script.{FaultStep, NextStep, ReadStopsIn, RefusesRow, Script, StopsAt, TakesRow}
use Rattle.feed_csv.specs.declared.{command.{Command.Command, FeedWord.FeedWord}, phase.Phase.TheVariants.{Reading, Stopped}}
use Rattle.feed_csv.specs.declared.command.FeedWord.TheVariants as feed_word
use Rattle.feed_csv.proofs.Faults.{lacks}
use Rattle.script_server.specs.declared.script.{Run.Run, ServeFault.{ServeFault, TheVariants.{Read, Start, Write}}}
use Rattle.script_server.specs.declared.script.Summary.{Summary}
use Rattle.script_server.specs.Ends.{CanEnd, End, HasCause, NoMemory, NoStore, TellsEnd, Unread, Unwritten, done_by, fault_of}
use Rattle.script_server.specs.Ends.{is_start, is_write, outcome_of, records_done}
use Rattle.script_server.specs.Runs.{EndsRun, EndsTurn, IsFresh, IsReadyRun, IsStartup, IsTurn, ShowsRun, fed}
use Rattle.script_server.specs.Writes.{AppendsPart, output}
use Rattle.script_commands.specs.States.{Progress, Setup, printed}
use Rattle.script_commands.specs.Servers.{pending_of}
use Rattle.script_lines.specs.declared.words.Word.TheVariants.{Feed}
use Rattle.script_server.proofs.RunSoFar.{few_given}

-- What the feed came to

-- an end's cause is that of the fault that is told of it
pub cause_told : (feed : Script) (end : End) (records : ℕ) (fault : ServeFault) (before after : Option (List ℕ))
    → HasCause feed (Err (fault_of end)) → TellsEnd end records fault (output before after) → HasCause feed (Err fault)
cause_told feed end records fault before after cause (inl whole) =
    subst (λ (f : ServeFault). HasCause feed (Err f)) (sym whole.0) cause
cause_told feed end records fault before after cause (inr part) = subst (λ (f : ServeFault). HasCause feed (Err f)) (sym part.0) tt

-- a turn ended the run
pub cause_stopped : (feed feed' : Script) (run : Run) (now after : Option (List ℕ)) (fault : ServeFault)
    → EndsTurn (fed feed run) fault feed' (output now after) → HasCause feed' (Err fault)
cause_stopped feed feed' run now after fault turned =
    cause_told feed' turned.ends.end run.records fault now after turned.cause turned.ends.told

-- the feed met the end of the input, and the run was finished
pub cause_ended : (feed feed' : Script) (run run' : Run) (now mid : Option (List ℕ)) (result : Result Summary ServeFault)
    → IsReadyRun feed run → IsTurn (fed feed run) (Ok false) (fed feed' run') (output now mid)
    → IfOk result
    (λ summary. summary ≡ record { records = run'.records; errors = run'.errors; pending = length (pending_of run'.server) })
    → IfErr result (λ fault. fault ≡ Write) → HasCause feed' result
cause_ended feed feed' run run' now mid (Ok summary) ready turned counts fault = (
  turned.0.ended,
  turned.0.works ∙ ready.works,
  ap (λ summary. summary.records) counts ∙ (ap (λ run. run.records) turned.1 ∙ (ready.records ∙ sym turned.0.given)),
)
cause_ended feed feed' run run' now mid (Err error) ready turned counts fault =
    subst (λ (f : ServeFault). HasCause feed' (Err f)) (sym fault) tt

-- a run whose finish failed
pub finish_failed : (failed : Bool) (result : Result Summary ServeFault) → IfErr result (λ fault. fault ≡ Write)
    → failed ≡ is_err result → failed ≡ is_write result
finish_failed failed (Ok summary) fault marked = marked
finish_failed failed (Err error) fault marked =
    subst (λ (f : ServeFault). failed ≡ is_write {T = Summary} (Err f)) (sym fault) marked

-- a run before its first record has done none
pub done_none : (feed : Script) → IsFresh feed → records_done feed ≡ 0
done_none feed fresh = rw (fresh.reading, fresh.given) refl

-- a run that was not begun
pub cause_unbegun : (feed : Script) (setup : Setup) (before after : Option (List ℕ)) (fault : ServeFault) → IsFresh feed
    → IsStartup setup (Err fault) (output before after) → HasCause feed (Err fault)
cause_unbegun feed setup before after fault fresh (inl none) =
    subst (λ (f : ServeFault). HasCause feed (Err f)) (sym none.0) fresh.reading
cause_unbegun feed setup before after fault fresh (inr told) =
    cause_told feed NoMemory 0 fault before after
    (subst (λ (n : ℕ). n < record_limit) (sym (done_none feed fresh)) (omega arith), lacks feed fresh.works) told

-- no store was opened at a record, whose error line was flushed
pub flushed_there : (old new : Script) (failed flushed : Bool) (result : Result Summary ServeFault) → failed ≡ is_write result
    → (failed ≡ false → flushed ≡ true) → is_start result ≡ true → flushed ≡ false → new ≡ old
flushed_there old new failed flushed (Err Start) failing marked is none = absurd (true≢false (sym (marked failing) ∙ none))
flushed_there old new failed flushed _ failing marked is none = cc

-- A record that the feed gave

-- all records but this one were done
done_given : (feed feed' : Script) (run : Run) (row : Row) → IsReadyRun feed run → TakesRow feed row feed'
    → records_done feed' ≡ run.records
done_given feed feed' run row ready takes =
    let count : feed'.given ≡ feed.given + 1 = takes.given in
    ap (λ phase. done_by phase feed'.given) takes.reading ∙ omega (arith, count, ready.records)

given_cause : (feed : Script) (end : End) → end ≢ Unread → records_done feed < record_limit → feed.phase ≡ Reading
    → feed.failed ≡ false → HasCause feed (Err (fault_of end))
given_cause feed Unread given few reading works = absurd (given refl)
given_cause feed NoMemory given few reading works = (few, lacks feed works)
given_cause feed NoStore given few reading works = reading
given_cause feed (Unwritten outcome) given few reading works = tt

-- it broke the run off
broken_at : (row : Row) (feed feed' : Script) (run : Run) (before after : Option (List ℕ)) (fault : ServeFault)
    → IsReadyRun feed run → TakesRow feed row feed' → EndsRun (Some (item_of row)) run fault (output before after)
    → EndsTurn (fed feed run) fault feed' (output before after)
broken_at row feed feed' run before after fault ready takes ends =
    let done : records_done feed' ≡ run.records = done_given feed feed' run row ready takes in
    let few : run.records < record_limit = few_given feed run ready takes.open_before in
    record {
      row = Some row;
      gives = takes;
      ends = ends;
      done = done;
      cause = given_cause feed' ends.end ends.given (subst (λ (n : ℕ). n < record_limit) (sym done) few) takes.reading
          (takes.works ∙ ready.works);
    }

-- a command
pub turn_broken : (command : Command) (field : Option Command) (feed feed' : Script) (run : Run)
    (before after : Option (List ℕ)) (fault : ServeFault) → IsReadyRun feed run → field ≡ Some command
    → NextStep feed (Ok field) feed' → EndsRun (Some (Ok command)) run fault (output before after)
    → EndsTurn (fed feed run) fault feed' (output before after)
turn_broken command field feed feed' run before after fault ready is step ends =
    let taken : NextStep feed (Ok (Some command)) feed' = rw is at step in
    broken_at taken.0 feed feed' run before after fault ready taken.2 (record {
      end = ends.end;
      given = ends.given;
      can = λ here shows. subst (λ item. CanEnd ends.end (Some item) here) (sym taken.1) (ends.can here shows);
      told = ends.told;
    })

-- a record that is no command, in whose error line a write failed
pub turn_unwritten : (word : FeedWord) (feed feed' : Script) (run : Run) (before after : Option (List ℕ))
    → IsReadyRun feed run → RefusesRow feed word feed' → AppendsPart before after (printed (run.records + 1) (Err (Feed word)))
    → EndsTurn (fed feed run) Write feed' (output before after)
turn_unwritten word feed feed' run before after ready refuses part =
    broken_at refuses.0 feed feed' run before after Write ready refuses.2 (record {
      end = Unwritten (Err (Feed word));
      given = λ same. cc;
      can = λ here shows. rw refuses.1 refl;
      told = inr (refl, part);
    })

-- A feed that stopped

-- the text of an end, before a record of this number
abbrev TellsAt : End → ℕ → ServeFault → Option (List ℕ) → Option (List ℕ) → Type 0
TellsAt end number fault before after =
    ((fault ≡ fault_of end) × Appends before after (printed number (outcome_of end)))
    ⊎ ((fault ≡ Write) × AppendsPart before after (printed number (outcome_of end)))

done_stopped : (feed feed' : Script) (run : Run) → IsReadyRun feed run → StopsAt feed feed' → records_done feed' ≡ run.records
done_stopped feed feed' run ready stops =
    ap (λ phase. done_by phase feed'.given) stops.stopped ∙ (stops.given ∙ sym ready.records)

stopped_at : (end : End) (number : ℕ) (feed feed' : Script) (run : Run) (before after : Option (List ℕ)) (fault : ServeFault)
    → IsReadyRun feed run → StopsAt feed feed' → number ≡ feed.given + 1 → fault_of end ≢ Write
    → ((here : Progress) → ShowsRun run here → CanEnd end None here) → HasCause feed' (Err (fault_of end))
    → TellsAt end number fault before after
    → EndsTurn (fed feed run) fault feed' (output before after)
stopped_at end number feed feed' run before after fault ready stops same given can cause told = record {
  row = None;
  gives = stops;
  ends = record {
    end = end;
    given = given;
    can = can;
    told = subst (λ (n : ℕ). TellsAt end n fault before after) (same ∙ ap (λ n. n + 1) (sym ready.records)) told;
  };
  done = done_stopped feed feed' run ready stops;
  cause = cause;
}

read_cause : (old new : Script) → old.phase ≡ Reading → ReadStopsIn (Some record_limit) old new → StopsAt old new
    → HasCause new (Err Read)
read_cause old new reading (inl fails) stops = (stops.stopped, inl fails.1)
read_cause old new reading (inr (inl full)) stops = (stops.stopped, inr (stops.given ∙ full.1))
read_cause old new reading (inr (inr there)) stops = absurd (let no : Reading ≡ Stopped = sym reading ∙ there.0 in cc)

-- csv's reader failed, or the limit of records was reached
pub turn_unread : (number : ℕ) (feed feed' : Script) (run : Run) (before after : Option (List ℕ)) (fault : ServeFault)
    → IsReadyRun feed run → FaultStep feed_word.Read feed feed' → number ≡ feed.given + 1
    → TellsAt Unread number fault before after
    → EndsTurn (fed feed run) fault feed' (output before after)
turn_unread number feed feed' run before after fault ready step same told =
    stopped_at Unread number feed feed' run before after fault ready step.1 same (λ same. cc) (λ here shows. tt)
    (read_cause feed feed' ready.reading step.0 step.1) told

-- memory ran out
pub turn_unfed : (number : ℕ) (feed feed' : Script) (run : Run) (before after : Option (List ℕ)) (fault : ServeFault)
    → IsReadyRun feed run → FaultStep feed_word.Memory feed feed' → number ≡ feed.given + 1
    → TellsAt NoMemory number fault before after
    → EndsTurn (fed feed run) fault feed' (output before after)
turn_unfed number feed feed' run before after fault ready step same told =
    let few : run.records < record_limit = few_given feed run ready step.0 in
    stopped_at NoMemory number feed feed' run before after fault ready step.1 same (λ same. cc)
    (λ here shows. subst (λ (n : ℕ). n < record_limit) shows.records few)
    (subst (λ (n : ℕ). n < record_limit) (sym (done_stopped feed feed' run ready step.1)) few, step.2) told
