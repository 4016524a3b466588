-- How far script and machine have come together, and what a run has written when it ends.
use Rattle.std.proofs.Common.{◌≡◌, ℕ, ◌+◌, List, [], ◌∷◌, ◌++◌, length, append_assoc, append-nil, refl, sym, ◌∙◌, ap, subst}
use Rattle.std.proofs.Common.{inl, inr}
use Rattle.std.specs.{Prelude.{false, true, Option, None, Some, Result, Ok, Err, IfSome, MatchResult, OnOk}, Io.KnownBytes.Appends}
use Rattle.graph_types.proofs.Prefixes.{appends_then, appends_nothing}
use Rattle.feed_csv.specs.{Commands.item_of, Records.{IsOver, Row}, Script.Script}
use Rattle.feed_csv.specs.declared.command.{Command.Command, FeedWord.FeedWord}
use Rattle.epoch_core.specs.{Runs.{AllReplies, Runs}, Worlds.{IsStart, MachineState, replies_of}, declared.events.Event.Event}
use Rattle.store_steps.specs.Steps.{all_done}
use Rattle.store_steps.proofs.SessionRuns.{runs_append}
use Rattle.script_commands.specs.{Machine.{ContinuesMachine, MovesMachine, ShowsMachine}, Servers.{IsServer, ShowsServer, pending_of, result_of}}
use Rattle.script_commands.specs.declared.server.{Response.Response, Server.Server}
use Rattle.script_commands.specs.States.{IsRecordResult, Progress, RecordResult, Reopens, Setup, after_item, after_record}
use Rattle.script_commands.specs.States.{beginning, printed}
use Rattle.script_lines.specs.Lines.{end_line}
use Rattle.script_commands.proofs.{ServerMoves.{start_many, replies_many}, SlotResults.{slots_many, never_reopens}}
use Rattle.script_commands.proofs.ServerMoves.{GoesOn, versions_shown, OpensAnew, moved}
use Rattle.script_server.specs.declared.script.{Run.Run, ServeFault.ServeFault, Summary.Summary}
use Rattle.script_server.specs.{Ends.{End, NoMemory, TellsEnd, is_write, last_text, records_done}, Executions.input}
use Rattle.script_server.specs.{Runs.{EndsTurn, IsFresh, IsReadyRun, IsStartup, IsTurn, ShowsRun, ShowsStart, fed}}
use Rattle.script_server.specs.Writes.{AppendsSome, output}
use Rattle.script_server.specs.Segments.{AreEventsOfRecord, AreSegments, Does, IsMachineText, IsSegment, IsShown, Segment}
use Rattle.script_server.specs.Segments.{question_to, stand}
use Rattle.script_server.proofs.{RunEnd.done_none, RunSoFar.{Reaches, reaches_more, reaches_nothing}, RunTexts.{Finishes, done_ended}}
use Rattle.script_server.proofs.SegmentRuns.{gone_on, opened, segment_more, segment_opened, segments_more}
use Rattle.script_server.proofs.SegmentSteps.{Answered, answers_of}
use Rattle.script_server.proofs.SegmentSteps.{unanswered}

-- How far they have come

abbrev pub AreSome : List Row → Progress → List ℕ → Progress → Type 0
AreSome rows here text there = (s : Segment) × (segments : List Segment) × AreSegments s segments rows here text there

-- these records were done: those of earlier segments, the one that opened the store, and those of the segment that goes on
pub record Joined (setup : Setup) (given : List Row) (lines : List ℕ) (here : Progress) (server : Server) : Type 0 where
  pub front : List Row
  pub before : List ℕ
  pub there : Progress
  pub segment : Segment
  pub rows : List Row
  pub text : List ℕ
  pub is : IsSegment segment rows there text here
  pub left : segment.left ≡ server
  pub shown : IsShown (stand here server segment.end.world)
  pub many : length segment.end.replies ≡ length here.state.held
  pub given_are : given ≡ front ++ rows
  pub lines_are : lines ≡ before ++ text
  -- whatever the segment comes to
  pub all : (s : Segment) (more : List Row) (rest : List ℕ) (end : Progress) → IsSegment s more there rest end
      → AreSome (front ++ more) (beginning setup) (before ++ rest) end

pub joined_nothing : (setup : Setup) (server : Server) → IsServer server → ShowsServer server (beginning setup).state
    → ShowsStart server → Joined setup [] [] (beginning setup) server
joined_nothing setup server kept shows starts =
    let shown : IsShown (stand (beginning setup) server starts.0.world) = record { server = kept; state = shows; machine = starts.2 } in
    record {
      front = [];
      before = [];
      there = beginning setup;
      segment = opened starts.0 server;
      rows = [];
      text = [];
      is = segment_opened starts.0 server (beginning setup) starts.1 shown;
      left = refl;
      shown = shown;
      many = start_many starts.0 server (beginning setup).state starts.1 shows starts.2;
      given_are = refl;
      lines_are = refl;
      all = λ s more rest end is. (s, [], is);
    }

-- one more record
module _ (setup : Setup) (given : List Row) (lines : List ℕ) (here : Progress) (old new : Server) (row : Row)
    (outcome : RecordResult) (joined : Joined setup given lines here old) (kept : IsServer new)
    (result : IsRecordResult (item_of row) here.state outcome) (after : ShowsServer new (after_item (item_of row) outcome here.state)) where
  abbrev One : Type 0
  One = Joined setup (given ++ row ∷ []) (lines ++ printed (here.records + 1) outcome) (after_record (item_of row) outcome here) new

  -- over the same store
  goes_on : (events : List Event) (end : MachineState) → (Reopens (item_of row) here.state → ⊥)
      → AreEventsOfRecord (item_of row) old outcome new joined.segment.end.world events → ShowsMachine new end.world
      → all_done events joined.segment.end.world ≡ Some end.world
      → AllReplies joined.segment.end.world events joined.segment.end.replies end.replies
      → length end.replies ≡ length joined.segment.end.replies
      → ((slot : ℕ) → Answered slot (question_to slot here.state (item_of row)) outcome (replies_of joined.segment.end slot) (replies_of end slot))
      → One
  goes_on events end stays are machine done replies many answered =
      let s = joined.segment in
      let line : List ℕ = printed (here.records + 1) outcome in
      let next : Progress = after_record (item_of row) outcome here in
      let shown : IsShown (stand next new end.world) = record { server = kept; state = after; machine = machine } in
      let runs : Runs s.start (s.events ++ events) end = runs_append s.start s.end end s.events events joined.is.runs done replies in
      let one : Does (item_of row) (stand here s.left s.end.world) outcome events (stand next new end.world) =
      subst (λ server. Does (item_of row) (stand here server s.end.world) outcome events (stand next new end.world)) (sym joined.left)
      (record { stays = stays; result = result; progress = refl; are = are; done = done; shown = shown }) in
      record {
        front = joined.front;
        before = joined.before;
        there = joined.there;
        segment = gone_on s events end new;
        rows = joined.rows ++ row ∷ [];
        text = joined.text ++ line;
        is = segment_more s joined.rows row joined.there here joined.text outcome events end new joined.is one runs answered;
        left = refl;
        shown = shown;
        many = many ∙ (joined.many ∙ sym (slots_many (item_of row) outcome here.state));
        given_are = ap (λ rows. rows ++ row ∷ []) joined.given_are ∙ append_assoc joined.front joined.rows (row ∷ []);
        lines_are = ap (λ text. text ++ line) joined.lines_are ∙ append_assoc joined.before joined.text line;
        all = joined.all;
      }

  -- a store is opened anew
  opens_anew : Reopens (item_of row) here.state → (start : MachineState) → IsStart start → ShowsMachine new start.world → One
  opens_anew reopens start is machine =
      let line : List ℕ = printed (here.records + 1) outcome in
      let next : Progress = after_record (item_of row) outcome here in
      let shown : IsShown (stand next new start.world) = record { server = kept; state = after; machine = machine } in
      record {
        front = given ++ row ∷ [];
        before = lines ++ line;
        there = next;
        segment = opened start new;
        rows = [];
        text = [];
        is = segment_opened start new next is shown;
        left = refl;
        shown = shown;
        many = start_many start new (after_item (item_of row) outcome here.state) is after machine;
        given_are = sym (append-nil (given ++ row ∷ []));
        lines_are = sym (append-nil (lines ++ line));
        all = λ s more rest end follows.
            let so_far : AreSome (joined.front ++ joined.rows) (beginning setup) (joined.before ++ joined.text) here =
            joined.all joined.segment joined.rows joined.text here joined.is in
            let rows_are : (joined.front ++ joined.rows) ++ row ∷ more ≡ (given ++ row ∷ []) ++ more =
            ap (λ rows. rows ++ row ∷ more) (sym joined.given_are) ∙ sym (append_assoc given (row ∷ []) more) in
            let text_is : (joined.before ++ joined.text) ++ (line ++ rest) ≡ (lines ++ line) ++ rest =
            ap (λ text. text ++ (line ++ rest)) (sym joined.lines_are) ∙ sym (append_assoc lines line rest) in
            let segments : List Segment = so_far.1 ++ s ∷ [] in (
              so_far.0,
              segments,
              subst (λ rows. AreSegments so_far.0 segments rows (beginning setup) ((lines ++ line) ++ rest) end) rows_are
                  (subst (λ text. AreSegments so_far.0 segments ((joined.front ++ joined.rows) ++ row ∷ more) (beginning setup) text end)
                  text_is
                  (segments_more so_far.0 so_far.1 s (joined.front ++ joined.rows) row more (beginning setup) here end
                  (joined.before ++ joined.text) rest outcome so_far.2 reopens result follows)),
            );
      }

-- one more record, by what it is
module _ (setup : Setup) (given : List Row) (lines : List ℕ) (here : Progress) (old new : Server) (row : Row)
    (response : Response) (told : List ℕ) (joined : Joined setup given lines here old) (kept : IsServer new)
    (result : IsRecordResult (item_of row) here.state (result_of response told))
    (after : ShowsServer new (after_item (item_of row) (result_of response told) here.state)) where
  abbrev outcome : RecordResult
  outcome = result_of response told

  abbrev Next : Type 0
  Next = Joined setup (given ++ row ∷ []) (lines ++ printed (here.records + 1) outcome) (after_record (item_of row) outcome here) new

  joined_goes : (command : Command) → item_of row ≡ Ok command
      → GoesOn command old outcome new joined.segment.end here.state → Next
  joined_goes command is goes =
      let s = joined.segment in
      let step : ContinuesMachine command old outcome new s.end = goes.1 in
      goes_on setup given lines here old new row outcome joined kept result after step.events step.there
      (subst (λ i. Reopens i here.state → ⊥) (sym is) goes.0)
      (subst (λ i. AreEventsOfRecord i old outcome new s.end.world step.events) (sym is) step.are) step.shown step.done step.replies
      (replies_many command old outcome s.end.world s.end.replies step.there.replies step.told)
      (λ slot. subst (λ i. Answered slot (question_to slot here.state i) outcome (replies_of s.end slot) (replies_of step.there slot)) (sym is)
      (answers_of command old here.state s.end.world outcome s.end.replies step.there.replies joined.shown.state
      (versions_shown old s.end.world here.state joined.shown.state joined.shown.machine) joined.many step.told slot))

  joined_opens : (command : Command) → item_of row ≡ Ok command → OpensAnew command old new joined.segment.end here.state → Next
  joined_opens command is opens =
      opens_anew setup given lines here old new row outcome joined kept result after
      (subst (λ i. Reopens i here.state) (sym is) opens.0) opens.1.0 opens.1.1 opens.1.2

  joined_refused : (word : FeedWord) → item_of row ≡ Err word → new ≡ old → Next
  joined_refused word is same =
      let s = joined.segment in
      goes_on setup given lines here old new row outcome joined kept result after [] s.end
      (subst (λ i. Reopens i here.state → ⊥) (sym is) (λ reopens. never_reopens word here.state reopens))
      (subst (λ i. AreEventsOfRecord i old outcome new s.end.world []) (sym is) refl)
      (subst (λ server. ShowsMachine server s.end.world) (sym same) joined.shown.machine) refl refl refl
      (λ slot. subst (λ i. Answered slot (question_to slot here.state i) outcome (replies_of s.end slot) (replies_of s.end slot)) (sym is)
      (unanswered slot outcome (replies_of s.end slot) (replies_of s.end slot) refl))

  joined_by : (item : Result Command FeedWord) → item_of row ≡ item
      → MatchResult item (λ command. MovesMachine command old response told new) (λ word. new ≡ old) → Next
  joined_by (Err word) is moves = joined_refused word is moves
  joined_by (Ok command) is moves =
      let s = joined.segment in
      elim (moved command old response told new s.end here.state joined.shown.state
      (subst (λ i. IsRecordResult i here.state outcome) is result)
      (moves s.start s.end s.events joined.is.start joined.is.runs joined.shown.machine)) as (λ _. Next) [
        | inl goes ↦ joined_goes command is goes
        | inr opens ↦ joined_opens command is opens
      ]

-- What is written

-- a run has come this far, and the machine with it
pub record Together (setup : Setup) (first left : Option (List Row)) (run : Run) (before now : Option (List ℕ)) : Type 0 where
  pub reached : Reaches setup first left run before now
  pub joined : Joined setup reached.given reached.lines reached.here run.server

pub together_nothing : (setup : Setup) (first : Option (List Row)) (run : Run) (before : Option (List ℕ)) → IsServer run.server
    → ShowsRun run (beginning setup) → ShowsStart run.server → Together setup first first run before before
together_nothing setup first run before kept shows starts = record {
  reached = reaches_nothing setup first run before shows;
  joined = joined_nothing setup run.server kept shows.server starts;
}

pub together_more : (setup : Setup) (first : Option (List Row)) (feed feed' : Script) (run run' : Run)
    (before now after : Option (List ℕ)) → Together setup first feed.left run before now
    → IsTurn (fed feed run) (Ok true) (fed feed' run') (output now after) → Together setup first feed'.left run' before after
together_more setup first feed feed' run run' before now after so_far turned =
    let reached = so_far.reached in
    let done = turned.2 in
    let step = done.step reached.here reached.shows in
    record {
      reached = reaches_more setup first feed feed' run run' before now after reached turned;
      joined = joined_by setup reached.given reached.lines reached.here run.server run'.server turned.0 done.response done.lines
          so_far.joined done.server step.0 step.2.server (item_of turned.0) refl done.machine;
    }

-- the text so far, and a part of what follows it
text_of : (setup : Setup) (rows : List Row) (left : Option (List Row)) (run : Run) (before now after : Option (List ℕ))
    (count : ℕ) (result : Result Summary ServeFault) (part : List ℕ) → Together setup (Some rows) left run before now
    → Appends now after part → OnOk result (IsOver left) → (is_write result ≡ false → count ≡ run.records)
    → AppendsSome before after (IsMachineText (input setup rows) count result)
text_of setup rows None run before now after count result part so_far written over same = absurd so_far.reached.leaves
text_of setup rows (Some left) run before now after count result part so_far written over same =
    let reached = so_far.reached in
    let joined = so_far.joined in
    let done = joined.all joined.segment joined.rows joined.text reached.here joined.is in (
      reached.lines ++ part,
      appends_then before now after reached.lines part reached.written written,
      (
        done.0 ∷ done.1,
        reached.given,
        left,
        reached.lines,
        part,
        reached.here,
        subst (λ given. AreSegments done.0 done.1 given (beginning setup) reached.lines reached.here) (sym joined.given_are)
            (subst (λ lines. AreSegments done.0 done.1 (joined.front ++ joined.rows) (beginning setup) lines reached.here)
            (sym joined.lines_are) done.2),
        reached.leaves,
        refl,
        over,
        λ whole. sym (same whole ∙ reached.shows.records),
      ),
    )

-- an end is told
some_part : (end : End) (records : ℕ) (fault : ServeFault) (before after : Option (List ℕ))
    → TellsEnd end records fault (output before after) → (part : List ℕ) × Appends before after part
some_part end records fault before after (inl whole) = (last_text end records, whole.1)
some_part end records fault before after (inr part) = (part.1.0, part.1.3)

-- a turn that ended the run
pub joined_stopped : (first : Option (List Row)) (feed feed' : Script) (start run : Run) (before now after : Option (List ℕ))
    (fault : ServeFault)
    → ((setup : Setup) → ShowsRun start (beginning setup) → ShowsStart start.server → Together setup first feed.left run before now)
    → EndsTurn (fed feed run) fault feed' (output now after)
    → IfSome first (λ rows. (setup : Setup) → ShowsRun start (beginning setup) → ShowsStart start.server
    → AppendsSome before after (IsMachineText (input setup rows) (records_done feed') (Err fault)))
joined_stopped None feed feed' start run before now after fault so_far turned = tt
joined_stopped (Some rows) feed feed' start run before now after fault so_far turned = λ setup shows starts.
    let all = so_far setup shows starts in
    let part = some_part turned.ends.end run.records fault now after turned.ends.told in
    text_of setup rows feed.left run before now after (records_done feed') (Err fault) part.0 all part.1 tt (λ whole. turned.done)

-- the end of the input
finished : (setup : Setup) (rows : List Row) (feed feed' : Script) (run run' : Run) (before now mid after : Option (List ℕ))
    (result : Result Summary ServeFault) → IsReadyRun feed run → Together setup (Some rows) feed.left run before now
    → IsTurn (fed feed run) (Ok false) (fed feed' run') (output now mid) → Finishes run' mid after result
    → AppendsSome before after (IsMachineText (input setup rows) (records_done feed') result)
finished setup rows feed feed' run run' before now mid after (Ok summary) ready so_far turned ends =
    text_of setup rows feed.left run before now after (records_done feed') (Ok summary) ([] ++ end_line (length (pending_of run'.server)))
    so_far (appends_then now mid after [] (end_line (length (pending_of run'.server))) turned.2 ends.whole) turned.0.over
    (λ whole. done_ended feed feed' run ready turned.0)
finished setup rows feed feed' run run' before now mid after (Err fault) ready so_far turned ends =
    text_of setup rows feed.left run before now after (records_done feed') (Err fault) ([] ++ ends.part.0) so_far
    (appends_then now mid after [] ends.part.0 turned.2 ends.part.3) tt
    (λ whole. done_ended feed feed' run ready turned.0)

pub joined_ended : (first : Option (List Row)) (feed feed' : Script) (start run run' : Run) (before now mid after : Option (List ℕ))
    (result : Result Summary ServeFault) → IsReadyRun feed run
    → ((setup : Setup) → ShowsRun start (beginning setup) → ShowsStart start.server → Together setup first feed.left run before now)
    → IsTurn (fed feed run) (Ok false) (fed feed' run') (output now mid) → Finishes run' mid after result
    → IfSome first (λ rows. (setup : Setup) → ShowsRun start (beginning setup) → ShowsStart start.server
    → AppendsSome before after (IsMachineText (input setup rows) (records_done feed') result))
joined_ended None feed feed' start run run' before now mid after result ready so_far turned ends = tt
joined_ended (Some rows) feed feed' start run run' before now mid after result ready so_far turned ends = λ setup shows starts.
    finished setup rows feed feed' run run' before now mid after result ready (so_far setup shows starts) turned ends

-- from a run to the records that are left
pub joined_from_run : (left : Option (List Row)) (start : Run) (setup : Setup) (count : ℕ) (before mid after : Option (List ℕ))
    (result : Result Summary ServeFault) → ShowsRun start (beginning setup) → ShowsStart start.server → mid ≡ before
    → IfSome left (λ rows. (setup : Setup) → ShowsRun start (beginning setup) → ShowsStart start.server
    → AppendsSome mid after (IsMachineText (input setup rows) count result))
    → IfSome left (λ rows. AppendsSome before after (IsMachineText (input setup rows) count result))
joined_from_run None start setup count before mid after result shows starts same all = tt
joined_from_run (Some rows) start setup count before mid after result shows starts same all =
    subst (λ from. AppendsSome from after (IsMachineText (input setup rows) count result)) same (all setup shows starts)

-- a run before its first record has no segment
none_joined : (setup : Setup) (rows : List Row) (before after : Option (List ℕ)) (count : ℕ) (fault : ServeFault) (text : List ℕ)
    → Appends before after text → count ≡ 0 → AppendsSome before after (IsMachineText (input setup rows) count (Err fault))
none_joined setup rows before after count fault text written same =
    (text, written, ([], [], rows, [], text, beginning setup, (refl, refl, refl), refl, refl, tt, λ whole. sym same))

pub joined_never : (left : Option (List Row)) (setup : Setup) (feed : Script) (before after : Option (List ℕ)) (fault : ServeFault)
    → IsFresh feed → IsStartup setup (Err fault) (output before after)
    → IfSome left (λ rows. AppendsSome before after (IsMachineText (input setup rows) (records_done feed) (Err fault)))
joined_never None setup feed before after fault fresh ends = tt
joined_never (Some rows) setup feed before after fault fresh (inl none) =
    none_joined setup rows before after (records_done feed) fault [] (subst (λ now. Appends before now []) (sym none.1) (appends_nothing before))
    (done_none feed fresh)
joined_never (Some rows) setup feed before after fault fresh (inr told) =
    let part = some_part NoMemory 0 fault before after told in
    none_joined setup rows before after (records_done feed) fault part.0 part.1 (done_none feed fresh)
