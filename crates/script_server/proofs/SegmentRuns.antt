-- Segments, one record after another.
use Rattle.std.proofs.Common.{◌≡◌, ℕ, ◌+◌, List, [], ◌∷◌, ◌++◌, length, append_assoc, append-nil}
use Rattle.std.proofs.Common.{get_or, refl, sym, ap, subst, ◌∙◌}
use Rattle.std.specs.List.{AllZip}
use Rattle.feed_csv.specs.{Commands.item_of, Records.Row}
use Rattle.epoch_core.specs.{Runs.Runs, declared.events.Event.Event}
use Rattle.epoch_core.specs.Worlds.{Answer, IsStart, MachineState, replies_of}
use Rattle.epoch_core.proofs.Account.{no_replies}
use Rattle.script_commands.specs.declared.server.Server.{Server}
use Rattle.script_commands.specs.States.{IsRecordResult, Progress, RecordResult, Reopens, after_record, answer_result, printed}
use Rattle.script_server.specs.Segments.{AreSegments, Does, DoesAll, IsSegment, IsShown, Prints, Segment, Stand, question_to, stand}
use Rattle.script_server.proofs.SegmentSteps.{Answered}

-- The answers that are printed

prints_more : (slot : ℕ) (rows : List Row) (row : Row) (here there : Progress) (text : List ℕ) (answers first : List Answer)
    (outcome : RecordResult) → Prints slot rows here text answers there → IsRecordResult (item_of row) there.state outcome
    → AllZip (λ q answer. outcome ≡ answer_result slot q.request q.graph answer) (question_to slot there.state (item_of row)) first
    → Prints slot (rows ++ row ∷ []) here (text ++ printed (there.records + 1) outcome) (answers ++ first)
    (after_record (item_of row) outcome there)
prints_more slot [] row here there text answers first outcome is result prints =
    rw (is.0, is.1, is.2) (
      outcome,
      [],
      first,
      [],
      rw is.2 at result,
      sym (append-nil (printed (here.records + 1) outcome)),
      sym (append-nil first),
      rw is.2 at prints,
      (refl, refl, refl),
    )
prints_more slot (x ∷ xs) row here there text answers first outcome is result prints = (
  is.0,
  is.1 ++ printed (there.records + 1) outcome,
  is.2,
  is.3 ++ first,
  is.4,
  ap (λ text. text ++ printed (there.records + 1) outcome) is.5
      ∙ append_assoc (printed (here.records + 1) is.0) is.1 (printed (there.records + 1) outcome),
  ap (λ answers. answers ++ first) is.6 ∙ append_assoc is.2 is.3 first,
  is.7,
  prints_more slot xs row (after_record (item_of x) is.0 here) there is.1 is.3 first outcome is.8 result prints,
)

-- The events of the records

does_more : (rows : List Row) (row : Row) (here there next : Stand) (text : List ℕ) (events done : List Event)
    (outcome : RecordResult) → DoesAll rows here text events there → Does (item_of row) there outcome done next
    → DoesAll (rows ++ row ∷ []) here (text ++ printed (there.progress.records + 1) outcome) (events ++ done) next
does_more [] row here there next text events done outcome is one =
    rw (is.0, is.1, is.2) (
      outcome,
      done,
      next,
      [],
      [],
      rw is.2 at one,
      sym (append-nil (printed (here.progress.records + 1) outcome)),
      sym (append-nil done),
      (refl, refl, refl),
    )
does_more (x ∷ xs) row here there next text events done outcome is one = (
  is.0,
  is.1,
  is.2,
  is.3 ++ printed (there.progress.records + 1) outcome,
  is.4 ++ done,
  is.5,
  ap (λ text. text ++ printed (there.progress.records + 1) outcome) is.6
      ∙ append_assoc (printed (here.progress.records + 1) is.0) is.3 (printed (there.progress.records + 1) outcome),
  ap (λ events. events ++ done) is.7 ∙ append_assoc is.1 is.4 done,
  does_more xs row is.2 there next is.3 is.4 done outcome is.8 one,
)

-- One segment

-- a store that was just opened
abbrev pub opened : MachineState → Server → Segment
opened start server = record { start = start; opened = server; events = []; end = start; left = server }

pub segment_opened : (start : MachineState) (server : Server) (here : Progress) → IsStart start
    → IsShown (stand here server start.world) → IsSegment (opened start server) [] here [] here
segment_opened start server here is shown = record {
  start = is;
  opening = shown.machine.desk.opening ∙ shown.state.desk.opening;
  shown = shown;
  does = (refl, refl, refl);
  runs = record { world = refl; replies = refl };
  replies = λ slot. (
    refl,
    ap (λ xs. get_or xs slot []) is.replies ∙ no_replies (length start.world.sessions) slot,
    refl,
  );
}

-- the store is kept, and the machine goes on by these events
abbrev pub gone_on : Segment → List Event → MachineState → Server → Segment
gone_on s events end server = record s { events = s.events ++ events; end = end; left = server }

pub segment_more : (s : Segment) (rows : List Row) (row : Row) (here there : Progress) (text : List ℕ) (outcome : RecordResult)
    (events : List Event) (end : MachineState) (server : Server) → IsSegment s rows here text there
    → Does (item_of row) (stand there s.left s.end.world) outcome events
    (stand (after_record (item_of row) outcome there) server end.world)
    → Runs s.start (s.events ++ events) end
    → ((slot : ℕ) → Answered slot (question_to slot there.state (item_of row)) outcome (replies_of s.end slot) (replies_of end slot))
    → IsSegment (gone_on s events end server) (rows ++ row ∷ []) here (text ++ printed (there.records + 1) outcome)
    (after_record (item_of row) outcome there)
segment_more s rows row here there text outcome events end server is one runs answered = record {
  start = is.start;
  opening = is.opening;
  shown = is.shown;
  does = does_more rows row (stand here s.opened s.start.world) (stand there s.left s.end.world)
      (stand (after_record (item_of row) outcome there) server end.world) text s.events events outcome is.does one;
  runs = runs;
  replies = λ slot.
      let a = answered slot in
      subst (λ answers. Prints slot (rows ++ row ∷ []) here (text ++ printed (there.records + 1) outcome) answers
      (after_record (item_of row) outcome there)) (sym a.more)
      (prints_more slot rows row here there text (replies_of s.end slot) a.first outcome (is.replies slot) one.result a.prints);
}

-- All segments

-- a record opens a store anew, and others follow over it
pub segments_more : (s : Segment) (segments : List Segment) (next : Segment) (rows : List Row) (row : Row) (back : List Row)
    (here between there : Progress) (text rest : List ℕ) (outcome : RecordResult) → AreSegments s segments rows here text between
    → Reopens (item_of row) between.state → IsRecordResult (item_of row) between.state outcome
    → IsSegment next back (after_record (item_of row) outcome between) rest there
    → AreSegments s (segments ++ next ∷ []) (rows ++ row ∷ back) here (text ++ (printed (between.records + 1) outcome ++ rest)) there
segments_more s [] next rows row back here between there text rest outcome is reopens result follows =
    (rows, row, back, text, rest, between, outcome, is, reopens, result, refl, refl, follows)
segments_more s (x ∷ xs) next rows row back here between there text rest outcome is reopens result follows =
    let line : List ℕ = printed (is.5.records + 1) is.6 in
    let others : List ℕ = printed (between.records + 1) outcome ++ rest in (
      is.0,
      is.1,
      is.2 ++ row ∷ back,
      is.3,
      is.4 ++ others,
      is.5,
      is.6,
      is.7,
      is.8,
      is.9,
      ap (λ rows. rows ++ row ∷ back) is.10 ∙ append_assoc is.0 (is.1 ∷ is.2) (row ∷ back),
      ap (λ text. text ++ others) is.11
          ∙ (append_assoc is.3 (line ++ is.4) others ∙ ap (λ text. is.3 ++ text) (append_assoc line is.4 others)),
      segments_more x xs next is.2 row back (after_record (item_of is.1) is.6 is.5) between there is.4 rest outcome is.12 reopens
          result follows,
    )
