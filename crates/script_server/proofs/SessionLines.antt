-- What a slot is told are the answers to the requests of its holdings.
use Rattle.std.proofs.Common.{◌≡◌, ℕ, ◌==◌, Bool, true, false, List, [], ◌∷◌, ◌++◌, length, map}
use Rattle.std.proofs.Common.{refl, sym, ap, subst, ◌∙◌, arith}
use Rattle.std.proofs.lemmas.{Bool.{eqb-true, eqb-false}, List.take_all}
use Rattle.std.proofs.lemmas.List.Elements.{same_from_all_zip}
use Rattle.std.specs.{Prelude.{None, Some, Option, Result, Ok, Err, slice_get, slice_set, if◌then◌else◌}, List.AllZip}
use Rattle.feed_csv.specs.{Commands.item_of, Records.Row, declared.command.Command.Command, declared.command.FeedWord.FeedWord}
use Rattle.feed_csv.specs.declared.command.Command.TheVariants.{Op, Commit, OpenSlot, CloseSlot, Query, Collect, Stat, Rebase}
use Rattle.graph_types.proofs.{OneAnswer.one_answer, LimitsKept.same_answer}
use Rattle.graph_types.specs.{Graph.{Graph, unlimited}, Limits.standard_limits, Step.left_by}
use Rattle.graph_types.specs.declared.requests.Request.{Request}
use Rattle.graph_types.proofs.ListPlaces.{set_same}
use Rattle.epoch_core.specs.Holdings.{Observation, Entered, Replied, Released, holdings_of, questions}
use Rattle.epoch_core.specs.Machine.{Question}
use Rattle.epoch_core.proofs.Owed.{owed, ends}
use Rattle.script_lines.specs.{declared.words.Word.Word}
use Rattle.script_commands.specs.States.{Held, IsRecordResult, IsReplied, Progress, RecordResult, ServerState, Setup, after_commit}
use Rattle.script_commands.specs.States.{after_item, after_record, answer_result, beginning, last_held, last_version}
use Rattle.script_commands.specs.States.{rebase_result, rebased, version, version_in}
use Rattle.script_commands.proofs.SlotResults.{one_result, found_held, none_replicated, was_free, was_held, Stands, stands_else}
use Rattle.script_commands.proofs.SlotResults.{stands_committed}
use Rattle.script_server.specs.{Executions.Executes, Sessions.{AgreeingSlotsAreToldAlike, AreToldAlike, IsToldAt, LinesAreAnswers}}
use Rattle.script_server.specs.Sessions.{Tells, TellsOfEachSlot, asked_in, asked_of, observed_in}

pub told_unlimited : (slot : ℕ) (request : Request) (g : Graph) (outcome : RecordResult)
    → IsToldAt slot (record { request = request; graph = g }) outcome
    → IsToldAt slot (record { request = request; graph = unlimited g }) outcome
told_unlimited slot request g outcome told =
    (told.0, same_answer request g standard_limits told.0 told.1, told.2 ∙ one_result slot request g told.0)

-- a record that befalls the slot so: where it stands afterwards, and that the record answers what it asks
pub record Turn (slot : ℕ) (after : ServerState) (now : Option Graph) (seen : List Observation) (told : List RecordResult) : Type 0 where
  pub next : Option Graph
  pub stands : Stands slot after next
  pub answers : (more : List Observation) (rest : List RecordResult) → AllZip (IsToldAt slot) (owed next more) rest
      → AllZip (IsToldAt slot) (owed now (seen ++ more)) (told ++ rest)

-- a record that doesn't concern the slot
passes : (slot : ℕ) (after : ServerState) (now : Option Graph) → Stands slot after now → Turn slot after now [] []
passes slot after now stands = record { next = now; stands = stands; answers = λ more rest z. z }

opens : (slot other : ℕ) (s : ServerState) (now : Option Graph) (t : Bool) → other == slot ≡ t → Stands slot s now
    → slice_get s.held other ≡ Some None
    → Turn slot (record s { held = slice_set s.held other (Some (last_held s)) }) now
    (if t then Entered (unlimited (last_version s)) ∷ [] else []) []
opens slot other s None true is stands free = record {
  next = Some (unlimited (last_version s));
  stands = (
    last_held s,
    ap version_in (ap (slice_get (slice_set s.held other (Some (last_held s)))) (sym (eqb-true other slot is))
        ∙ set_same s.held other None (Some (last_held s)) free),
    omega arith,
    ap (λ batches. unlimited (left_by batches s.opening)) (take_all (length s.batches) s.batches (omega arith)),
  );
  answers = λ more rest z. z;
}
opens slot other s (Some g) true is stands free =
    absurd (let held : version_in (Some None) ≡ Ok stands.0 =
    ap version_in (sym free ∙ ap (slice_get s.held) (eqb-true other slot is)) ∙ stands.1 in cc)
opens slot other s now false is stands free =
    passes slot _ now (stands_else slot other s (Some (last_held s)) now (λ e. eqb-false other slot is (sym e)) stands)

closes : (slot other : ℕ) (s : ServerState) (now : Option Graph) (t : Bool) → other == slot ≡ t → Stands slot s now
    → (held : Held) → version_in (slice_get s.held other) ≡ Ok held
    → Turn slot (record s { held = slice_set s.held other None }) now (if t then Released ∷ [] else []) []
closes slot other s now true is stands held holds = record {
  next = None;
  stands = λ there at.
      let same : other ≡ slot = eqb-true other slot is in
      let none : slice_get (slice_set s.held other None) slot ≡ Some None =
      ap (slice_get (slice_set s.held other None)) (sym same) ∙ set_same s.held other (Some held) None (found_held (slice_get s.held other) held holds) in
      let no : version_in (Some None) ≡ Ok there = ap version_in (sym none) ∙ at in cc;
  answers = λ more rest z. subst (λ qs. AllZip (IsToldAt slot) qs rest) (sym (ends now more)) z;
}
closes slot other s now false is stands held holds =
    passes slot _ now (stands_else slot other s None now (λ e. eqb-false other slot is (sym e)) stands)

rebases : (slot : ℕ) (s : ServerState) (now : Option Graph) (r : Result Held Word) (lines : List ℕ) → Ok lines ≡ rebase_result s r
    → Turn slot (rebased s r) now (Released ∷ []) []
rebases slot s now (Ok held) lines is = record {
  next = None;
  stands = none_replicated (length s.held) slot;
  answers = λ more rest z. subst (λ qs. AllZip (IsToldAt slot) qs rest) (sym (ends now more)) z;
}
rebases slot s now (Err word) lines is = absurd (cc)

-- a request
asks : (slot : ℕ) (request : Request) (s : ServerState) (now : Option Graph) (outcome : RecordResult) (r : Result Held Word)
    → version_in (slice_get s.held slot) ≡ r → Stands slot s now → IsReplied slot request s r outcome
    → Turn slot s now (map Replied (asked_in r request)) (map (λ request. outcome) (asked_in r request))
asks slot request s now outcome (Err word) at stands is = passes slot s now stands
asks slot request s None outcome (Ok held) at stands is = absurd (stands held at)
asks slot request s (Some g) outcome (Ok held) at stands is =
    let both : Ok held ≡ Ok stands.0 = sym at ∙ stands.1 in
    let same : held ≡ stands.0 = cc in
    let graph : unlimited (version held.number s) ≡ g = ap (λ h. unlimited (version h.number s)) same ∙ stands.3 in
    record {
      next = Some g;
      stands = stands;
      answers = λ more rest z. (
        subst (λ h. IsToldAt slot (record { request = request; graph = h }) outcome) graph
            (told_unlimited slot request (version held.number s) outcome (is.0, is.1, is.2)),
        z,
      );
    }

queries : (slot other : ℕ) (request : Request) (s : ServerState) (now : Option Graph) (outcome : RecordResult) (t : Bool)
    → other == slot ≡ t → Stands slot s now → IsReplied other request s (version_in (slice_get s.held other)) outcome
    → let asked : List Request = if t then asked_in (version_in (slice_get s.held slot)) request else [] in
    Turn slot s now (map Replied asked) (map (λ request. outcome) asked)
queries slot other request s now outcome true same stands is =
    asks slot request s now outcome (version_in (slice_get s.held slot)) refl stands
    (subst (λ k. IsReplied k request s (version_in (slice_get s.held k)) outcome) (eqb-true other slot same) is)
queries slot other request s now outcome false same stands is = passes slot s now stands

pub turn : (slot : ℕ) (item : Result Command FeedWord) (s : ServerState) (outcome : RecordResult) (now : Option Graph)
    → Stands slot s now → IsRecordResult item s outcome
    → Turn slot (after_item item outcome s) now (observed_in slot s item outcome) (map (λ request. outcome) (asked_of slot s item))
turn slot (Err word) s (Ok lines) now stands is = passes slot s now stands
turn slot (Err word) s (Err other) now stands is = passes slot s now stands
turn slot (Ok (Op op)) s (Ok lines) now stands is = passes slot _ now stands
turn slot (Ok (Op op)) s (Err word) now stands is = passes slot s now stands
turn slot (Ok Commit) s (Ok lines) now stands is = passes slot (after_commit s) now (stands_committed slot s now stands)
turn slot (Ok Commit) s (Err word) now stands is = passes slot _ now stands
turn slot (Ok (OpenSlot other)) s (Ok lines) now stands is =
    opens slot other s now (other == slot) refl stands (was_free (slice_get s.held other) lines _ is)
turn slot (Ok (OpenSlot other)) s (Err word) now stands is = passes slot s now stands
turn slot (Ok (CloseSlot other)) s (Ok lines) now stands is =
    let held = was_held other (version_in (slice_get s.held other)) lines is in
    closes slot other s now (other == slot) refl stands held.0 held.1
turn slot (Ok (CloseSlot other)) s (Err word) now stands is = passes slot s now stands
turn slot (Ok (Query other request)) s (Ok lines) now stands is = queries slot other request s now (Ok lines) (other == slot) refl stands is
turn slot (Ok (Query other request)) s (Err word) now stands is = queries slot other request s now (Err word) (other == slot) refl stands is
turn slot (Ok Collect) s (Ok lines) now stands is = passes slot _ now stands
turn slot (Ok Collect) s (Err word) now stands is = passes slot s now stands
turn slot (Ok Stat) s (Ok lines) now stands is = passes slot s now stands
turn slot (Ok Stat) s (Err word) now stands is = passes slot s now stands
turn slot (Ok (Rebase other)) s (Ok lines) now stands is = rebases slot s now (version_in (slice_get s.held other)) lines is
turn slot (Ok (Rebase other)) s (Err word) now stands is = passes slot s now stands

none_owed : (slot : ℕ) (now : Option Graph) → AllZip (IsToldAt slot) (owed now []) []
none_owed slot None = tt
none_owed slot (Some g) = tt

-- all records
tells_all : (slot : ℕ) (rows : List Row) (here : Progress) (text : List ℕ) (seen : List Observation) (told : List RecordResult)
    (now : Option Graph) → Stands slot here.state now → Tells slot rows here text seen told
    → AllZip (IsToldAt slot) (owed now seen) told
tells_all slot [] here text seen told now stands tells =
    subst (λ es. AllZip (IsToldAt slot) (owed now es) told) (sym tells.1)
    (subst (λ rs. AllZip (IsToldAt slot) (owed now []) rs) (sym tells.2) (none_owed slot now))
tells_all slot (row ∷ rows) here text seen told now stands tells =
    let t : Turn slot (after_item (item_of row) tells.0 here.state) now (observed_in slot here.state (item_of row) tells.0)
    (map (λ request. tells.0) (asked_of slot here.state (item_of row))) =
    turn slot (item_of row) here.state tells.0 now stands tells.4 in
    let rest : AllZip (IsToldAt slot) (owed t.next tells.2) tells.3 =
    tells_all slot rows (after_record (item_of row) tells.0 here) tells.1 tells.2 tells.3 t.next t.stands tells.8 in
    subst (λ es. AllZip (IsToldAt slot) (owed now es) told) (sym tells.6)
    (subst (λ rs. AllZip (IsToldAt slot) (owed now (observed_in slot here.state (item_of row) tells.0 ++ tells.2)) rs) (sym tells.7)
    (t.answers tells.2 tells.3 rest))

pub lines_are_answers : LinesAreAnswers
lines_are_answers slot setup rows text seen told tells =
    tells_all slot rows (beginning setup) text seen told None (none_replicated setup.seats slot) tells

-- two slots that are asked the same
pub both_told : (slot other : ℕ) (qs : List Question) (told others : List RecordResult) → AllZip (IsToldAt slot) qs told
    → AllZip (IsToldAt other) qs others → AllZip (AreToldAlike slot other) told others
both_told slot other [] [] [] first second = tt
both_told slot other [] [] (y ∷ ys) first second = absurd second
both_told slot other [] (x ∷ xs) ys first second = absurd first
both_told slot other (q ∷ qs) [] ys first second = absurd first
both_told slot other (q ∷ qs) (x ∷ xs) [] first second = absurd second
both_told slot other (q ∷ qs) (x ∷ xs) (y ∷ ys) first second =
    let same : second.0.0 ≡ first.0.0 =
    one_answer q.request q.graph second.0.0 first.0.0 second.0.1 first.0.1 in (
      (
        q,
        first.0.0,
        first.0.1,
        first.0.2,
        second.0.2 ∙ ap (answer_result other q.request q.graph) same,
      ),
      both_told slot other qs xs ys first.1 second.1,
    )

told_alike : (slot other : ℕ) (setup other_setup : Setup) (rows other_rows : List Row) (text other_text : List ℕ)
    (seen other_seen : List Observation) (told other_told : List RecordResult) → Tells slot rows (beginning setup) text seen told
    → Tells other other_rows (beginning other_setup) other_text other_seen other_told
    → holdings_of seen ≡ holdings_of other_seen → AllZip (AreToldAlike slot other) told other_told
told_alike slot other setup other_setup rows other_rows text other_text seen other_seen told other_told first second agree =
    both_told slot other (questions (holdings_of seen)) told other_told
    (lines_are_answers slot setup rows text seen told first)
    (subst (λ held. AllZip (IsToldAt other) (questions held) other_told) (sym agree)
    (lines_are_answers other other_setup other_rows other_text other_seen other_told second))

pub agreeing_slots : AgreeingSlotsAreToldAlike
agreeing_slots = record {
  two_slots = told_alike;
  one_slot = λ slot setup other_setup rows other_rows text other_text seen other_seen told other_told first second agree.
      sym (same_from_all_zip (AreToldAlike slot slot) told other_told
      (told_alike slot slot setup other_setup rows other_rows text other_text seen other_seen told other_told first second agree)
      (λ a b alike. alike.4 ∙ sym alike.3));
}

-- each text tells of each slot
tells_of : (slot : ℕ) (rows : List Row) (here : Progress) (text : List ℕ) (there : Progress) → Executes rows here text there
    → (seen : List Observation) × (told : List RecordResult) × Tells slot rows here text seen told
tells_of slot [] here text there is = ([], [], (is.0, refl, refl))
tells_of slot (row ∷ rows) here text there is =
    let rest = tells_of slot rows (after_record (item_of row) is.0 here) is.1 there is.4 in (
      observed_in slot here.state (item_of row) is.0 ++ rest.0,
      map (λ request. is.0) (asked_of slot here.state (item_of row)) ++ rest.1,
      (is.0, is.1, rest.0, rest.1, is.2, is.3, refl, refl, rest.2),
    )

pub tells_of_each_slot : TellsOfEachSlot
tells_of_each_slot slot setup rows text there is = tells_of slot rows (beginning setup) text there is
