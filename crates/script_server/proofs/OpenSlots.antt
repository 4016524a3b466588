-- What a slot is told while it stays open, whatever records of others follow.
use Rattle.std.proofs.Common.{◌≡◌, ℕ, ◌==◌, Bool, true, false, List, [], ◌∷◌, ◌++◌, map, refl, sym, ap, subst, ◌∙◌}
use Rattle.std.proofs.lemmas.{Bool.{eqb-true, eqb-false}, List.map-append, List.Elements.same_from_all_zip}
use Rattle.std.specs.{Prelude.{None, Some, Result, Ok, Err, slice_get, if◌then◌else◌}, List.{AllZip, list_any}}
use Rattle.feed_csv.specs.{Commands.item_of, Records.Row, declared.command.Command.Command, declared.command.FeedWord.FeedWord}
use Rattle.feed_csv.specs.declared.command.Command.TheVariants.{Op, Commit, OpenSlot, CloseSlot, Query, Collect, Stat, Rebase}
use Rattle.graph_types.specs.{Graph.{Graph, unlimited}, declared.requests.Request.Request}
use Rattle.graph_types.proofs.Cases.{neither_true}
use Rattle.epoch_core.specs.{Holdings.Observation, Machine.Question}
use Rattle.epoch_core.proofs.Owed.{questions_over}
use Rattle.script_lines.specs.declared.words.Word.{Word}
use Rattle.script_commands.specs.States.{Held, IsRecordResult, IsReplied, Progress, RecordResult, ServerState, after_item}
use Rattle.script_commands.specs.States.{after_record, beginning, last_held, version, version_in}
use Rattle.script_commands.proofs.SlotResults.{was_free, none_replicated, Stands, stands_committed, stands_else, Standing}
use Rattle.script_commands.proofs.SlotResults.{one_graph}
use Rattle.script_server.specs.{Executions.Executes, Sessions.{AreToldAlike, IsToldAt, OthersChangeNothing, StaysOpen, Tells}}
use Rattle.script_server.specs.Sessions.{asked_in, asked_of, closes_slot, observed_in, request_to, requests_to}
use Rattle.script_server.proofs.SessionLines.{Turn, both_told, turn}
use Rattle.script_server.proofs.SessionLines.{told_unlimited}

stays : (slot : ℕ) (item : Result Command FeedWord) (s : ServerState) (outcome : RecordResult) (g : Graph)
    → closes_slot slot item ≡ false → Stands slot s (Some g) → IsRecordResult item s outcome
    → Stands slot (after_item item outcome s) (Some g)
stays slot (Err word) s (Ok lines) g keeps stands is = stands
stays slot (Err word) s (Err other) g keeps stands is = stands
stays slot (Ok (Op op)) s (Ok lines) g keeps stands is = stands
stays slot (Ok (Op op)) s (Err word) g keeps stands is = stands
stays slot (Ok Commit) s (Ok lines) g keeps stands is = stands_committed slot s (Some g) stands
stays slot (Ok Commit) s (Err word) g keeps stands is = stands
stays slot (Ok (OpenSlot other)) s (Ok lines) g keeps stands is =
    let free : slice_get s.held other ≡ Some None = was_free (slice_get s.held other) lines _ is in
    stands_else slot other s (Some (last_held s)) (Some g)
    (λ e. let held : version_in (Some None) ≡ Ok stands.0 =
    ap version_in (sym free ∙ ap (slice_get s.held) (sym e)) ∙ stands.1 in cc) stands
stays slot (Ok (OpenSlot other)) s (Err word) g keeps stands is = stands
stays slot (Ok (CloseSlot other)) s (Ok lines) g keeps stands is =
    stands_else slot other s None (Some g) (λ e. eqb-false other slot keeps (sym e)) stands
stays slot (Ok (CloseSlot other)) s (Err word) g keeps stands is = stands
stays slot (Ok (Query other request)) s (Ok lines) g keeps stands is = stands
stays slot (Ok (Query other request)) s (Err word) g keeps stands is = stands
stays slot (Ok Collect) s (Ok lines) g keeps stands is = stands
stays slot (Ok Collect) s (Err word) g keeps stands is = stands
stays slot (Ok Stat) s (Ok lines) g keeps stands is = stands
stays slot (Ok Stat) s (Err word) g keeps stands is = stands
stays slot (Ok (Rebase other)) s outcome g keeps stands is = absurd (cc)

-- what one record tells it
told_held : (slot : ℕ) (request : Request) (s : ServerState) (outcome : RecordResult) (g : Graph) (r : Result Held Word)
    → version_in (slice_get s.held slot) ≡ r → Stands slot s (Some g) → IsReplied slot request s r outcome
    → AllZip (IsToldAt slot) (questions_over g (request ∷ [])) (map (λ request. outcome) (asked_in r request))
told_held slot request s outcome g (Err word) at stands is = absurd (let no : Err word ≡ Ok stands.0 = sym at ∙ stands.1 in cc)
told_held slot request s outcome g (Ok held) at stands is =
    let both : Ok held ≡ Ok stands.0 = sym at ∙ stands.1 in
    let same : held ≡ stands.0 = cc in
    let graph : unlimited (version held.number s) ≡ g = ap (λ h. unlimited (version h.number s)) same ∙ stands.3 in (
      subst (λ h. IsToldAt slot (record { request = request; graph = h }) outcome) graph
          (told_unlimited slot request (version held.number s) outcome (is.0, is.1, is.2)),
      tt,
    )

told_query : (slot other : ℕ) (request : Request) (s : ServerState) (outcome : RecordResult) (g : Graph) (t : Bool)
    → other == slot ≡ t → Stands slot s (Some g) → IsReplied other request s (version_in (slice_get s.held other)) outcome
    → AllZip (IsToldAt slot) (questions_over g (if t then request ∷ [] else []))
    (map (λ request. outcome) (if t then asked_in (version_in (slice_get s.held slot)) request else []))
told_query slot other request s outcome g true same stands is =
    told_held slot request s outcome g (version_in (slice_get s.held slot)) refl stands
    (subst (λ k. IsReplied k request s (version_in (slice_get s.held k)) outcome) (eqb-true other slot same) is)
told_query slot other request s outcome g false same stands is = tt

told_one : (slot : ℕ) (item : Result Command FeedWord) (s : ServerState) (outcome : RecordResult) (g : Graph)
    → Stands slot s (Some g) → IsRecordResult item s outcome
    → AllZip (IsToldAt slot) (questions_over g (request_to slot item)) (map (λ request. outcome) (asked_of slot s item))
told_one slot (Err word) s outcome g stands is = tt
told_one slot (Ok (Op op)) s outcome g stands is = tt
told_one slot (Ok Commit) s outcome g stands is = tt
told_one slot (Ok (OpenSlot other)) s outcome g stands is = tt
told_one slot (Ok (CloseSlot other)) s outcome g stands is = tt
told_one slot (Ok (Query other request)) s outcome g stands is = told_query slot other request s outcome g (other == slot) refl stands is
told_one slot (Ok Collect) s outcome g stands is = tt
told_one slot (Ok Stat) s outcome g stands is = tt
told_one slot (Ok (Rebase other)) s outcome g stands is = tt

zip_more : (slot : ℕ) (qs ps : List Question) (xs ys : List RecordResult) → AllZip (IsToldAt slot) qs xs
    → AllZip (IsToldAt slot) ps ys → AllZip (IsToldAt slot) (qs ++ ps) (xs ++ ys)
zip_more slot [] ps [] ys first second = second
zip_more slot [] ps (x ∷ xs) ys first second = absurd first
zip_more slot (q ∷ qs) ps [] ys first second = absurd first
zip_more slot (q ∷ qs) ps (x ∷ xs) ys first second = (first.0, zip_more slot qs ps xs ys first.1 second)

told_open : (slot : ℕ) (rows : List Row) (here : Progress) (text : List ℕ) (seen : List Observation) (told : List RecordResult)
    (g : Graph) → Stands slot here.state (Some g) → StaysOpen slot rows → Tells slot rows here text seen told
    → AllZip (IsToldAt slot) (questions_over g (requests_to slot rows)) told
told_open slot [] here text seen told g stands keeps tells = subst (λ rs. AllZip (IsToldAt slot) [] rs) (sym tells.2) tt
told_open slot (row ∷ rows) here text seen told g stands keeps tells =
    let item : Result Command FeedWord = item_of row in
    let still = neither_true (closes_slot slot item) (list_any (λ row. closes_slot slot (item_of row)) rows) keeps in
    let rest : AllZip (IsToldAt slot) (questions_over g (requests_to slot rows)) tells.3 =
    told_open slot rows (after_record item tells.0 here) tells.1 tells.2 tells.3 g
    (stays slot item here.state tells.0 g still.0 stands tells.4) still.1 tells.8 in
    subst (λ rs. AllZip (IsToldAt slot) (questions_over g (requests_to slot (row ∷ rows))) rs) (sym tells.7)
    (subst (λ qs. AllZip (IsToldAt slot) qs (map (λ request. tells.0) (asked_of slot here.state item) ++ tells.3))
    (sym (map-append (λ request. let q : Question = record { request = request; graph = g } in q) (request_to slot item) (requests_to slot rows)))
    (zip_more slot (questions_over g (request_to slot item)) (questions_over g (requests_to slot rows))
    (map (λ request. tells.0) (asked_of slot here.state item)) tells.3
    (told_one slot item here.state tells.0 g stands tells.4) rest))

stands_there : (slot : ℕ) (rows : List Row) (here : Progress) (text : List ℕ) (there : Progress) → Standing slot here.state
    → Executes rows here text there → Standing slot there.state
stands_there slot [] here text there standing is = subst (λ (p : Progress). Standing slot p.state) (sym is.1) standing
stands_there slot (row ∷ rows) here text there standing is =
    let t : Turn slot (after_item (item_of row) is.0 here.state) standing.now (observed_in slot here.state (item_of row) is.0)
    (map (λ request. is.0) (asked_of slot here.state (item_of row))) =
    turn slot (item_of row) here.state is.0 standing.now standing.stands is.2 in
    stands_there slot rows (after_record (item_of row) is.0 here) is.1 there (record { now = t.next; stands = t.stands }) is.4

pub others_change_nothing : OthersChangeNothing
others_change_nothing slot setup front before here held rows other_rows text other_text seen other_seen told other_told
    run at first second keeps other_keeps same =
    let standing : Standing slot here.state =
    stands_there slot front (beginning setup) before here
    (record { now = None; stands = none_replicated setup.seats slot }) run in
    let there = one_graph slot here.state held standing.now standing.stands at in
    let mine = told_open slot rows here text seen told there.0 there.1 keeps first in
    let others = told_open slot other_rows here other_text other_seen other_told there.0 there.1 other_keeps second in
    sym (same_from_all_zip (AreToldAlike slot slot) told other_told
    (both_told slot slot (questions_over there.0 (requests_to slot rows)) told other_told mine
    (subst (λ asked. AllZip (IsToldAt slot) (questions_over there.0 asked) other_told) (sym same) others))
    (λ a b alike. alike.4 ∙ sym alike.3))
