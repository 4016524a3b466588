-- One question of a session.
use Rattle.std.proofs.Common.{◌≡◌, ℕ, ◌≤◌, inl, inr, List, [], ◌∷◌, ◌++◌, length, refl, Option, Some, sym, ap, subst, ◌∙◌}
use Rattle.std.proofs.Common.{arith, append-nil, append_assoc, replicate, take, true, set, get_or}
use Rattle.std.proofs.lemmas.Bool.{cases_eq, true≢false, cond-true, cond-false, eq-eqb, ne_eqb}
use Rattle.std.proofs.{lemmas.List.{take-append-le, take-map}, lemmas.Option.slice_get-get_or}
use Rattle.std.specs.Prelude.{slice_get, filter, ◌==◌}
use Rattle.graph_types.specs.{Graph.Graph, Step.left_by, Answer.IsAnswer, declared.batches.NamedOp.NamedOp}
use Rattle.graph_types.specs.declared.requests.Request.{Request}
use Rattle.graph_version.specs.Versions.{VersionView}
use Rattle.block_reclamation.specs.{declared.copies.Pin.Pin as SeatPin, declared.copies.PinCopy.PinCopy}
use Rattle.block_reclamation.proofs.SeatPins.{none_not, is_told, pin_number}
use Rattle.epoch_core.specs.{declared.session_states.Hold.Hold, declared.session_states.SessionState.SessionState}
use Rattle.epoch_core.specs.declared.session_states.SessionState.TheVariants.{Idle, Pinned, Holding, Asking}
use Rattle.epoch_core.specs.{Worlds.{World, IsStart, seat_pin, session_of, held_in, Answer}, Runs.{AllReplies, run}}
use Rattle.epoch_core.specs.{Sound.{IsHeld, IsSound, IsSessionSound}, Versions.{blocks_at, graph_at, graph_of_opening}}
use Rattle.epoch_core.specs.{declared.events.Event.TheVariants.{Ask, Read, Reply}, declared.events.Event.Event}
use Rattle.epoch_core.proofs.Steps.{always_sound}
use Rattle.epoch_core.proofs.{RunsTogether.run_more, SessionSteps.{within, holding_not_idle}}
use Rattle.store_steps.specs.Merges.{Call, Applies, Collects, Raises, Pins, Enters, Settles, Unpins, Asks, AreDeskCalls}
use Rattle.store_steps.specs.Merges.{desk_by, graph_of_version, is_raise, is_of}
use Rattle.store_steps.specs.{Desks.DeskView, Shown.ShowsWorld, Steps.all_done, Boards.ShowsBoard}
use Rattle.store_steps.proofs.{SeatCalls.{ready_next, place_on}, Reached.same_count, Histories.done_is_run}
use Rattle.store_steps.proofs.Questions.{question_done, question_replies}
use Rattle.store_steps.proofs.Stages.{with_calls, calls_here, calls_else, Stands, Merging, IsOneSeat, Stage, last_of}
use Rattle.store_steps.proofs.Stages.{view_of, IsStage, Onward}
use Rattle.store_steps.proofs.Seating.{at_calls}

-- a later desk of the same opening, with more batches
record IsGrown (old new : VersionView) : Type 0 where
  rest : List (List NamedOp)
  batches_are : new.batches ≡ old.batches ++ rest
  opening_is : new.opening ≡ old.opening

grown : (desk : List Call) (d : DeskView) (copy : PinCopy) → AreDeskCalls d copy desk → IsGrown d.last (desk_by d desk).last
grown [] d copy are = record { rest = []; batches_are = sym (append-nil d.last.batches); opening_is = refl }
grown (Applies batch taken next ∷ desk) d copy are =
    let more : IsGrown next.last (desk_by next desk).last = grown desk next copy are.1 in
    let one : next.last.batches ≡ d.last.batches ++ batch ∷ [] = ap (λ l. l.batches) are.0.1.ledger in
    record {
      rest = batch ∷ more.rest;
      batches_are = more.batches_are ∙ ap (λ bs. bs ++ more.rest) one ∙ append_assoc d.last.batches (batch ∷ []) more.rest;
      opening_is = more.opening_is ∙ are.0.1.opening;
    }
grown (Collects next ∷ desk) d copy are =
    subst (λ v. IsGrown v (desk_by next desk).last) are.0.last (grown desk next copy are.1)
grown (Raises made ∷ desk) d copy are = grown desk d made are.1
grown (Pins seat ∷ desk) d copy are = absurd are.0
grown (Settles seat n ∷ desk) d copy are = absurd are.0
grown (Unpins seat ∷ desk) d copy are = absurd are.0
grown (Enters seat ∷ desk) d copy are = absurd are.0
grown (Asks seat n request answer ∷ desk) d copy are = absurd are.0

-- the graph of a version that is posted, as the machine has it
posted_graph : (m : Merging) (st : Stage) (n : ℕ) → IsStage m st → n ≤ last_of st
    → graph_of_version m.end n ≡ graph_at (run st.events m.start.world).opening (run st.events m.start.world).versions n
posted_graph m st n k low =
    let w : World = run st.events m.start.world in
    let last : VersionView = st.store.desk.last in
    let more : IsGrown last m.end = subst (IsGrown last) k.ends (grown m.desk st.store.desk st.store.copy k.desk_calls) in
    ap (λ bs. left_by (take n bs) m.end.opening) more.batches_are
    ∙ ap (λ bs. left_by bs m.end.opening) (take-append-le n last.batches more.rest low)
    ∙ ap (left_by (take n last.batches)) (more.opening_is ∙ sym k.reached.desk.opening)
    ∙ ap (λ bs. left_by (take n bs) (graph_of_opening w.opening)) (sym k.reached.desk.batches)
    ∙ ap (λ bs. left_by bs (graph_of_opening w.opening)) (take-map (λ v. v.batch) n w.versions)

-- a session whose pin is settled holds a version
held_now : (last n other : ℕ) (request : Request) (answer : Answer) (cs : List Call) (session : SessionState)
    (pin : Option SeatPin) → seat_pin session ≡ pin → pin ≡ Some (record { number = n; is_settled = true })
    → Stands last (Asks other n request answer ∷ cs) session
    → (hold : Hold) × (session ≡ Holding hold) × (hold.settled ≡ true) × (hold.pin ≡ n)
held_now last n other request answer cs Idle pin shown had stands =
    absurd (none_not (record { number = n; is_settled = true }) (shown ∙ had))
held_now last n other request answer cs (Pinned number) pin shown had stands = absurd (true≢false (sym (ap is_told (shown ∙ had))))
held_now last n other request answer cs (Holding hold) pin shown had stands =
    (hold, refl, ap is_told (shown ∙ had), ap pin_number (shown ∙ had))
held_now last n other request answer cs (Asking hold inquiry) pin shown had stands = absurd stands

pub questioning : (m : Merging) (seat other n : ℕ) (request : Request) (answer : Answer) (st : Stage) (cs : List Call)
    → IsStart m.start → IsStage m st
    → st.calls seat ≡ Asks other n request answer ∷ cs
    → (there : Stage) × Onward m seat st there × (there.calls seat ≡ cs)
questioning m seat other n request answer st cs is_start k is =
    let w : World = run st.events m.start.world in
    let mine = at_calls m seat st (Asks other n request answer ∷ cs) k is in
    let asks : st.calls seat ≡ Asks seat n request answer ∷ cs = is ∙ ap (λ s. Asks s n request answer ∷ cs) mine.are.0.0 in
    let h = held_now (last_of st) n other request answer cs (session_of w seat) _ (k.reached.board.pins seat) mine.are.0.1
    mine.stands in
    let hold : Hold = h.0 in
    let sound : IsSound w = always_sound m.start st.events is_start in
    let held : IsHeld w hold = subst (IsSessionSound w) h.1 (sound.sessions seat) in
    let version : hold.version ≡ n = sym (held.settled h.2) ∙ h.3 in
    let found : slice_get w.sessions seat ≡ Some (Holding hold) =
    slice_get-get_or w.sessions seat Idle (within w seat (λ idle. holding_not_idle hold (sym h.1 ∙ idle))) ∙ ap Some h.1 in
    let count : length w.versions ≡ last_of st = same_count st.store.desk w k.reached.desk in
    let low : n ≤ last_of st = omega (arith, held.held_last, version, count) in
    let answers : IsAnswer request (graph_at w.opening w.versions hold.version) answer =
    subst (λ number. IsAnswer request (graph_at w.opening w.versions number) answer) (sym version)
    (subst (λ (g : Graph). IsAnswer request g answer) (posted_graph m st n k low) mine.are.0.2) in
    let more : List Event =
    (Ask seat request ∷ replicate (length (blocks_at w.opening w.versions n)) (Read seat)) ++ Reply seat ∷ [] in
    let same : (Ask seat request ∷ replicate (length (blocks_at w.opening w.versions hold.version)) (Read seat)) ++ Reply seat ∷ []
    ≡ more =
    ap (λ number. (Ask seat request ∷ replicate (length (blocks_at w.opening w.versions number)) (Read seat)) ++ Reply seat ∷ [])
    version in
    let done : all_done more w ≡ Some w =
    subst (λ es. all_done es w ≡ Some w) same (question_done w seat request hold found) in
    let there : run (st.events ++ more) m.start.world ≡ w =
    run_more st.events more m.start.world ∙ done_is_run more w w done in
    let next : Stage = record { events = st.events ++ more; store = st.store; calls = with_calls st.calls seat cs } in (
      next,
      record {
        stage = record {
          reached = record {
            desk = subst (ShowsWorld st.store.desk) (sym there) k.reached.desk;
            board = subst (ShowsBoard st.store.board) (sym there) k.reached.board;
            copied_is = ap (λ v. v.copy) there ∙ k.reached.copied_is;
          };
          board = k.board;
          desk_calls = k.desk_calls;
          raises = λ t. elim (cases_eq t seat) [
            | inl own ↦
                ap (filter is_raise) (calls_here st.calls seat t cs own) ∙ ap (filter is_raise) (sym asks) ∙ k.raises seat
            | inr differ ↦ ap (filter is_raise) (calls_else st.calls seat t cs differ) ∙ k.raises t
          ];
          ends = k.ends;
          seats = λ t. subst (λ v. IsOneSeat m (view_of m.seen (last_of st) (place_on st.store.board t) (session_of v t)
              (with_calls st.calls seat cs t))) (sym there)
              (elim (cases_eq t seat) [
                | inl own ↦
                    subst (λ u. IsOneSeat m (view_of m.seen (last_of st) (place_on st.store.board u) (session_of w u)
                    (with_calls st.calls seat cs u))) (sym own)
                    (subst (λ calls. IsOneSeat m (view_of m.seen (last_of st) (place_on st.store.board seat) (session_of w seat)
                    calls)) (sym (calls_here st.calls seat seat cs refl))
                    (record {
                      least = mine.least;
                      are = mine.are.1;
                      entries = mine.entries;
                      ready = ready_next cs (length m.end.batches) (last_of st) m.seen mine.least mine.entries mine.ready;
                      stands = subst (Stands (last_of st) cs) (sym h.1) (λ no_pin. absurd (true≢false (sym h.2 ∙ no_pin)));
                    }))
                | inr differ ↦
                    subst (λ calls. IsOneSeat m (view_of m.seen (last_of st) (place_on st.store.board t) (session_of w t) calls))
                    (sym (calls_else st.calls seat t cs differ)) (k.seats t)
              ]);
        };
        desk_same = refl;
        calls = λ t differ. calls_else st.calls seat t cs differ;
        sessions = λ t differ. ap (λ v. session_of v t) there;
        back = λ o. record {
          order = Asks seat n request answer ∷ o.order;
          desk_order = o.desk_order;
          seat_order = λ t. elim (cases_eq t seat) [
            | inl own ↦
                cond-true (seat == t) (Asks seat n request answer ∷ filter (is_of t) o.order) (filter (is_of t) o.order)
                (eq-eqb seat t (sym own))
                ∙ ap (λ rest. Asks seat n request answer ∷ rest) (o.seat_order t ∙ calls_here st.calls seat t cs own) ∙ sym asks
                ∙ ap st.calls (sym own)
            | inr differ ↦
                cond-false (seat == t) (Asks seat n request answer ∷ filter (is_of t) o.order) (filter (is_of t) o.order)
                (ne_eqb seat t (λ e. differ (sym e)))
                ∙ o.seat_order t ∙ calls_else st.calls seat t cs differ
          ];
          copies = o.copies;
          runs = λ replies. (
            k.reached,
            ap held_in h.1 ∙ ap Some version,
            done ∙ ap Some (sym there),
            subst (λ es. AllReplies w es replies (set replies seat (get_or replies seat [] ++ answer ∷ []))) same
                (question_replies w seat request hold found replies answer held (sound.named hold.version held.held_last) answers),
            o.runs (set replies seat (get_or replies seat [] ++ answer ∷ [])),
          );
        };
      },
      calls_here st.calls seat seat cs refl,
    )
