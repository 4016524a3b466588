-- The desk's calls with the seats' calls between them: one order of both, and a run of the machine.
use Rattle.std.proofs.Common.{◌≡◌, ℕ, zero, suc, ◌+◌, ◌<◌, ◌≤◌, true, false, inl, inr, List, [], ◌∷◌, ◌++◌, length, map, get_or}
use Rattle.std.proofs.Common.{refl, Option, Some, None, sym, ap, subst, ◌∙◌, arith}
use Rattle.std.proofs.lemmas.Bool.{cases_lt, cases_eq, cond-true, cond-false}
use Rattle.std.proofs.{lemmas.List.{length-map, length-append, length-replicate}, Math.ListN.get_or-map}
use Rattle.std.specs.Prelude.{filter}
use Rattle.graph_version.specs.Versions.{VersionView}
use Rattle.block_reclamation.specs.{declared.copies.PinCopy.PinCopy, declared.copies.Pin.Pin as SeatPin}
use Rattle.block_reclamation.specs.{declared.copies.TheConstants.SEATS, Board.no_pins}
use Rattle.block_reclamation.specs.Copies.{pin_at, copy_of, floor_of, settled_number, unsettled_number}
use Rattle.block_reclamation.proofs.Copied.{floor_is_least}
use Rattle.block_reclamation.proofs.SeatPins.{pin_beyond, no_pins_board, CopiesPin}
use Rattle.graph_types.proofs.ListPlaces.{same_elements}
use Rattle.epoch_core.specs.{declared.events.Event.Event, declared.events.Event.TheVariants.Floor}
use Rattle.epoch_core.specs.declared.session_states.SessionState.TheVariants.{Idle}
use Rattle.epoch_core.specs.{Worlds.{World, MachineState, IsStart, session_of, Answer}, Runs.{AllReplies, run}}
use Rattle.epoch_core.proofs.{Steps.idle_at, Moves.floored}
use Rattle.epoch_core.proofs.RunsTogether.{run_more, run_next, AreSilent, silent_recycling}
use Rattle.store_steps.specs.{Desks.{DeskView, IsCollected}, Boards.raised_board}
use Rattle.store_steps.specs.{Steps.{SimulatesIn, posting, recycling, reclaimable_numbers}, Acceptances.{Acceptance, IsAccepted}}
use Rattle.store_steps.specs.Reached.{Store, IsReached, opened_store}
use Rattle.store_steps.specs.Merges.{Asks, desk_by, next_replies, Call, Applies, Collects, Raises, Pins, Enters, Settles}
use Rattle.store_steps.specs.Merges.{Unpins, is_desks, is_of, is_raise, next_store, AreDeskCalls, events_of, AreDone, AreRun}
use Rattle.store_steps.specs.Merges.{LocksAreOneRun, Holds, AreBoardCalls, IsOneRun, board_by}
use Rattle.store_steps.proofs.Questions.{silent_posting}
use Rattle.store_steps.proofs.SeatCalls.{ready_next, seat_calls, raises_of, place_on}
use Rattle.store_steps.proofs.Stages.{Stage, Stands, Merging, IsOneSeat, IsStage, IsOrdered, last_of, session_at, moment}
use Rattle.store_steps.proofs.Stages.{seat_view, view_of}
use Rattle.store_steps.proofs.{Laps.{IsStuck, Lapped, lap}, Reached.{stays_reached, simulated_reached}}
use Rattle.store_steps.proofs.{Histories.done_is_run, Collecting.collection_simulates}
use Rattle.store_steps.proofs.SameBoards.{MakesCopies, makes_copies, boards_same, desk_left, board_left}
use Rattle.store_steps.proofs.Waits.{seat_later, raise_next, none_left, stands_behind, seat_beyond}

-- All seats

abbrev AreStuck : Merging → Stage → Type 0
AreStuck m st = (seat : ℕ) → IsStuck (last_of st) (st.calls seat) (session_at m.start.world st seat)

-- the seats below this number wait
record LappedBelow (m : Merging) (k : ℕ) (st : Stage) : Type 0 where
  there : Stage
  stage : IsStage m there
  stuck : (seat : ℕ) → seat < k → IsStuck (last_of there) (there.calls seat) (session_at m.start.world there seat)
  back : IsOrdered m.start.world m.desk there → IsOrdered m.start.world m.desk st

laps : (m : Merging) (k : ℕ) (st : Stage) → IsStart m.start → length m.start.world.sessions ≤ SEATS → IsStage m st
    → LappedBelow m k st
laps m zero st is_start few stage =
    record { there = st; stage = stage; stuck = λ seat low. absurd (omega arith); back = λ o. o }
laps m (suc k) st is_start few stage =
    let before : LappedBelow m k st = laps m k st is_start few stage in
    let one : Lapped m k before.there = lap m k (before.there.calls k) before.there is_start few before.stage refl in
    record {
      there = one.there;
      stage = one.onward.stage;
      stuck = λ seat low. elim (cases_eq seat k) [
        | inl same ↦
            subst (λ t. IsStuck (last_of one.there) (one.there.calls t) (session_at m.start.world one.there t)) (sym same) one.stuck
        | inr differ ↦
            subst (λ s. IsStuck (last_of one.there) (one.there.calls seat) s) (sym (one.onward.sessions seat differ))
            (subst (λ cs. IsStuck (last_of one.there) cs (session_at m.start.world before.there seat)) (sym (one.onward.calls seat differ))
            (subst (λ n. IsStuck n (before.there.calls seat) (session_at m.start.world before.there seat))
            (ap (λ d. length d.last.batches) (sym one.onward.desk_same)) (before.stuck seat (omega (arith, low, differ)))))
      ];
      back = λ o. before.back (one.onward.back o);
    }

-- all seats wait
record AllLapped (m : Merging) (st : Stage) : Type 0 where
  there : Stage
  stage : IsStage m there
  stuck : AreStuck m there
  back : IsOrdered m.start.world m.desk there → IsOrdered m.start.world m.desk st

all_laps : (m : Merging) (st : Stage) → IsStart m.start → length m.start.world.sessions ≤ SEATS → IsStage m st → AllLapped m st
all_laps m st is_start few stage =
    let l : LappedBelow m SEATS st = laps m SEATS st is_start few stage in
    let none : (seat : ℕ) → SEATS ≤ seat → pin_at l.there.store.board.pins seat ≡ None =
    λ seat high. pin_beyond l.there.store.board.pins seat (omega (arith, high, l.stage.board.seats)) in
    record {
      there = l.there;
      stage = l.stage;
      stuck = λ seat. elim (cases_lt seat SEATS) [
        | inl low ↦ l.stuck seat low
        | inr high ↦
            seat_beyond (length m.start.world.sessions) m.end m.seen (last_of l.there) l.there.store.board.floor seat
            (session_at m.start.world l.there seat) (l.there.calls seat) (omega (arith, high, few))
            (l.stage.reached.board.pins seat ∙ none seat high)
            (subst (λ p. IsOneSeat m (view_of m.seen (last_of l.there)
            (record { seat = seat; floor = l.there.store.board.floor; pin = p }) (session_at m.start.world l.there seat)
            (l.there.calls seat))) (none seat high) (l.stage.seats seat))
      ];
      back = l.back;
    }

-- A batch and a collection

-- the desk's call, which is these events and leaves this desk
record IsDesks (s : Store) (c : Call) (events : List Event) (next : DeskView) : Type 0 where
  desks : is_desks c ≡ true
  no_seats : (t : ℕ) → is_of t c ≡ false
  no_raise : is_raise c ≡ false
  leaves : next_store s c ≡ record s { desk = next }
  events_are : (w : World) → events_of w s c ≡ events
  silent : (replies : List (List Answer)) → next_replies replies c ≡ replies
  quiet : AreSilent events
  makes : (cs : List Call) → MakesCopies (next_store s c).board cs → MakesCopies s.board (c ∷ cs)
  holds : (w : World) → Holds w c

abbrev desk_stage : Stage → List Event → DeskView → Stage
desk_stage st more next = record { events = st.events ++ more; store = record st.store { desk = next }; calls = st.calls }

session_simulated : (start : World) (st : Stage) (more : List Event) (next : DeskView) (seat : ℕ)
    → SimulatesIn (run st.events start) more next → session_at start (desk_stage st more next) seat ≡ session_at start st seat
session_simulated start st more next seat simulates =
    ap (λ v. session_of v seat) (run_more st.events more start ∙ done_is_run more (run st.events start) simulates.after simulates.done)
    ∙ ap (λ ss. get_or ss seat Idle) simulates.sessions

desk_simulated : (m : Merging) (st : Stage) (c : Call) (more : List Event) (next : DeskView)
    → IsStage (record m { desk = c ∷ m.desk }) st → IsDesks st.store c more next
    → SimulatesIn (run st.events m.start.world) more next → AreDeskCalls next st.store.copy m.desk
    → (desk_by next m.desk).last ≡ m.end
    → ((seat : ℕ) → IsOneSeat m (view_of m.seen (length next.last.batches) (place_on st.store.board seat)
    (session_at m.start.world st seat) (st.calls seat)))
    → IsStage m (desk_stage st more next)
desk_simulated m st c more next k own simulates calls ends seats = record {
  reached = simulated_reached m.start.world st.store next st.events more simulates k.reached;
  board = k.board;
  desk_calls = calls;
  raises = λ t. k.raises t ∙ cond-false (is_raise c) (c ∷ filter is_raise m.desk) (filter is_raise m.desk) own.no_raise;
  ends = ends;
  seats = λ t.
      subst (λ s. IsOneSeat m (view_of m.seen (length next.last.batches) (place_on st.store.board t) s (st.calls t)))
      (sym (session_simulated m.start.world st more next t simulates)) (seats t);
}

desk_back : (start : World) (desk : List Call) (st : Stage) (c : Call) (more : List Event) (next : DeskView)
    → IsReached start st.events st.store → IsDesks st.store c more next → SimulatesIn (run st.events start) more next
    → IsOrdered start desk (desk_stage st more next) → IsOrdered start (c ∷ desk) st
desk_back start desk st c more next reached own simulates o = record {
  order = c ∷ o.order;
  desk_order = cond-true (is_desks c) (c ∷ filter is_desks o.order) (filter is_desks o.order) own.desks
      ∙ ap (λ cs. c ∷ cs) o.desk_order;
  seat_order = λ t. cond-false (is_of t c) (c ∷ filter (is_of t) o.order) (filter (is_of t) o.order) (own.no_seats t) ∙ o.seat_order t;
  copies = own.makes o.order (subst (λ n. MakesCopies n.board o.order) (sym own.leaves) o.copies);
  runs = λ replies.
      subst (λ es. IsReached start st.events st.store × Holds (run st.events start) c × AreDone start st.events es
      × AllReplies (run st.events start) es replies (next_replies replies c)
      × AreRun start (moment (st.events ++ es) (next_replies replies c) (next_store st.store c)) o.order)
      (sym (own.events_are (run st.events start)))
      (subst (λ rs. IsReached start st.events st.store × Holds (run st.events start) c × AreDone start st.events more
      × AllReplies (run st.events start) more replies rs × AreRun start (moment (st.events ++ more) rs (next_store st.store c)) o.order)
      (sym (own.silent replies)) (
        reached,
        own.holds (run st.events start),
        done,
        own.quiet (run st.events start) replies,
        subst (λ n. AreRun start (moment (st.events ++ more) replies n) o.order) (sym own.leaves) (o.runs replies),
      ));
}
  where
    done : AreDone start st.events more
    done = simulates.done ∙ ap Some (sym (run_more st.events more start
        ∙ done_is_run more (run st.events start) simulates.after simulates.done))

batch_more : (a : Acceptance) → IsAccepted a → length a.new.last.batches ≡ length a.old.last.batches + 1
batch_more a accepted = ap (λ l. length l.batches) accepted.ledger ∙ length-append a.old.last.batches (a.batch ∷ [])

-- A raise

-- a copy that has each seat's pin is the copy of the pins
copies_pins : (copy : PinCopy) (pins : List (Option SeatPin)) → length pins ≡ SEATS
    → ((seat : ℕ) → CopiesPin copy seat (pin_at pins seat)) → copy ≡ copy_of copy.last pins
copies_pins copy pins long each =
    let first : copy.settled ≡ map settled_number pins =
    same_elements copy.settled (map settled_number pins)
    ((each 0).settled_seats ∙ sym (length-map pins settled_number ∙ long))
    (λ s. (each s).settled_is ∙ sym (get_or-map settled_number pins s None)) in
    let second : copy.unsettled ≡ map unsettled_number pins =
    same_elements copy.unsettled (map unsettled_number pins)
    ((each 0).unsettled_seats ∙ sym (length-map pins unsettled_number ∙ long))
    (λ s. (each s).unsettled_is ∙ sym (get_or-map unsettled_number pins s None)) in
    ap (λ xs. record copy { settled = xs }) first
    ∙ ap (λ xs. record { last = copy.last; settled = map settled_number pins; unsettled = xs }) second

abbrev rest_of : List Call → List Call
rest_of [] = []
rest_of (c ∷ cs) = cs

abbrev raised_stage : Stage → PinCopy → Stage
raised_stage st copy = record {
  events = st.events ++ Floor ∷ [];
  store = next_store st.store (Raises copy);
  calls = λ t. rest_of (st.calls t);
}

record Raised (m : Merging) (copy : PinCopy) (st : Stage) : Type 0 where
  stage : IsStage (record m { seen = copy.last }) (raised_stage st copy)
  back : IsOrdered m.start.world m.desk (raised_stage st copy) → IsOrdered m.start.world (Raises copy ∷ m.desk) st

raising : (m : Merging) (copy : PinCopy) (st : Stage) → IsStart m.start → length m.start.world.sessions ≤ SEATS
    → IsStage (record m { desk = Raises copy ∷ m.desk }) st → AreStuck m st → Raised m copy st
raising m copy st is_start few k stuck =
    let w : World = run st.events m.start.world in
    let pins : List (Option SeatPin) = st.store.board.pins in
    let last_is : copy.last ≡ last_of st = k.desk_calls.0 in
    let heads : (t : ℕ) → st.calls t ≡ Raises copy ∷ rest_of (st.calls t) =
    λ t. let r = raise_next (st.calls t) (filter is_raise m.desk) (length m.end.batches) m.seen (k.seats t).least (last_of st) copy
    (k.raises t) ((stuck t).0) ((k.seats t).entries) last_is in r.1 ∙ ap (λ cs. Raises copy ∷ rest_of cs) (sym r.1) in
    let mine : (t : ℕ) → IsOneSeat m (view_of m.seen (last_of st) (place_on st.store.board t) (session_at m.start.world st t)
    (Raises copy ∷ rest_of (st.calls t))) =
    λ t. subst (λ calls. IsOneSeat m (view_of m.seen (last_of st) (place_on st.store.board t) (session_at m.start.world st t) calls))
    (heads t) (k.seats t) in
    let same : copy ≡ copy_of copy.last pins = copies_pins copy pins k.board.seats (λ t. (mine t).are.0) in
    let there : floored w ≡ run (st.events ++ Floor ∷ []) m.start.world =
    run_next st.events Floor m.start.world (floored w) refl in
    record {
      stage = record {
        reached =
            subst (λ c. IsReached m.start.world (st.events ++ Floor ∷ [])
            (record { desk = st.store.desk; board = raised_board copy.last st.store.board; copy = c })) (sym same)
            (subst (λ n. IsReached m.start.world (st.events ++ Floor ∷ [])
            (record { desk = st.store.desk; board = raised_board n st.store.board; copy = copy_of n pins })) (sym last_is)
            ((stays_reached m.start is_start).raised st.store st.events k.board few k.reached));
        board = record { seats = k.board.seats; below_pins = (floor_is_least copy.last pins).below_pins };
        desk_calls = k.desk_calls.1;
        raises = λ t. tail_same (Raises copy) (filter is_raise (rest_of (st.calls t))) (filter is_raise m.desk)
            (ap (filter is_raise) (sym (heads t)) ∙ k.raises t);
        ends = k.ends;
        seats = λ t.
            subst (λ s. IsOneSeat m (view_of copy.last (last_of st)
            (record { seat = t; floor = floor_of (copy_of copy.last pins); pin = pin_at pins t }) s (rest_of (st.calls t))))
            (ap (λ v. session_of v t) there)
            (subst (λ c. IsOneSeat m (view_of copy.last (last_of st)
            (record { seat = t; floor = floor_of c; pin = pin_at pins t }) (session_at m.start.world st t) (rest_of (st.calls t))))
            same
            (record {
              least = (mine t).least;
              are = (mine t).are.1;
              entries = (mine t).entries;
              ready = ready_next (rest_of (st.calls t)) (length m.end.batches) (last_of st) copy.last (mine t).least (mine t).entries
                  (omega (arith, last_is));
              stands = stands_behind (last_of st) copy (rest_of (st.calls t)) (session_at m.start.world st t) (mine t).stands;
            }));
      };
      back = λ o. record {
        order = Raises copy ∷ o.order;
        desk_order = ap (λ cs. Raises copy ∷ cs) o.desk_order;
        seat_order = λ t. ap (λ cs. Raises copy ∷ cs) (o.seat_order t) ∙ sym (heads t);
        copies = (same, o.copies);
        runs = λ replies. (k.reached, tt, ap Some there, (replies, refl, refl), o.runs replies);
      };
    }
  where
    tail_same : (c : Call) (xs ys : List Call) → c ∷ xs ≡ c ∷ ys → xs ≡ ys
    tail_same c xs ys e = cc

-- The whole

abbrev merging : MachineState → VersionView → ℕ → List Call → Merging
merging start end seen desk = record { start = start; end = end; seen = seen; desk = desk }

ordered : (start : MachineState) (end : VersionView) (seen : ℕ) (desk : List Call) (st : Stage) → IsStart start
    → length start.world.sessions ≤ SEATS → IsStage (merging start end seen desk) st → AreStuck (merging start end seen desk) st
    → IsOrdered start.world desk st
ordered start end seen [] st is_start few k stuck = record {
  order = [];
  desk_order = refl;
  seat_order = λ t. sym (none_left (st.calls t) (length end.batches) seen (k.seats t).least (last_of st) (k.raises t) ((stuck t).0)
      ((k.seats t).entries) (ap (λ v. length v.batches) k.ends));
  copies = tt;
  runs = λ replies. k.reached;
}
ordered start end seen (Applies batch taken next ∷ desk) st is_start few k stuck =
    let m : Merging = merging start end seen desk in
    let a : Acceptance =
    record { old = st.store.desk; batch = batch; taken = taken; dropped = k.desk_calls.0.0; new = next } in
    let accepted : IsAccepted a = k.desk_calls.0.1 in
    let events : List Event = posting next.last batch taken in
    let done : SimulatesIn (run st.events start.world) events next =
    accepted.steps (run st.events start.world) k.reached.desk in
    let more : length next.last.batches ≡ last_of st + 1 = batch_more a accepted in
    let own : IsDesks st.store (Applies batch taken next) events next =
    record { desks = refl; no_seats = λ t. refl; no_raise = refl; leaves = refl; events_are = λ w. refl; silent = λ rs. refl; quiet = silent_posting next.last batch taken; makes = λ cs are. are; holds = λ w. tt } in
    let stage : IsStage m (desk_stage st events next) =
    desk_simulated m st (Applies batch taken next) events next k own done k.desk_calls.1 k.ends
    (λ t. seat_later (length start.world.sessions) end (seat_view m st t) (length next.last.batches) (k.seats t) (stuck t) more) in
    let all : AllLapped m (desk_stage st events next) = all_laps m (desk_stage st events next) is_start few stage in
    desk_back start.world desk st (Applies batch taken next) events next k.reached own done
    (all.back (ordered start end seen desk all.there is_start few all.stage all.stuck))
ordered start end seen (Collects next ∷ desk) st is_start few k stuck =
    let m : Merging = merging start end seen desk in
    let collected : IsCollected st.store.desk st.store.copy next = k.desk_calls.0 in
    let events : List Event = recycling st.store.copy st.store.desk.pool in
    let done : SimulatesIn (run st.events start.world) events next =
    (collection_simulates st.store.desk next st.store.copy collected (run st.events start.world) k.reached.desk k.reached.copied_is).0 in
    let same : length next.last.batches ≡ last_of st = ap (λ v. length v.batches) collected.last in
    let own : IsDesks st.store (Collects next) events next =
    record { desks = refl; no_seats = λ t. refl; no_raise = refl; leaves = refl; events_are = λ w. refl; silent = λ rs. refl; quiet = silent_recycling (reclaimable_numbers st.store.copy st.store.desk.pool); makes = λ cs are. are; holds = λ w. tt } in
    let stage : IsStage m (desk_stage st events next) =
    desk_simulated m st (Collects next) events next k own done k.desk_calls.1 k.ends
    (λ t. subst (λ n. IsOneSeat m (view_of seen n (place_on st.store.board t) (session_at start.world st t) (st.calls t))) (sym same)
    (k.seats t)) in
    let all : AllLapped m (desk_stage st events next) = all_laps m (desk_stage st events next) is_start few stage in
    desk_back start.world desk st (Collects next) events next k.reached own done
    (all.back (ordered start end seen desk all.there is_start few all.stage all.stuck))
ordered start end seen (Raises copy ∷ desk) st is_start few k stuck =
    let r : Raised (merging start end seen desk) copy st = raising (merging start end seen desk) copy st is_start few k stuck in
    let m : Merging = merging start end copy.last desk in
    let all : AllLapped m (raised_stage st copy) = all_laps m (raised_stage st copy) is_start few r.stage in
    r.back (all.back (ordered start end copy.last desk all.there is_start few all.stage all.stuck))
ordered start end seen (Pins seat ∷ desk) st is_start few k stuck = absurd k.desk_calls.0
ordered start end seen (Enters seat ∷ desk) st is_start few k stuck = absurd k.desk_calls.0
ordered start end seen (Settles seat n ∷ desk) st is_start few k stuck = absurd k.desk_calls.0
ordered start end seen (Asks seat n request answer ∷ desk) st is_start few k stuck = absurd k.desk_calls.0
ordered start end seen (Unpins seat ∷ desk) st is_start few k stuck = absurd k.desk_calls.0

abbrev opened_stage : DeskView → List Call → Stage
opened_stage d board = record { events = []; store = opened_store d; calls = λ seat. filter (is_of seat) board }

-- an order of all calls, from the opening on
one_run : (start : MachineState) (d : DeskView) (desk board : List Call) (sessions : ℕ) (end : VersionView)
    → AreBoardCalls sessions end no_pins board → IsOrdered start.world desk (opened_stage d board) → IsOneRun start d desk board
one_run start d desk board sessions end legal o =
    let same : board_by no_pins o.order ≡ board_by no_pins board =
    boards_same o.order board no_pins (length-replicate {A = Option SeatPin} 16 None) o.copies
    (makes_copies board sessions end no_pins legal) o.seat_order in
    record {
      order = o.order;
      desk_order = o.desk_order;
      seat_order = o.seat_order;
      runs = o.runs start.replies;
      desk_left = desk_left o.order (opened_store d) ∙ ap (desk_by d) o.desk_order;
      board_left = board_left o.order (opened_store d) ∙ same;
    }

pub merge : LocksAreOneRun
merge start d desk board is_start few shows locked =
    let st : Stage = opened_stage d board in
    let none : length d.last.batches ≡ 0 =
    ap length (sym shows.batches) ∙ ap (λ vs. length (map (λ v. v.batch) vs)) is_start.alone in
    let end : VersionView = (desk_by d desk).last in
    let m : Merging = merging start end 0 desk in
    let stage : IsStage m st = record {
      reached = (stays_reached start is_start).opening d shows;
      board = no_pins_board;
      desk_calls = locked.desk_calls;
      raises = λ seat. raises_of seat board ∙ sym locked.raises;
      ends = refl;
      seats = λ seat. record {
        least = 0;
        are = seat_calls board (length start.world.sessions) end seat no_pins few (length-replicate {A = Option SeatPin} 16 None) locked.board_calls;
        entries = locked.entries seat;
        ready = ready_next (filter (is_of seat) board) (length end.batches) (length d.last.batches) 0 0 (locked.entries seat) (omega (arith, none));
        stands = subst (Stands (length d.last.batches) (filter (is_of seat) board)) (sym (idle_at start seat is_start)) tt;
      };
    } in
    let all : AllLapped m st = all_laps m st is_start few stage in
    one_run start d desk board (length start.world.sessions) end locked.board_calls
    (all.back (ordered start end 0 desk all.there is_start few all.stage all.stuck))
