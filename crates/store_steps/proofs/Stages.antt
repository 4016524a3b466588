-- Stages on the way to one order: events so far, a store that they reach, and each seat's calls that are left.
use Rattle.std.proofs.Common.{◌≡◌, ℕ, ◌<◌, ◌≤◌, false, inl, inr, List, [], ◌∷◌, ◌++◌, length, set, refl, Option, Some}
use Rattle.std.proofs.Common.{None, IfSome, sym, ap, subst, ◌∙◌, arith, get_or-set_same, get_or-set_other}
use Rattle.std.proofs.lemmas.Option.{slice_get-get_or}
use Rattle.std.proofs.lemmas.Bool.{cases_eq, cond-true, cond-false, eq-eqb, ne_eqb}
use Rattle.std.specs.{Prelude.{◌≢◌, ◌==◌, filter, slice_get, option_map, if◌then◌else◌}, Option.option_and_then}
use Rattle.graph_version.specs.Versions.{VersionView}
use Rattle.block_reclamation.specs.{declared.copies.Pin.Pin as SeatPin, declared.copies.TheConstants.SEATS}
use Rattle.block_reclamation.specs.{Board.IsBoard, Copies.pin_at}
use Rattle.block_reclamation.proofs.SeatPins.{board_with}
use Rattle.epoch_core.specs.{declared.events.Event.Event, declared.session_states.SessionState.SessionState}
use Rattle.epoch_core.specs.declared.session_states.SessionState.TheVariants.{Idle, Pinned, Holding, Asking}
use Rattle.epoch_core.specs.{Worlds.{World, MachineState, session_of, Answer}, Blocks.put_if_some}
use Rattle.epoch_core.specs.Machine.{step, move, with_sessions}
use Rattle.epoch_core.specs.Runs.{AllReplies, run}
use Rattle.epoch_core.proofs.Moves.{session_after, session_else}
use Rattle.epoch_core.proofs.RunsTogether.{run_next}
use Rattle.store_steps.specs.{Steps.all_done, Reached.{Store, IsReached, with_seat}}
use Rattle.store_steps.specs.Merges.{desk_by, next_replies, Call, is_desks, is_of, is_raise, next_store, AreDeskCalls}
use Rattle.store_steps.specs.Merges.{EntersInOrder, events_of, Holds, AreDone, AreRun, Moment}
use Rattle.store_steps.proofs.SeatCalls.{AreSeatCalls, IsReady, SeatPlace, entry_of, place_on}
use Rattle.store_steps.proofs.SameBoards.{MakesCopies}

-- One event of a session's that is done

-- an event after these, and the session in which it leaves the seat
pub record SessionStep : Type 0 where
  pub events : List Event
  pub event : Event
  pub seat : ℕ
  pub next : SessionState

pub record Seated (start : World) (s : SessionStep) : Type 0 where
  pub after : World
  pub stepped : step (run s.events start) s.event ≡ Some after
  pub done : AreDone start s.events (s.event ∷ [])
  pub here : session_of (run (s.events ++ s.event ∷ []) start) s.seat ≡ s.next
  pub others : (t : ℕ) → t ≢ s.seat
      → session_of (run (s.events ++ s.event ∷ []) start) t ≡ session_of (run s.events start) t

pub seated : (start : World) (events : List Event) (e : Event) (seat : ℕ) (change : SessionState → Option SessionState)
    (session next : SessionState) → step (run events start) e ≡ move (run events start) seat change
    → seat < length (run events start).sessions → session_of (run events start) seat ≡ session
    → change session ≡ Some next → Seated start (record { events = events; event = e; seat = seat; next = next })
seated start events e seat change session next moves low is becomes =
    let w : World = run events start in
    let after : World = with_sessions w (set w.sessions seat next) in
    let found : slice_get w.sessions seat ≡ Some session = slice_get-get_or w.sessions seat Idle low ∙ ap Some is in
    let stepped : step w e ≡ Some after =
    moves ∙ ap (λ o. option_map (with_sessions w) (put_if_some w.sessions seat (option_and_then change o))) found
    ∙ ap (λ o. option_map (with_sessions w) (put_if_some w.sessions seat o)) becomes in
    let there : after ≡ run (events ++ e ∷ []) start = run_next events e start after stepped in
    record {
      after = after;
      stepped = stepped;
      done = ap (option_and_then (all_done [])) stepped ∙ ap Some there;
      here = ap (λ v. session_of v seat) (sym there) ∙ session_after w seat session next found;
      others = λ t differ. ap (λ v. session_of v t) (sym there) ∙ session_else w seat t next differ;
    }

-- What is known on the way

-- where a session stands before its seat's calls that are left: a pinned one enters no version before the last, and one that
-- holds a version and hasn't settled settles at that
abbrev pub Stands : ℕ → List Call → SessionState → Type 0
Stands last cs Idle = Unit {0}
Stands last cs (Pinned pin) = (n : ℕ) → entry_of cs ≡ Some n → last ≤ n
Stands last cs (Holding hold) = hold.settled ≡ false → entry_of cs ≡ Some hold.version
Stands last cs (Asking hold inquiry) = ⊥

-- a seat on the way: the number that the last raise saw, the last version's number, the seat on the board, its session, and its
-- calls that are left
pub record SeatView : Type 0 where
  pub seen : ℕ
  pub last : ℕ
  pub place : SeatPlace
  pub session : SessionState
  pub calls : List Call

pub record IsSeat (sessions : ℕ) (end : VersionView) (v : SeatView) : Type 0 where
  pub least : ℕ
  pub are : AreSeatCalls sessions end v.place v.calls
  pub entries : EntersInOrder (length end.batches) v.seen least v.calls
  pub ready : IsReady v.last v.seen least v.calls
  pub stands : Stands v.last v.calls v.session

-- the events so far, the store, and for each seat its calls that are left
pub record Stage : Type 0 where
  pub events : List Event
  pub store : Store
  pub calls : ℕ → List Call

abbrev pub last_of : Stage → ℕ
last_of st = length st.store.desk.last.batches

abbrev pub session_at : World → Stage → ℕ → SessionState
session_at start st seat = session_of (run st.events start) seat

-- what stays while seats make their calls: the start, the last version in the end, the number that the last raise saw, and the
-- desk's calls that are left
pub record Merging : Type 0 where
  pub start : MachineState
  pub end : VersionView
  pub seen : ℕ
  pub desk : List Call

abbrev pub view_of : ℕ → ℕ → SeatPlace → SessionState → List Call → SeatView
view_of seen last place session calls =
    record { seen = seen; last = last; place = place; session = session; calls = calls }

abbrev pub seat_view : Merging → Stage → ℕ → SeatView
seat_view m st seat =
    view_of m.seen (last_of st) (place_on st.store.board seat) (session_at m.start.world st seat) (st.calls seat)

-- a seat of this merging
abbrev pub IsOneSeat : Merging → SeatView → Type 0
IsOneSeat m v = IsSeat (length m.start.world.sessions) m.end v

pub record IsStage (m : Merging) (st : Stage) : Type 0 where
  pub reached : IsReached m.start.world st.events st.store
  pub board : IsBoard st.store.board
  pub desk_calls : AreDeskCalls st.store.desk st.store.copy m.desk
  pub raises : (seat : ℕ) → filter is_raise (st.calls seat) ≡ filter is_raise m.desk
  pub ends : (desk_by st.store.desk m.desk).last ≡ m.end
  pub seats : (seat : ℕ) → IsOneSeat m (seat_view m st seat)

-- a moment of a run
abbrev pub moment : List Event → List (List Answer) → Store → Moment
moment events replies store = record { events = events; replies = replies; store = store }

-- an order of the calls that are left
pub record IsOrdered (start : World) (desk : List Call) (st : Stage) : Type 0 where
  pub order : List Call
  pub desk_order : filter is_desks order ≡ desk
  pub seat_order : (seat : ℕ) → filter (is_of seat) order ≡ st.calls seat
  pub copies : MakesCopies st.store.board order
  pub runs : (replies : List (List Answer)) → AreRun start (moment st.events replies st.store) order

-- from one stage to another by calls of one seat
pub record Onward (m : Merging) (seat : ℕ) (st there : Stage) : Type 0 where
  pub stage : IsStage m there
  pub desk_same : there.store.desk ≡ st.store.desk
  pub calls : (t : ℕ) → t ≢ seat → there.calls t ≡ st.calls t
  pub sessions : (t : ℕ) → t ≢ seat → session_at m.start.world there t ≡ session_at m.start.world st t
  pub back : IsOrdered m.start.world m.desk there → IsOrdered m.start.world m.desk st

pub onward_both : (m : Merging) (seat : ℕ) (a b c : Stage) → Onward m seat a b → Onward m seat b c → Onward m seat a c
onward_both m seat a b c first second = record {
  stage = second.stage;
  desk_same = second.desk_same ∙ first.desk_same;
  calls = λ t differ. second.calls t differ ∙ first.calls t differ;
  sessions = λ t differ. second.sessions t differ ∙ first.sessions t differ;
  back = λ o. first.back (second.back o);
}

-- at an equal pin and session, with equal calls
pub seat_same : (m : Merging) (last floor seat : ℕ) (pin pin' : Option SeatPin) (session session' : SessionState)
    (cs cs' : List Call) → pin ≡ pin' → session ≡ session' → cs ≡ cs'
    → IsOneSeat m (view_of m.seen last (record { seat = seat; floor = floor; pin = pin }) session cs)
    → IsOneSeat m (view_of m.seen last (record { seat = seat; floor = floor; pin = pin' }) session' cs')
seat_same m last floor seat pin pin' session session' cs cs' pins stands calls is =
    subst (λ c. IsOneSeat m (view_of m.seen last (record { seat = seat; floor = floor; pin = pin' }) session' c)) calls
    (subst (λ s. IsOneSeat m (view_of m.seen last (record { seat = seat; floor = floor; pin = pin' }) s cs)) stands
    (subst (λ p. IsOneSeat m (view_of m.seen last (record { seat = seat; floor = floor; pin = p }) session cs)) pins is))

abbrev pub with_calls : (ℕ → List Call) → ℕ → List Call → ℕ → List Call
with_calls calls seat cs t = if t == seat then cs else calls t

pub calls_here : (calls : ℕ → List Call) (seat t : ℕ) (cs : List Call) → t ≡ seat → with_calls calls seat cs t ≡ cs
calls_here calls seat t cs same = cond-true (t == seat) cs (calls t) (eq-eqb t seat same)

pub calls_else : (calls : ℕ → List Call) (seat t : ℕ) (cs : List Call) → t ≢ seat → with_calls calls seat cs t ≡ calls t
calls_else calls seat t cs differ = cond-false (t == seat) cs (calls t) (ne_eqb t seat differ)

-- One call of a seat's

-- a call of a seat's, the event that it is, and the pin that it leaves
pub record SeatCall : Type 0 where
  pub seat : ℕ
  pub call : Call
  pub event : Event
  pub pin : Option SeatPin

pub record IsOwn (s : Store) (x : SeatCall) : Type 0 where
  pub no_desks : is_desks x.call ≡ false
  pub own : (t : ℕ) → is_of t x.call ≡ (x.seat == t)
  pub no_raise : is_raise x.call ≡ false
  pub leaves : next_store s x.call ≡ with_seat s x.seat x.pin
  pub event : (w : World) → events_of w s x.call ≡ x.event ∷ []
  pub silent : (replies : List (List Answer)) → next_replies replies x.call ≡ replies
  pub makes : (cs : List Call) → MakesCopies (next_store s x.call).board cs → MakesCopies s.board (x.call ∷ cs)
  pub quiet : (w : World) (replies : List (List Answer)) → AllReplies w (x.event ∷ []) replies replies

abbrev pub after_call : Stage → ℕ → Event → Option SeatPin → List Call → Stage
after_call st seat e pin cs = record {
  events = st.events ++ e ∷ [];
  store = with_seat st.store seat pin;
  calls = with_calls st.calls seat cs;
}

call_back : (start : World) (desk : List Call) (st : Stage) (seat : ℕ) (c : Call) (cs : List Call) (e : Event) (pin : Option SeatPin)
    → IsReached start st.events st.store → st.calls seat ≡ c ∷ cs
    → IsOwn st.store (record { seat = seat; call = c; event = e; pin = pin }) → Holds (run st.events start) c
    → AreDone start st.events (e ∷ []) → IsOrdered start desk (after_call st seat e pin cs) → IsOrdered start desk st
call_back start desk st seat c cs e pin reached next own holds done o =
    let w : World = run st.events start in
    record {
      order = c ∷ o.order;
      desk_order = cond-false (is_desks c) (c ∷ filter is_desks o.order) (filter is_desks o.order) own.no_desks ∙ o.desk_order;
      seat_order = λ t. elim (cases_eq t seat) [
        | inl same ↦
            cond-true (is_of t c) (c ∷ filter (is_of t) o.order) (filter (is_of t) o.order) (own.own t ∙ eq-eqb seat t (sym same))
            ∙ ap (λ more. c ∷ more) (o.seat_order t ∙ calls_here st.calls seat t cs same) ∙ sym next ∙ ap st.calls (sym same)
        | inr differ ↦
            cond-false (is_of t c) (c ∷ filter (is_of t) o.order) (filter (is_of t) o.order)
            (own.own t ∙ ne_eqb seat t (λ same. differ (sym same)))
            ∙ o.seat_order t ∙ calls_else st.calls seat t cs differ
      ];
      copies = own.makes o.order (subst (λ n. MakesCopies n.board o.order) (sym own.leaves) o.copies);
      runs = λ replies.
          subst (λ es. IsReached start st.events st.store × Holds w c × AreDone start st.events es
          × AllReplies w es replies (next_replies replies c)
          × AreRun start (moment (st.events ++ es) (next_replies replies c) (next_store st.store c)) o.order) (sym (own.event w))
          (subst (λ rs. IsReached start st.events st.store × Holds w c × AreDone start st.events (e ∷ [])
          × AllReplies w (e ∷ []) replies rs × AreRun start (moment (st.events ++ e ∷ []) rs (next_store st.store c)) o.order)
          (sym (own.silent replies)) (
            reached,
            holds,
            done,
            own.quiet w replies,
            subst (λ n. AreRun start (moment (st.events ++ e ∷ []) replies n) o.order) (sym own.leaves) (o.runs replies),
          ));
    }

-- a seat's call that is done leads onward
pub seat_call : (m : Merging) (st : Stage) (seat : ℕ) (c : Call) (cs : List Call) (e : Event) (pin : Option SeatPin)
    (next : SessionState) → IsStage m st → st.calls seat ≡ c ∷ cs → seat < SEATS
    → IsOwn st.store (record { seat = seat; call = c; event = e; pin = pin }) → Holds (run st.events m.start.world) c
    → Seated m.start.world (record { events = st.events; event = e; seat = seat; next = next })
    → IsReached m.start.world (st.events ++ e ∷ []) (with_seat st.store seat pin) → IfSome pin (λ p. st.store.board.floor ≤ p.number)
    → IsOneSeat m (view_of m.seen (last_of st) (record { seat = seat; floor = st.store.board.floor; pin = pin }) next cs)
    → Onward m seat st (after_call st seat e pin cs)
seat_call m st seat c cs e pin next k is low own holds done reached above seat_is = record {
  stage = record {
    reached = reached;
    board = board_with st.store.board seat pin k.board low above;
    desk_calls = k.desk_calls;
    raises = λ t. elim (cases_eq t seat) [
      | inl same ↦
          ap (filter is_raise) (calls_here st.calls seat t cs same)
          ∙ sym (cond-false (is_raise c) (c ∷ filter is_raise cs) (filter is_raise cs) own.no_raise)
          ∙ ap (filter is_raise) (sym is) ∙ k.raises seat
      | inr differ ↦ ap (filter is_raise) (calls_else st.calls seat t cs differ) ∙ k.raises t
    ];
    ends = k.ends;
    seats = λ t. elim (cases_eq t seat) [
      | inl same ↦
          subst (λ u. IsOneSeat m (seat_view m (after_call st seat e pin cs) u)) (sym same)
          (seat_same m (last_of st) st.store.board.floor seat pin (pin_at (set st.store.board.pins seat pin) seat) next
          (session_of (run (st.events ++ e ∷ []) m.start.world) seat) cs (with_calls st.calls seat cs seat)
          (sym (get_or-set_same st.store.board.pins seat pin None (omega (arith, low, k.board.seats)))) (sym done.here)
          (sym (calls_here st.calls seat seat cs refl)) seat_is)
      | inr differ ↦
          seat_same m (last_of st) st.store.board.floor t (pin_at st.store.board.pins t)
          (pin_at (set st.store.board.pins seat pin) t) (session_at m.start.world st t)
          (session_of (run (st.events ++ e ∷ []) m.start.world) t) (st.calls t) (with_calls st.calls seat cs t)
          (sym (get_or-set_other st.store.board.pins seat t pin None differ)) (sym (done.others t differ))
          (sym (calls_else st.calls seat t cs differ)) (k.seats t)
    ];
  };
  desk_same = refl;
  calls = λ t differ. calls_else st.calls seat t cs differ;
  sessions = λ t differ. done.others t differ;
  back = call_back m.start.world m.desk st seat c cs e pin k.reached is own holds done.done;
}
