-- What a desk's owner holds, in each world that the desk shows.
use Rattle.std.proofs.Common.{◌≡◌, ℕ, ◌<◌, ◌≤◌, List, length, get_or, refl, sym, ap, subst, ◌∙◌, arith, IfSome}
use Rattle.std.proofs.{Math.ListN.get_or-map, lemmas.List.{length-map}}
use Rattle.std.specs.{Prelude.{◌↔◌, ◌++◌, IsTrue, IsFalse, Option, None, Some, slice_get}, Option.option_map}
use Rattle.block_reclamation.specs.{declared.copies.{Pin.Pin as SeatPin, TheConstants.SEATS}, Board.IsBoard, Copies.{pin_at}}
use Rattle.block_reclamation.specs.Status.{is_at, is_among, is_retired}
use Rattle.block_reclamation.proofs.SeatPins.{seat_low}
use Rattle.graph_types.proofs.Cases.{none_not, unsome}
use Rattle.graph_version.specs.{Rows.{blocks_of, numbers_of}, Versions.VersionView}
use Rattle.epoch_core.specs.declared.session_states.SessionState.{TheVariants.Idle}
use Rattle.epoch_core.specs.{Collections.{HaveSettled, IsHeldBlock, has_settled}, Epochs.PinsInOrder, Runs.run, Versions.blocks_at}
use Rattle.epoch_core.specs.declared.events.Event.{Event}
use Rattle.epoch_core.specs.Worlds.{IsStart, MachineState, World, held_in, last_number, seat_pin, session_of}
use Rattle.epoch_core.proofs.{Epochs.pins_in_order, RunsTogether.run_more, Sizes.size_run, Steps.always_sound}
use Rattle.store_steps.specs.{Desks.{DeskView, IsCollected, last_numbers}, Held.IsSnapshot, Reached.{IsReached, Store}}
use Rattle.store_steps.specs.{Opening.{IsVersionZero, OpensAsMachine, opened_desk, opened_start}, Steps.all_done}
use Rattle.store_steps.proofs.{ExactCollection.collection_is_exact, Held.held_is_snapshot, Histories.done_is_run}
use Rattle.store_steps.proofs.{KeptVersions.done_keeps, Reached.same_count}
use Rattle.owned_desk.specs.declared.owned.Hold.{Hold}
use Rattle.store_steps.proofs.OpeningShown.{content_in, content_opens, opens_as_machine}
use Rattle.owned_desk.specs.Owned.{OwnedView, HoldsOnce, IsOwned, IsHoldCounted, IsSeatOf, copied, count_at, held_pin, opened_owned}
use Rattle.owned_desk.specs.Machine.{HeldAreSnapshots, IsLeftByRun, IsListedByHeld, IsNumbered, LeavesHeldBlocks, ShowsMachineStart}
use Rattle.owned_desk.specs.Machine.{ShowsOwned, seat_session}
use Rattle.owned_desk.proofs.OwnedMoves.{opening_shown}

-- The sessions

session_is : (o : OwnedView) (w : World) (seat : ℕ) → ShowsOwned o w → session_of w seat ≡ seat_session (pin_at o.board.pins seat)
session_is o w seat shows = ap (λ xs. get_or xs seat Idle) shows.sessions ∙ get_or-map seat_session o.board.pins seat None

have_settled : (o : OwnedView) (w : World) → ShowsOwned o w → HaveSettled w
have_settled o w shows seat = subst (λ session. IsTrue (has_settled session)) (sym (session_is o w seat shows)) (told (pin_at o.board.pins seat)) where
  told : (pin : Option SeatPin) → IsTrue (has_settled (seat_session pin))
  told None = refl
  told (Some pin) = refl

held_at : (o : OwnedView) (w : World) (seat number : ℕ) → ShowsOwned o w → IsSeatOf o number seat
    → held_in (session_of w seat) ≡ Some number
held_at o w seat number shows holds =
    ap held_in (session_is o w seat shows ∙ ap seat_session holds.1)

-- a session that holds a version is a seat's of this number
seat_of : (o : OwnedView) (w : World) (seat number : ℕ) → IsOwned o → ShowsOwned o w → held_in (session_of w seat) ≡ Some number
    → IsSeatOf o number seat
seat_of o w seat number is shows held =
    by_pin (pin_at o.board.pins seat) refl (sym (ap held_in (session_is o w seat shows)) ∙ held)
  where
    by_pin : (pin : Option SeatPin) → pin_at o.board.pins seat ≡ pin → held_in (seat_session pin) ≡ Some number → IsSeatOf o number seat
    by_pin None at held = absurd (none_not number held)
    by_pin (Some pin) at held =
        let low : seat < SEATS = subst (λ n. seat < n) is.pins (seat_low o.board.pins seat pin at) in
        let counted : IsHoldCounted (length o.desk.last.batches) (Some pin) (count_at o.counts seat) =
        subst (λ p. IsHoldCounted (length o.desk.last.batches) p (count_at o.counts seat)) at (is.counted seat low) in
        (low, at ∙ ap Some (counted.1 ∙ ap held_pin (unsome pin.number number held)))

-- Snapshots

abbrev store_of : OwnedView → World → Store
store_of o w = record { desk = o.desk; board = o.board; copy = w.copy }

reached : (o : OwnedView) (start : World) (events : List Event) → ShowsOwned o (run events start)
    → IsReached start events (store_of o (run events start))
reached o start events shows = record { desk = shows.desk; board = shows.board; copied_is = refl }

pub held_are_snapshots : (o : OwnedView) → HeldAreSnapshots o
held_are_snapshots o w left shows seat number holds =
    let there : World = run left.events left.start.world in
    let shown : ShowsOwned o there = subst (ShowsOwned o) (sym left.left) shows in
    subst (λ (w : World). IsSnapshot o.desk w.copy w number) left.left
    (held_is_snapshot left.start left.events (store_of o there) seat number left.is_start
    (reached o left.start.world left.events shown) (held_at o there seat number shown holds))

-- A collection

is_board : (o : OwnedView) (w : World) → IsOwned o → ShowsOwned o w → PinsInOrder w → IsBoard o.board
is_board o w is shows order = record {
  seats = is.pins;
  below_pins = λ seat. below seat (pin_at o.board.pins seat) refl;
} where
  below : (seat : ℕ) (pin : Option SeatPin) → pin_at o.board.pins seat ≡ pin → IfSome pin (λ p. o.board.floor ≤ p.number)
  below seat None at = tt
  below seat (Some pin) at =
      let seen : seat_pin (session_of w seat) ≡ Some pin = shows.board.pins seat ∙ at in
      subst (λ n. n ≤ pin.number) shows.board.floor (order.floor_pin seat pin.number (ap (option_map (λ p. p.number)) seen))

collected_at : (old : OwnedView) (new : DeskView) (start : MachineState) (events : List Event) → IsStart start → IsOwned old
    → ShowsOwned old (run events start.world) → IsCollected old.desk (copied old.desk old.board) new → (b : ℕ)
    → IsTrue (is_at is_retired (slice_get new.pool b))
    ↔ (IsListedByHeld old (run events start.world) b × IsFalse (is_among b (last_numbers new)))
collected_at old new start events is_start is shows collected b =
    let w : World = run events start.world in
    let sizes : length w.sessions ≡ length start.world.sessions = (size_run events start.world).sessions in
    let many : length w.sessions ≡ SEATS = ap length shows.sessions ∙ (length-map old.board.pins seat_session ∙ is.pins) in
    let board : IsBoard old.board = is_board old w is shows (pins_in_order w (always_sound start events is_start)) in
    let exact = collection_is_exact start events (store_of old w) new is_start (omega (arith, sizes, many))
    (reached old start.world events shows) board (have_settled old w shows) collected b in (
      λ still. let both = exact.0 still in (listed both.0, both.1),
      λ h. exact.1 (held h.0, h.1),
    )
  where
    listed : IsHeldBlock (run events start.world) b → IsListedByHeld old (run events start.world) b
    listed h = record {
      seat = h.session;
      number = h.version;
      holds = seat_of old (run events start.world) h.session h.version is shows h.holds;
      lists = h.lists;
    }

    held : IsListedByHeld old (run events start.world) b → IsHeldBlock (run events start.world) b
    held h = record {
      session = h.seat;
      version = h.number;
      holds = held_at old (run events start.world) h.seat h.number shows h.holds;
      lists = h.lists;
    }

pub leaves_held_blocks : (old new : OwnedView) → IsOwned old → IsCollected old.desk (copied old.desk old.board) new.desk
    → LeavesHeldBlocks old new
leaves_held_blocks old new is collected w left shows b =
    subst (λ (w : World). IsTrue (is_at is_retired (slice_get new.desk.pool b))
    ↔ (IsListedByHeld old w b × IsFalse (is_among b (last_numbers new.desk)))) left.left
    (collected_at old new.desk left.start left.events left.is_start is (subst (ShowsOwned old) (sym left.left) shows) collected b)

-- Numbers of versions

pub hold_numbered : (old new : OwnedView) (v : VersionView) (hold : Hold) → HoldsOnce old (length old.desk.last.batches) new
    → v ≡ old.desk.last → hold ≡ record { opening = old.opening; number = length old.desk.last.batches }
    → (w : World) → ShowsOwned new w → IsNumbered w hold.number v
hold_numbered old new v hold h same is w shows =
    let desk : new.desk ≡ old.desk = ap (λ (o : OwnedView). o.desk) h.new_is in
    let count : last_number w ≡ hold.number =
    same_count new.desk w shows.desk ∙ (ap (λ (d : DeskView). length d.last.batches) desk ∙ sym (ap (λ (x : Hold). x.number) is)) in
    ap (blocks_at w.opening w.versions) (sym count)
    ∙ (shows.desk.blocks ∙ (ap last_numbers desk ∙ ap (λ (u : VersionView). numbers_of (blocks_of u.rows)) (sym same)))

pub stays_numbered : (w after : World) (events : List Event) (n : ℕ) (v : VersionView) → all_done events w ≡ Some after
    → n ≤ last_number w → IsNumbered w n v → IsNumbered after n v
stays_numbered w after events n v done low is = ap (λ u. u.blocks) ((done_keeps events w after done).version n low) ∙ is

-- Runs

-- a run goes on by events that are all done
pub run_goes_on : (w after : World) (events : List Event) → IsLeftByRun w → all_done events w ≡ Some after → IsLeftByRun after
run_goes_on w after events left done = record {
  start = left.start;
  is_start = left.is_start;
  events = left.events ++ events;
  left = run_more left.events events left.start.world ∙ (ap (run events) left.left ∙ done_is_run events w after done);
}

-- a desk over a version that has just opened shows a start
pub starts : (blocks opening : ℕ) (v : VersionView) → IsVersionZero blocks v
    → ShowsMachineStart (opened_owned (opened_desk blocks v) opening)
starts blocks opening v zero_is =
    let opens : OpensAsMachine SEATS blocks v (content_in v) =
    opens_as_machine SEATS blocks v (content_in v) zero_is (content_opens blocks v zero_is) in
    let start : MachineState = opened_start SEATS blocks (content_in v) v in
    (start, opens.start, opening_shown (opened_desk blocks v) opening start.world opens.shown (refl, refl))

pub starts_anew : (o : OwnedView) (blocks opening : ℕ) → IsVersionZero blocks o.desk.last
    → o ≡ opened_owned (opened_desk blocks o.desk.last) opening → ShowsMachineStart o
starts_anew o blocks opening zero_is same = subst ShowsMachineStart (sym same) (starts blocks opening o.desk.last zero_is)
