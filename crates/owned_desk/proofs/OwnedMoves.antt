-- Each call of a desk's owner is a list of the machine's events.
use Rattle.std.proofs.Common.{◌≡◌, ℕ, suc, ◌<◌, ◌+◌, ◌-◌, ◌==◌, true, false, if◌then◌else◌, inl, inr}
use Rattle.std.proofs.Common.{List, [], ◌∷◌, ◌++◌, length, map, set, replicate, get_or, refl, sym, ap, ap₂, subst, ◌∙◌, arith}
use Rattle.std.proofs.{Math.ListN.get_or-map, lemmas.{List.{append-nil, length-map, map-set, set-get_or}}}
use Rattle.std.proofs.lemmas.Option.{slice_get-get_or, slice_get-map}
use Rattle.std.specs.{Prelude.{Option, None, Some, slice_get}, Option.option_map}
use Rattle.block_reclamation.specs.{declared.copies.{Pin.Pin as SeatPin, PinCopy.PinCopy, TheConstants.SEATS}}
use Rattle.block_reclamation.specs.{Board.{BoardState, no_pins, with_pin}, Copies.{copy_of, floor_of, pin_at}}
use Rattle.epoch_core.specs.declared.events.Event.{Event, TheVariants.{Floor, Release}}
use Rattle.epoch_core.specs.declared.session_states.{Hold.Hold as SessionHold, SessionState.{TheVariants.{Idle, Holding}}}
use Rattle.epoch_core.specs.{Machine.with_sessions, Worlds.{World, present_copy, seat_pin, seat_pins}}
use Rattle.epoch_core.proofs.Moves.{floored}
use Rattle.graph_types.specs.declared.batches.NamedOp.{NamedOp}
use Rattle.store_steps.specs.{Acceptances.Accepts, Boards.{ShowsBoard, raised_board}, Desks.DeskView, Shown.ShowsWorld}
use Rattle.store_steps.specs.Steps.{SimulatesAt, SimulatesIn, posting, recycling}
use Rattle.store_steps.proofs.{BoardSteps.{shows_floored, shows_sessions}, Questions.then_done, Reached.same_count}
use Rattle.store_steps.proofs.SessionRuns.{closing_done, opening_done}
use Rattle.owned_desk.specs.declared.owned.Hold.{Hold}
use Rattle.owned_desk.specs.Owned.{OwnedView, IsOwned, IsHoldCounted, IsReleased, HoldsOnce, ReleasesOnce, IsSeatOf}
use Rattle.graph_version.specs.Versions.{VersionView}
use Rattle.owned_desk.specs.Kept.{seat_version}
use Rattle.owned_desk.specs.Owned.{copied, count_at, held_pin, opened_owned, with_hold}
use Rattle.owned_desk.specs.Machine.{Follows, FollowsBatch, FollowsHold, FollowsRelease, IsUnheld, ShowsOwned, collect_events}
use Rattle.owned_desk.specs.Machine.{hold_events, release_events, seat_session}

-- The pins

-- each seat's pin is what is seen of its session
abbrev pub AreSeen : List (Option SeatPin) → Type 0
AreSeen pins = map seat_pin (map seat_session pins) ≡ pins

seen_each : (pins : List (Option SeatPin))
    → ((seat : ℕ) → seat < length pins → seat_pin (seat_session (pin_at pins seat)) ≡ pin_at pins seat) → AreSeen pins
seen_each [] same = refl
seen_each (pin ∷ pins) same =
    ap₂ (λ p ps. p ∷ ps) (same 0 (omega arith)) (seen_each pins (λ seat low. same (suc seat) (omega (arith, low))))

counted_seen : (last count : ℕ) (pin : Option SeatPin) → IsHoldCounted last pin count → seat_pin (seat_session pin) ≡ pin
counted_seen last count None is = refl
counted_seen last count (Some pin) is = ap Some (sym is.1)

pub owned_seen : (o : OwnedView) → IsOwned o → AreSeen o.board.pins
owned_seen o is =
    seen_each o.board.pins (λ seat low. counted_seen (length o.desk.last.batches) (count_at o.counts seat) (pin_at o.board.pins seat)
    (is.counted seat (let many = is.pins in omega (arith, low, many))))

seen_with : (pins : List (Option SeatPin)) (seat : ℕ) (pin : Option SeatPin) → AreSeen pins → seat_pin (seat_session pin) ≡ pin
    → AreSeen (set pins seat pin)
seen_with pins seat pin seen same =
    ap (map seat_pin) (map-set seat_session pins seat pin) ∙ map-set seat_pin (map seat_session pins) seat (seat_session pin)
    ∙ ap₂ (λ ps p. set ps seat p) seen same

board_shown : (b : BoardState) (w : World) → AreSeen b.pins → w.floor ≡ b.floor → w.sessions ≡ map seat_session b.pins
    → ShowsBoard b w
board_shown b w seen floor sessions = record {
  floor = floor;
  pins = λ seat.
      sym (get_or-map seat_pin w.sessions seat Idle)
      ∙ ap (λ ps. pin_at ps seat) (ap (map seat_pin) sessions ∙ seen);
}

-- the machine's copy of the pins is the one that a collection takes
pub copy_shown : (o : OwnedView) (w : World) → IsOwned o → ShowsOwned o w → present_copy w ≡ copied o.desk o.board
copy_shown o w is shows =
    let many : length w.sessions ≡ SEATS = ap length shows.sessions ∙ (length-map o.board.pins seat_session ∙ is.pins) in
    let pins : seat_pins w.sessions ≡ o.board.pins =
    ap (λ n. map seat_pin w.sessions ++ replicate (SEATS - n) None) many
    ∙ (append-nil (map seat_pin w.sessions) ∙ (ap (map seat_pin) shows.sessions ∙ owned_seen o is)) in
    λ i. copy_of (same_count o.desk w shows.desk i) (pins i)

-- A call that does nothing

nothing_follows : (old new : OwnedView) → new.desk ≡ old.desk → new.board ≡ old.board → Follows old [] new
nothing_follows old new desk board w shows = (
  w,
  refl,
  record {
    desk = subst (λ (d : DeskView). ShowsWorld d w) (sym desk) shows.desk;
    board = subst (λ (b : BoardState). ShowsBoard b w) (sym board) shows.board;
    sessions = shows.sessions ∙ ap (λ (b : BoardState). map seat_session b.pins) (sym board);
  },
)

-- A batch

pub batch_follows : (old new : OwnedView) (batch : List NamedOp) → Accepts old.desk batch new.desk
    → new ≡ record old { desk = new.desk } → FollowsBatch old batch new
batch_follows old new batch a same = (
  a.taken,
  λ w shows.
      let t : SimulatesIn w (posting new.desk.last batch a.taken) new.desk = a.accepted.steps w shows.desk in
      let board : old.board ≡ new.board = sym (ap (λ (o : OwnedView). o.board) same) in (
        t.after,
        t.done,
        record {
          desk = t.shown;
          board = subst (λ (b : BoardState). ShowsBoard b t.after) board (record {
            floor = t.floor ∙ shows.board.floor;
            pins = λ seat. ap (λ xs. seat_pin (get_or xs seat Idle)) t.sessions ∙ shows.board.pins seat;
          });
          sessions = t.sessions ∙ (shows.sessions ∙ ap (λ (b : BoardState). map seat_session b.pins) board);
        },
      ),
)

-- A seat that is taken or left

found : (o : OwnedView) (w : World) (seat : ℕ) (pin : Option SeatPin) → IsOwned o → ShowsOwned o w → seat < SEATS
    → pin_at o.board.pins seat ≡ pin → slice_get w.sessions seat ≡ Some (seat_session pin)
found o w seat pin is shows low at =
    let within : seat < length o.board.pins = (let many = is.pins in omega (arith, low, many)) in
    ap (λ xs. slice_get xs seat) shows.sessions
    ∙ (slice_get-map seat_session o.board.pins seat
    ∙ ap (option_map seat_session) (slice_get-get_or o.board.pins seat None within ∙ ap Some at))

-- the world with that seat's session changed is shown
seat_shown : (o : OwnedView) (w : World) (seat count : ℕ) (pin : Option SeatPin) (version : Option VersionView) → IsOwned o
    → seat_pin (seat_session pin) ≡ pin → ShowsOwned o w
    → ShowsOwned (with_hold o seat pin count version) (with_sessions w (set w.sessions seat (seat_session pin)))
seat_shown o w seat count pin version is same shows =
    let next : World = with_sessions w (set w.sessions seat (seat_session pin)) in
    let sessions : next.sessions ≡ map seat_session (set o.board.pins seat pin) =
    ap (λ xs. set xs seat (seat_session pin)) shows.sessions ∙ sym (map-set seat_session o.board.pins seat pin) in
    record {
      desk = shows_sessions o.desk w (set w.sessions seat (seat_session pin)) shows.desk;
      board = board_shown (with_pin o.board seat pin) next (seen_with o.board.pins seat pin (owned_seen o is) same) shows.board.floor
          sessions;
      sessions = sessions;
    }

-- a seat's own pin once more
own_again : (b : BoardState) (seat : ℕ) (pin : Option SeatPin) → pin_at b.pins seat ≡ pin → with_pin b seat pin ≡ b
own_again b seat pin at =
    let pins : set b.pins seat pin ≡ b.pins = ap (set b.pins seat) (sym at) ∙ set-get_or b.pins seat None in
    λ i. record { floor = b.floor; pins = pins i }

-- A hold

pub hold_follows : (old new : OwnedView) → IsOwned old → HoldsOnce old (length old.desk.last.batches) new → FollowsHold old new
hold_follows old new is h =
    let number : ℕ = length old.desk.last.batches in
    let pin : Option SeatPin = Some (held_pin number) in
    let next : OwnedView = with_hold old h.seat pin (count_at old.counts h.seat + 1) (Some old.desk.last) in
    let events : List Event = hold_events h.seat (pin_at old.board.pins h.seat) in (
      h.seat,
      h.is_for,
      subst (λ (n : OwnedView). Follows old events n) (sym h.new_is) (elim h.is_for.1 as (λ _. Follows old events next) [
        | inl at ↦
            subst (λ (p : Option SeatPin). Follows old (hold_events h.seat p) next) (sym at)
            (nothing_follows old next refl (own_again old.board h.seat pin at))
        | inr free ↦
            subst (λ (p : Option SeatPin). Follows old (hold_events h.seat p) next) (sym free.0)
            (λ w shows. (
              with_sessions w (set w.sessions h.seat (seat_session pin)),
              opening_done w h.seat (found old w h.seat None is shows h.is_for.0 free.0)
                  ∙ ap (λ n. Some (with_sessions w (set w.sessions h.seat (Holding (record { pin = n; settled = true; version = n })))))
                  (same_count old.desk w shows.desk),
              seat_shown old w h.seat (count_at old.counts h.seat + 1) pin (Some old.desk.last) is refl shows,
            ))
      ]),
    )

-- A release

once_follows : (old new : OwnedView) (number : ℕ) → IsOwned old → ReleasesOnce old number new
    → (seat : ℕ) × IsSeatOf old number seat × Follows old (release_events seat (count_at old.counts seat)) new
once_follows old new number is r =
    let count : ℕ = count_at old.counts r.seat in
    let hold : SessionHold = record { pin = number; settled = true; version = number } in (
      r.seat,
      r.is_of,
      subst (λ (n : OwnedView). Follows old (release_events r.seat count) n) (sym r.new_is)
          (elim (count == 1) as (λ t. Follows old (if t then Release r.seat ∷ [] else [])
          (with_hold old r.seat (if t then None else Some (held_pin number)) (count - 1)
          (if t then None else seat_version old.versions r.seat))) [
            | true ↦ λ w shows. (
              with_sessions w (set w.sessions r.seat Idle),
              closing_done w r.seat hold (found old w r.seat (Some (held_pin number)) is shows r.is_of.0 r.is_of.1),
              seat_shown old w r.seat (count - 1) None None is refl shows,
            )
            | false ↦
                nothing_follows old (with_hold old r.seat (Some (held_pin number)) (count - 1) (seat_version old.versions r.seat)) refl
                (own_again old.board r.seat (Some (held_pin number)) r.is_of.1)
          ]),
    )

pub release_follows : (old new : OwnedView) (hold : Hold) → IsOwned old → IsReleased old hold new → FollowsRelease old hold new
release_follows old new hold is (inl former) = (
  λ before. subst (λ (n : OwnedView). Follows old [] n) (sym former.1) (nothing_follows old old refl refl),
  λ now. absurd (let before = former.0 in omega (arith, before, now)),
)
release_follows old new hold is (inr here) = (
  λ before. absurd (let now = here.0 in omega (arith, before, now)),
  λ now. once_follows old new hold.number is here.1,
)

-- A collection

pub collect_follows : (old new : OwnedView) → IsOwned old → new.board ≡ raised_board (length old.desk.last.batches) old.board
    → SimulatesAt (copied old.desk old.board) old.desk (recycling (copied old.desk old.board) old.desk.pool) new.desk
    → Follows old (collect_events old) new
collect_follows old new is board steps w shows =
    let copy : PinCopy = copied old.desk old.board in
    let made : present_copy w ≡ copy = copy_shown old w is shows in
    let events : List Event = recycling copy old.desk.pool in
    let t : SimulatesIn (floored w) events new.desk = (steps (floored w) (shows_floored old.desk w shows.desk) made).0 in
    let pins : old.board.pins ≡ new.board.pins = sym (ap (λ (b : BoardState). b.pins) board) in
    let sessions : t.after.sessions ≡ map seat_session new.board.pins =
    t.sessions ∙ (shows.sessions ∙ ap (map seat_session) pins) in
    let floor : t.after.floor ≡ new.board.floor = t.floor ∙ (ap floor_of made ∙ sym (ap (λ (b : BoardState). b.floor) board)) in (
      t.after,
      then_done Floor events w (floored w) t.after refl t.done,
      record {
        desk = t.shown;
        board = board_shown new.board t.after (subst AreSeen pins (owned_seen old is)) floor sessions;
        sessions = sessions;
      },
    )

-- An opening

-- of a world in which nothing is held
pub opening_shown : (d : DeskView) (opening : ℕ) (w : World) → ShowsWorld d w → IsUnheld w → ShowsOwned (opened_owned d opening) w
opening_shown d opening w shown unheld = record {
  desk = shown;
  board = board_shown no_pins w refl unheld.0 unheld.1;
  sessions = unheld.1;
}
