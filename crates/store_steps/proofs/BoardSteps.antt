-- The board's calls are the machine's steps.
use Rattle.std.proofs.Common.{◌≡◌, ℕ, ◌<◌, ◌≤◌, List, length, true, sym, ap, ◌∙◌, arith}
use Rattle.std.proofs.lemmas.Bool.{cases_eq}
use Rattle.std.proofs.lemmas.List.{get_or-set_same, get_or-set_other, length-map, length-replicate}
use Rattle.std.{proofs.lemmas.Grind.common_steps, specs.Prelude.{Option, Some, option_map}}
use Rattle.block_reclamation.specs.{declared.copies.{Pin.Pin, PinCopy.PinCopy, TheConstants.SEATS}, Board.{BoardState, IsBoard}}
use Rattle.block_reclamation.specs.{Board.with_pin, Copies.{pin_at, unsettled, settled, copy_of}}
use Rattle.graph_types.proofs.ListPlaces.{same_elements}
use Rattle.epoch_core.specs.{declared.session_states.SessionState.SessionState, Machine.to_pin, Machine.to_settle}
use Rattle.epoch_core.specs.Worlds.{World, session_of, seat_pin, seat_pins, held_in, last_number, present_copy}
use Rattle.epoch_core.proofs.Moves.{Moved, moved, floored, seated_at, session_after, session_else}
use Rattle.epoch_core.proofs.SessionSteps.{pin_next, pin_settled, settle_next}
use Rattle.store_steps.specs.{Desks.DeskView, Shown.ShowsWorld}
use Rattle.store_steps.specs.Boards.{RaisesAsMachine, ShowsBoard, PinsAsMachine, SettlesAsMachine, UnpinsAsMachine}

-- a desk shows no session, no floor and no copy
shows_beside : (d : DeskView) (w : World) (floor : ℕ) (copy : PinCopy) (sessions : List SessionState) → ShowsWorld d w
    → ShowsWorld d (record w { floor = floor; copy = copy; sessions = sessions })
shows_beside d w floor copy sessions shown = grind (arith, common_steps)

pub shows_sessions : (d : DeskView) (w : World) (sessions : List SessionState) → ShowsWorld d w
    → ShowsWorld d (record w { sessions = sessions })
shows_sessions d w sessions shown = shows_beside d w w.floor w.copy sessions shown

pub shows_floored : (d : DeskView) (w : World) → ShowsWorld d w → ShowsWorld d (floored w)
shows_floored d w shown = shows_beside d w (floored w).floor (floored w).copy w.sessions shown

-- a session's move, and its pin's
moves : (b : BoardState) (w : World) (s : ℕ) (change : SessionState
    → Option SessionState) (after : World) (pin : Option Pin) → IsBoard b → s < SEATS → ShowsBoard b w
    → Moved w s change after → ((session next : SessionState) → session_of w s ≡ session → change session ≡ Some next
    → seat_pin next ≡ pin)
    → ShowsBoard (with_pin b s pin) after × ((d : DeskView) → ShowsWorld d w → ShowsWorld d after) × (after.copy ≡ w.copy)
moves b w s change after pin board low shows m says =
    grind (arith, common_steps, cases_eq, session_after, get_or-set_same, session_else, get_or-set_other, shows_sessions)

pub pins_as_machine : PinsAsMachine
pins_as_machine b w s board low shows after is =
    moves b w s (to_pin w.floor) after (Some (unsettled b.floor)) board low shows (moved w s (to_pin w.floor) after is)
    (λ session next at changed. pin_next w.floor session next changed ∙ ap (λ f. Some (unsettled f)) shows.floor)

pub unpins_as_machine : UnpinsAsMachine
unpins_as_machine b w s board low shows after is = grind (arith, common_steps)

pub settles_as_machine : SettlesAsMachine
settles_as_machine b w s n board low shows held below after is =
    let up : option_map (settled n) (pin_at b.pins s) ≡ Some (record { number = n; is_settled = true }) =
    ap (option_map (settled n)) (sym (shows.pins s)) ∙ pin_settled (session_of w s) n held below in
    moves b w s to_settle after (option_map (settled n) (pin_at b.pins s)) board low shows (moved w s to_settle after is)
    (λ session next at changed. settle_next session next n (ap held_in (sym at) ∙ held) changed ∙ sym up)

-- The copy of the pins: the board's is the machine's

-- the board's pins are the machine's
pins_same : (b : BoardState) (w : World) → IsBoard b → length w.sessions ≤ SEATS → ShowsBoard b w → seat_pins w.sessions ≡ b.pins
pins_same b w board few shows = grind (arith, common_steps, length-map, length-replicate, same_elements, seated_at)

pub copies_same : (b : BoardState) (w : World) → IsBoard b → length w.sessions ≤ SEATS → ShowsBoard b w
    → present_copy w ≡ copy_of (last_number w) b.pins
copies_same b w board few shows = ap (copy_of (last_number w)) (pins_same b w board few shows)

pub raises_as_machine : RaisesAsMachine
raises_as_machine b w board few shows after is = grind (arith, common_steps, floored, copies_same, shows_floored)
