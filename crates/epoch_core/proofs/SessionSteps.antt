-- One session's steps: which state follows, and what the pin is then.
use Rattle.std.proofs.Common.{◌≡◌, ℕ, zero, suc, ◌<◌, ◌≤◌, true, List, [], ◌∷◌, length, get_or, set, inl, inr, refl, ap, ◌∙◌}
use Rattle.std.proofs.{Common.arith, lemmas.{Bool.cases_lt, Grind.common_steps}}
use Rattle.std.specs.{Option.option_and_then, Prelude.{Some, option_map, slice_get}, declared.option.Option.Option}
use Rattle.std.specs.declared.option.Option.TheVariants.{None}
use Rattle.block_reclamation.specs.Copies.{unsettled, settled}
use Rattle.graph_types.specs.declared.requests.Request.{Request}
use Rattle.epoch_core.specs.Blocks.{put_if_some}
use Rattle.epoch_core.specs.Machine.{to_pin, to_settle, to_enter, to_ask, to_reply, to_read, move, with_sessions, step}
use Rattle.epoch_core.specs.{Worlds.{seat_pin, held_in, pin_in, World, session_of}, declared.events.Event.TheVariants.Settle}
use Rattle.epoch_core.specs.declared.session_states.{Hold.Hold, Inquiry.Inquiry, SessionState.SessionState}
use Rattle.epoch_core.specs.declared.session_states.SessionState.TheVariants.{Idle, Pinned, Holding, Asking}
use Rattle.epoch_core.specs.declared.states.{Opening.Opening, Version.Version}

pub pin_next : (floor : ℕ) (session next : SessionState) → to_pin floor session ≡ Some next
    → seat_pin next ≡ Some (unsettled floor)
pin_next floor session next is = grind (arith, common_steps)

-- what a settle that is done leaves
pub settle_next : (session next : SessionState) (n : ℕ) → held_in session ≡ Some n → to_settle session ≡ Some next
    → seat_pin next ≡ Some (record { number = n; is_settled = true })
settle_next session next n held is = grind (arith, common_steps)

-- what the board makes of the pin of a session that holds n
pub pin_settled : (session : SessionState) (n : ℕ) → held_in session ≡ Some n → ((pin : ℕ) → pin_in session ≡ Some pin → pin ≤ n)
    → option_map (settled n) (seat_pin session) ≡ Some (record { number = n; is_settled = true })
pin_settled session n held below = grind (arith, common_steps)

pub idle_not : (pin : ℕ) → Idle ≡ Pinned pin → ⊥
idle_not pin e = cc

pub holding_not : (hold : Hold) (pin : ℕ) → Holding hold ≡ Pinned pin → ⊥
holding_not hold pin e = cc

pub asking_not : (hold : Hold) (inquiry : Inquiry) (pin : ℕ) → Asking hold inquiry ≡ Pinned pin → ⊥
asking_not hold inquiry pin e = cc

pub holding_not_idle : (hold : Hold) → Holding hold ≡ Idle → ⊥
holding_not_idle hold e = cc

pub pinned_not_idle : (pin : ℕ) → Pinned pin ≡ Idle → ⊥
pinned_not_idle pin e = cc

pub keeps_enter : (last : ℕ) (session next : SessionState) → to_enter last session ≡ Some next → seat_pin next ≡ seat_pin session
keeps_enter last session next is = grind (arith, common_steps)

pub keeps_ask : (request : Request) (session next : SessionState) → to_ask request session ≡ Some next
    → seat_pin next ≡ seat_pin session
keeps_ask request session next is = grind (arith, common_steps)

pub keeps_reply : (o : Opening) (versions : List Version) (session next : SessionState) → to_reply o versions session ≡ Some next
    → seat_pin next ≡ seat_pin session
keeps_reply o versions session next is = grind (arith, common_steps)

pub keeps_reading : (w : World) (session next : SessionState) → to_read w.opening w.heap w.versions session ≡ Some next
    → seat_pin next ≡ seat_pin session
keeps_reading w session next is = grind (arith, common_steps)

pub changed_to : (w : World) (s : ℕ) (change : SessionState → Option SessionState) (session next : SessionState)
    → slice_get w.sessions s ≡ Some session → change session ≡ Some next
    → move w s change ≡ Some (with_sessions w (set w.sessions s next))
changed_to w s change session next found is =
    ap (λ o. option_map (with_sessions w) (put_if_some w.sessions s (option_and_then change o))) found
    ∙ ap (λ o. option_map (with_sessions w) (put_if_some w.sessions s o)) is

pub move_done : (w : World) (s : ℕ) (change : SessionState → Option SessionState) (session next : SessionState)
    → slice_get w.sessions s ≡ Some session → change session ≡ Some next → (after : World) × (move w s change ≡ Some after)
move_done w s change session next found is = (
  with_sessions w (set w.sessions s next),
  ap (λ o. option_map (with_sessions w) (put_if_some w.sessions s (option_and_then change o))) found
      ∙ ap (λ o. option_map (with_sessions w) (put_if_some w.sessions s o)) is,
)

pub idle_if : (session : SessionState) → seat_pin session ≡ None → session ≡ Idle
idle_if session is = grind (arith, common_steps)

held_settles : (session : SessionState) (n : ℕ) → held_in session ≡ Some n
    → (next : SessionState) × (to_settle session ≡ Some next)
held_settles Idle n held = cc
held_settles (Pinned pin) n held = cc
held_settles (Holding hold) n held = (Holding (record { pin = hold.version; settled = true; version = hold.version }), refl)
held_settles (Asking hold inquiry) n held = (
  Asking (record {
    pin = hold.version;
    settled = true;
    version = hold.version;
  }) inquiry,
  refl,
)

found_at : (xs : List SessionState) (s n : ℕ) → held_in (get_or xs s Idle) ≡ Some n → slice_get xs s ≡ Some (get_or xs s Idle)
found_at [] s n held = cc
found_at (x ∷ xs) zero n held = refl
found_at (x ∷ xs) (suc s) n held = found_at xs s n held

pub settle_done : (w : World) (s n : ℕ) → held_in (session_of w s) ≡ Some n → (after : World) × (step w (Settle s) ≡ Some after)
settle_done w s n held =
    let next = held_settles (session_of w s) n held in
    move_done w s to_settle (session_of w s) next.0 (found_at w.sessions s n held) next.1

pub held_entered : (last : ℕ) (session next : SessionState) → to_enter last session ≡ Some next → held_in next ≡ Some last
held_entered last session next is = grind (arith, common_steps)

beyond : (xs : List SessionState) (s : ℕ) → length xs ≤ s → get_or xs s Idle ≡ Idle
beyond xs s high = grind (arith, common_steps)

-- a session that isn't idle is one
pub within : (w : World) (seat : ℕ) → (session_of w seat ≡ Idle → ⊥) → seat < length w.sessions
within w seat busy =
    elim (cases_lt seat (length w.sessions)) [
      | inl low ↦ low
      | inr high ↦ absurd (busy (beyond w.sessions seat high))
    ]
