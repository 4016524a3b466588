-- Each event keeps what is sound: the floor rises, and sessions move.
use Rattle.std.proofs.Common.{◌≡◌, ◌≢◌, ℕ, ◌<◌, ◌≤◌, Bool, true, false, not, inl, inr, List, ◌++◌, length, map}
use Rattle.std.proofs.{Common.{replicate, get_or, set, refl, sym, ap, subst, ◌∙◌, arith, ◌-◌, IfSome}, lemmas.Grind.common_steps}
use Rattle.std.proofs.lemmas.{Option.{slice_get_within, get_or_from_slice_get}, List.{get_or-set_same, get_or-set_other}}
use Rattle.std.{proofs.{lemmas.Bool.cases_eq, Math.ListN.get_or-map}, specs.Prelude.slice_get}
use Rattle.std.specs.declared.option.Option.{Option, TheVariants.{None, Some}}
use Rattle.graph_types.specs.declared.{requests.Request.Request}
use Rattle.epoch_core.specs.declared.session_states.{Hold.Hold, SessionState.{SessionState, TheVariants.{Idle, Pinned, Holding}}}
use Rattle.epoch_core.specs.{declared.session_states.SessionState.TheVariants.Asking, Worlds.{World, last_number, pin_in}}
use Rattle.epoch_core.specs.{Worlds.{session_of, settled_in, present_copy, seat_pin, seat_pins}, Machine.{to_release, to_reply}}
use Rattle.epoch_core.specs.Machine.{to_settle, with_sessions, move, read_on, settled_at, to_ask, to_enter, to_pin, to_read}
use Rattle.epoch_core.specs.{Versions.{blocks_at, edges_at}, Sound.{IsCovered, IsHeld, IsSessionSound, IsSound}}
use Rattle.epoch_core.{specs.Worlds.unsettled_in, proofs.Keeping.Carries, proofs.Keeping.carry, proofs.Keeping.named_still}
use Rattle.epoch_core.proofs.Lists.{ChangedAt, changed_at-some}
use Rattle.block_reclamation.specs.declared.copies.{Pin.Pin, PinCopy.PinCopy, TheConstants.SEATS}
use Rattle.block_reclamation.specs.Copies.{floor_of, needs, number_if, pin_at, settled_number, unsettled_number}
use Rattle.block_reclamation.proofs.{Least.settled_needed, Least.unsettled_needed, Copied.floor_is_least}
use Rattle.block_reclamation.proofs.SeatPins.{below_pin}
use Rattle.graph_types.proofs.{Cases.option_map_some, Joined.one_piece_more}

-- a session's pin is that of its seat
seated : (sessions : List SessionState) (k s : ℕ) → pin_at (map seat_pin sessions ++ replicate k None) s
    ≡ seat_pin (get_or sessions s Idle)
seated sessions k s = grind (arith, common_steps)

pub seated_at : (w : World) (s : ℕ) → pin_at (seat_pins w.sessions) s ≡ seat_pin (session_of w s)
seated_at w s = seated w.sessions (SEATS - length w.sessions) s

-- the floor
abbrev pub present_floor : World → ℕ
present_floor w = floor_of (present_copy w)

pub floor_first : (w : World) → present_floor w ≤ last_number w
floor_first w = let least = floor_is_least (last_number w) (seat_pins w.sessions) in least.below_last

floor_each : (w : World) (s pin : ℕ) → pin_in (session_of w s) ≡ Some pin → present_floor w ≤ pin
floor_each w s pin is =
    let least = floor_is_least (last_number w) (seat_pins w.sessions) in
    below_pin (seat_pin (session_of w s)) pin (present_floor w) is
    (subst (λ (o : Option Pin). IfSome o (λ p. present_floor w ≤ p.number)) (seated_at w s) (least.below_pins s))

-- the world after a Floor
abbrev pub floored : World → World
floored w = record w { floor = present_floor w; copy = present_copy w }

-- a session's pin is among those of the copy
copied : (w : World) (number : Option Pin → Option ℕ) (s n : ℕ) → number None ≡ None → number (seat_pin (session_of w s)) ≡ Some n
    → get_or (map number (seat_pins w.sessions)) s None ≡ Some n
copied w number s n none is =
    ap (get_or (map number (seat_pins w.sessions)) s) (sym none) ∙ get_or-map number (seat_pins w.sessions) s None
    ∙ ap number (seated_at w s) ∙ is

pub settled_needs : (w : World) (s pin birth retirement : ℕ) → settled_in (session_of w s) ≡ Some pin → birth ≤ pin
    → pin < retirement → needs (present_copy w) birth retirement ≡ true
settled_needs w s pin birth retirement is low high =
    settled_needed (present_copy w) birth retirement s pin (copied w settled_number s pin refl is) low high

pub unsettled_needs : (w : World) (s pin birth retirement : ℕ) → unsettled_in (session_of w s) ≡ Some pin → pin < retirement
    → needs (present_copy w) birth retirement ≡ true
unsettled_needs w s pin birth retirement is high =
    unsettled_needed (present_copy w) birth retirement s pin (copied w unsettled_number s pin refl is) high

-- the copy of the pins as they stand needs each block that a holder keeps
covers : (w : World) (s : ℕ) (hold : Hold) (told : Bool) → hold.settled ≡ told
    → settled_in (session_of w s) ≡ number_if hold.settled hold.pin
    → unsettled_in (session_of w s) ≡ number_if (not hold.settled) hold.pin → IsHeld w hold → IsCovered (present_copy w) hold.version
covers w s hold true is in_settled in_unsettled h = λ birth retirement low high.
    let same : hold.pin ≡ hold.version = h.settled is in
    settled_needs w s hold.pin birth retirement (in_settled ∙ ap (λ t. number_if t hold.pin) is) (omega (arith, same, low))
    (omega (arith, same, high))
covers w s hold false is in_settled in_unsettled h = λ birth retirement low high.
    unsettled_needs w s hold.pin birth retirement (in_unsettled ∙ ap (λ t. number_if (not t) hold.pin) is)
    (omega (arith, h.pin_held, high))

refloored : (w : World) (hold : Hold) → present_floor w ≤ hold.pin
    → IsCovered (present_copy w) hold.version → IsHeld w hold → IsHeld (floored w) hold
refloored w hold low covered h = grind (arith, common_steps)

session_floored : (w : World) (s : ℕ) (session : SessionState) → session_of w s ≡ session
    → ((pin : ℕ) → pin_in session ≡ Some pin → present_floor w ≤ pin) → IsSessionSound w session
    → IsSessionSound (floored w) session
session_floored w s Idle at low p = tt
session_floored w s (Pinned pin) at low p = (low pin refl, p.1)
session_floored w s (Holding hold) at low p =
    refloored w hold (low hold.pin refl) (covers w s hold hold.settled refl (ap settled_in at) (ap unsettled_in at) p) p
session_floored w s (Asking hold inquiry) at low p = (
  refloored w hold (low hold.pin refl) (covers w s hold hold.settled refl (ap settled_in at) (ap unsettled_in at) p.0) p.0,
  p.1,
)

-- beside blocks and versions, a world is sound by its floor, its copy and its sessions
sound_beside : (w : World) (floor : ℕ) (copy : PinCopy) (sessions : List SessionState) → IsSound w → floor ≤ last_number w
    → copy.last ≤ last_number w → ((s : ℕ)
    → let new : World = record w { floor = floor; copy = copy; sessions = sessions } in IsSessionSound new (session_of new s))
    → IsSound (record w { floor = floor; copy = copy; sessions = sessions })
sound_beside w floor copy sessions sound low copied held = record {
  floor_last = low;
  copy_last = copied;
  used = sound.used;
  dated = sound.dated;
  listed = sound.listed;
  listed_once = sound.listed_once;
  shown = sound.shown;
  named = named_still w w.heap w.status floor copy sessions sound;
  sessions = held;
  sizes = sound.sizes;
}

pub sound_floor : (w : World) → IsSound w → IsSound (floored w)
sound_floor w sound = sound_beside w (present_floor w) (present_copy w) w.sessions sound (floor_first w) (omega arith)
    (λ s. session_floored w s (session_of w s) refl (floor_each w s) (sound.sessions s))

-- sessions
carries_sessions : (w : World) (sessions : List SessionState) → Carries w (with_sessions w sessions)
carries_sessions w sessions = grind (arith, common_steps)

-- what a move that is done says
pub record Moved (w : World) (s : ℕ) (change : SessionState → Option SessionState) (after : World) : Type 0 where
  pub session : SessionState
  pub next : SessionState
  pub at : session_of w s ≡ session
  pub found : slice_get w.sessions s ≡ Some session
  pub changed : change session ≡ Some next
  pub result : after ≡ with_sessions w (set w.sessions s next)

pub moved : (w : World) (s : ℕ) (change : SessionState → Option SessionState) (after : World) → move w s change ≡ Some after
    → Moved w s change after
moved w s change after is =
    let whole = option_map_some (with_sessions w) _ after is in
    let c : ChangedAt change w.sessions s whole.0 = changed_at-some change w.sessions s whole.0 whole.1 in
    record {
      session = c.before;
      next = c.after;
      at = get_or_from_slice_get w.sessions s c.before Idle c.found;
      found = c.found;
      changed = c.changed;
      result = whole.2 ∙ ap (with_sessions w) c.result;
    }

pub session_after : (w : World) (s : ℕ) (session next : SessionState) → slice_get w.sessions s ≡ Some session
    → session_of (with_sessions w (set w.sessions s next)) s ≡ next
session_after w s session next found = let lt : s < length w.sessions =
    slice_get_within w.sessions s session found in get_or-set_same w.sessions s next Idle lt

pub session_else : (w : World) (s t : ℕ) (next : SessionState) → t ≢ s
    → session_of (with_sessions w (set w.sessions s next)) t ≡ session_of w t
session_else w s t next ne = get_or-set_other w.sessions s t next Idle ne

-- a change of session that keeps what is known of it
abbrev pub KeepsSession : World → (SessionState → Option SessionState) → Type 0
KeepsSession w change = (session next : SessionState) → IsSessionSound w session → change session ≡ Some next
    → IsSessionSound w next

sound_sessions : (w : World) (s : ℕ) (session next : SessionState) → IsSound w → slice_get w.sessions s ≡ Some session
    → IsSessionSound w next → IsSound (with_sessions w (set w.sessions s next))
sound_sessions w s session next sound found known =
    sound_beside w w.floor w.copy (set w.sessions s next) sound sound.floor_last sound.copy_last
    (λ t. carry w (with_sessions w (set w.sessions s next)) (session_of (with_sessions w (set w.sessions s next)) t)
    (carries_sessions w (set w.sessions s next))
    (elim (cases_eq t s) [
      | inl e ↦ subst (IsSessionSound w) (sym (ap (session_of (with_sessions w (set w.sessions s next))) e
          ∙ session_after w s session next found)) known
      | inr ne ↦ subst (IsSessionSound w) (sym (session_else w s t next ne)) (sound.sessions t)
    ]))

pub sound_move : (w : World) (s : ℕ) (change : SessionState → Option SessionState) (after : World) → IsSound w
    → KeepsSession w change → move w s change ≡ Some after → IsSound after
sound_move w s change after sound keeps is =
    let m : Moved w s change after = moved w s change after is in
    let known : IsSessionSound w m.next = keeps m.session m.next (subst (IsSessionSound w) m.at (sound.sessions s)) m.changed in
    subst IsSound (sym m.result) (sound_sessions w s m.session m.next sound m.found known)

pub keeps_pin : (w : World) → IsSound w → KeepsSession w (to_pin w.floor)
keeps_pin w sound h next p is = grind (arith, common_steps)

pub keeps_enter : (w : World) → IsSound w → KeepsSession w (to_enter (last_number w))
keeps_enter w sound h next p is = grind (arith, common_steps)

settles : (w : World) (hold : Hold) → IsHeld w hold → IsHeld w (settled_at hold)
settles w hold h = grind (arith, common_steps)

pub keeps_settle : (w : World) → KeepsSession w to_settle
keeps_settle w h next p is = grind (arith, common_steps, settles)

pub keeps_ask : (w : World) (request : Request) → KeepsSession w (to_ask request)
keeps_ask w request h next p is = grind (arith, common_steps)

pub keeps_read : (w : World) → KeepsSession w (to_read w.opening w.heap w.versions)
keeps_read w Idle next p is = cc
keeps_read w (Pinned pin) next p is = cc
keeps_read w (Holding hold) next p is = cc
keeps_read w (Asking hold inquiry) next p is =
    let b = option_map_some (λ b. Asking hold (read_on w.heap inquiry b))
    (slice_get (blocks_at w.opening w.versions hold.version) inquiry.next) next is in
    subst (IsSessionSound w) (sym b.2) (
      p.0,
      ap (λ es. es ++ edges_at w.heap b.0) p.1
          ∙ one_piece_more (edges_at w.heap) (blocks_at w.opening w.versions hold.version) inquiry.next b.0 b.1,
    )

pub keeps_reply : (w : World) → KeepsSession w (to_reply w.opening w.versions)
keeps_reply w h next p is = grind (arith, common_steps)

pub keeps_release : (w : World) → KeepsSession w to_release
keeps_release w h next p is = grind (arith, common_steps)
