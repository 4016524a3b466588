use Rattle.std.{proofs.Common.{◌≡◌, ℕ, refl, arith}, specs.declared.option.Option.TheVariants.None}
use Rattle.epoch_core.specs.declared.session_states.SessionState.{SessionState, TheVariants.{Idle, Pinned, Holding, Asking}}
use Rattle.epoch_core.{specs.Machine.to_pin, proofs.OneElement.{stepped_past, stays_at}}
use Rattle.epoch_core.proofs.sessions.pin.Goals as goal

pin_stays : (floor : ℕ) (p : SessionState) → (p ≡ Idle → ⊥) → to_pin floor p ≡ None
pin_stays floor Idle away = absurd (away refl)
pin_stays floor (Pinned pin) away = refl
pin_stays floor (Holding hold) away = refl
pin_stays floor (Asking hold inquiry) away = refl

pub returns-then-session-len : goal.returns-then-session-len
returns-then-session-len c =
    stepped_past (to_pin c.args.floor) c.args.sessions.now.items c.args.session (omega arith)

pub returns-in_default : goal.returns-in_default
returns-in_default c =
    stays_at (to_pin c.args.floor) c.args.sessions.now.items c.args.session c.index.result.now (omega arith) c.index.ensures
    (pin_stays c.args.floor c.index.result.now c.in_default.not-Idle)
