use Rattle.std.{proofs.Common.{◌≡◌, ℕ, refl, arith}, specs.declared.option.Option.TheVariants.None}
use Rattle.epoch_core.specs.declared.session_states.{Hold.Hold, SessionState.SessionState}
use Rattle.epoch_core.specs.declared.session_states.SessionState.TheVariants.{Idle, Pinned, Holding, Asking}
use Rattle.epoch_core.{specs.Machine.to_release, proofs.OneElement.stepped_past, proofs.OneElement.stays_at}
use Rattle.epoch_core.proofs.sessions.release.Goals as goal

release_stays : (p : SessionState) → ((pin : ℕ) → p ≡ Pinned pin → ⊥) → ((hold : Hold) → p ≡ Holding hold → ⊥)
    → to_release p ≡ None
release_stays Idle not_pinned not_holding = refl
release_stays (Pinned pin) not_pinned not_holding = absurd (not_pinned pin refl)
release_stays (Holding hold) not_pinned not_holding = absurd (not_holding hold refl)
release_stays (Asking hold inquiry) not_pinned not_holding = refl

pub returns-then-session-len : goal.returns-then-session-len
returns-then-session-len c =
    stepped_past to_release c.args.sessions.now.items c.args.session (omega arith)

pub returns-in_default : goal.returns-in_default
returns-in_default c =
    stays_at to_release c.args.sessions.now.items c.args.session c.index.result.now (omega arith) c.index.ensures
    (release_stays c.index.result.now c.in_default.not-Pinned c.in_default.not-Holding)
