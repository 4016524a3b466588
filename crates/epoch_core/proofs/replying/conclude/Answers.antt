use Rattle.std.{proofs.Common.{◌≡◌, List, refl, arith}, specs.declared.option.Option.TheVariants.None}
use Rattle.epoch_core.specs.declared.{states.{Opening.Opening, Version.Version}, session_states.{Hold.Hold, Inquiry.Inquiry}}
use Rattle.epoch_core.specs.declared.session_states.SessionState.{SessionState, TheVariants.{Idle, Pinned, Holding, Asking}}
use Rattle.epoch_core.{specs.Machine.to_reply, proofs.OneElement.{stepped_past, stays_at}}
use Rattle.epoch_core.proofs.replying.conclude.Goals as goal

reply_stays : (o : Opening) (versions : List Version) (p : SessionState)
    → ((hold : Hold) (inquiry : Inquiry) → p ≡ Asking hold inquiry → ⊥) → to_reply o versions p ≡ None
reply_stays o versions Idle not_asking = refl
reply_stays o versions (Pinned pin) not_asking = refl
reply_stays o versions (Holding hold) not_asking = refl
reply_stays o versions (Asking hold inquiry) not_asking = absurd (not_asking hold inquiry refl)

pub returns-then-session-len : goal.returns-then-session-len
returns-then-session-len c =
    stepped_past (to_reply c.args.opening.now c.args.versions.now) c.args.sessions.now.items c.args.session (omega arith)

pub returns-in_default : goal.returns-in_default
returns-in_default c =
    stays_at (to_reply c.args.opening.now c.args.versions.now) c.args.sessions.now.items c.args.session
    c.index.result.now (omega arith) c.index.ensures
    (reply_stays c.args.opening.now c.args.versions.now c.index.result.now c.in_default.not-Asking)
