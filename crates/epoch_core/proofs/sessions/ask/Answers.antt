use Rattle.std.{proofs.Common.{◌≡◌, refl, arith}, specs.declared.option.Option.TheVariants.None}
use Rattle.graph_types.specs.declared.requests.Request.{Request}
use Rattle.epoch_core.specs.declared.session_states.{Hold.Hold, SessionState.SessionState}
use Rattle.epoch_core.specs.declared.session_states.SessionState.TheVariants.{Idle, Pinned, Holding, Asking}
use Rattle.epoch_core.{specs.Machine.to_ask, proofs.OneElement.stepped_past, proofs.OneElement.stays_at}
use Rattle.epoch_core.proofs.sessions.ask.Goals as goal

ask_stays : (request : Request) (p : SessionState) → ((hold : Hold) → p ≡ Holding hold → ⊥) → to_ask request p ≡ None
ask_stays request Idle not_holding = refl
ask_stays request (Pinned pin) not_holding = refl
ask_stays request (Holding hold) not_holding = absurd (not_holding hold refl)
ask_stays request (Asking hold inquiry) not_holding = refl

pub returns-then-session-len-clause-asked : goal.returns-then-session-len-clause-asked
returns-then-session-len-clause-asked c =
    stepped_past (to_ask c.args.request.now) c.args.sessions.now.items c.args.session (omega arith)

pub returns-in_default-clause-asked : goal.returns-in_default-clause-asked
returns-in_default-clause-asked c =
    stays_at (to_ask c.args.request.now) c.args.sessions.now.items c.args.session c.index.result.now (omega arith) c.index.ensures
    (ask_stays c.args.request.now c.index.result.now c.in_default.not-Holding)
