use Rattle.std.proofs.Common.{◌≡◌, refl, sym, subst, arith}
use Rattle.std.{specs.Prelude.MatchOption, specs.Option.option_and_then, proofs.lemmas.Option.slice_get_past}
use Rattle.epoch_core.{specs.Machine.{IsAnswered, question_in, to_reply}, proofs.OneElement.stepped_past}
use Rattle.epoch_core.proofs.replying.reply.Goals as goal

pub returns-then-session-len-clause-moved : goal.returns-then-session-len-clause-moved
returns-then-session-len-clause-moved c =
    stepped_past (to_reply c.args.opening.now c.args.versions.now) c.args.sessions.now.items c.args.session (omega arith)

pub returns-then-session-len-clause-answered : goal.returns-then-session-len-clause-answered
returns-then-session-len-clause-answered c =
    subst (λ o. MatchOption (option_and_then (question_in c.args.opening.now c.args.versions.now) o)
    (c.args.replies.now.items ≡ c.args.replies.now.items)
    (λ q. IsAnswered c.args.session q c.args.replies.now.items c.args.replies.now.items))
    (sym (slice_get_past c.args.sessions.now.items c.args.session (omega arith))) refl
