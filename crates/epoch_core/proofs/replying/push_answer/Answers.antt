use Rattle.std.proofs.{Common.{[], ◌∷◌, ◌++◌, set, ap, ◌∙◌, arith}, lemmas.List.get_or_read}
use Rattle.epoch_core.proofs.replying.push_answer.Goals as goal

pub returns-clause-added : goal.returns-clause-added
returns-clause-added c =
    ap (set c.args.replies.now.items c.args.session) (c.in_ok-push_to.ensures.added ∙ ap (λ xs. xs ++ c.args.answer ∷ [])
    (get_or_read c.args.replies.now.items c.args.session c.index_mut.result.now (omega arith) c.index_mut.ensures.value []))
