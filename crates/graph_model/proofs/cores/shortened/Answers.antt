use Rattle.std.proofs.{Common.{◌∙◌, ◌++◌, ◌∷◌, [], ap, sym, get_or, arith, rules}, lemmas.List.{take_all, take_more}}
use Rattle.graph_model.proofs.cores.shortened.Goals as goal

-- Their searches are long.

pub returns-in_err-short : goal.returns-in_err-short
returns-in_err-short c = search rules

pub loop-number-init : goal.loop-number-init
loop-number-init c = c.in_ok-short.ensures.items

pub overflow_cast-number : goal.overflow_cast-number
overflow_cast-number c = omega (arith, c.requires c.loop-number.number-index 0 c.loop-number-test.true)

pub returns-in_err-push : goal.returns-in_err-push
returns-in_err-push c = search rules

pub loop-number-preserved : goal.loop-number-preserved
loop-number-preserved c =
    c.in_ok-push.ensures.items
    ∙ ap (λ xs. xs ++ get_or c.args.numbers.now c.loop-number.number-index 0 ∷ []) c.loop-number.invariant
    ∙ sym (take_more c.args.numbers.now c.loop-number.number-index 0 c.loop-number-test.true)

pub returns : goal.returns
returns c = c.loop-number.invariant ∙ take_all c.loop-number.number-index c.args.numbers.now (omega arith)
