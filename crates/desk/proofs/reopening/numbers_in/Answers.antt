use Rattle.std.proofs.Common.{ℕ, List, [], ◌∷◌, ◌++◌, ◌∙◌, ap, sym, append_assoc}
use Rattle.std.proofs.lemmas.List.{append-nil}
use Rattle.graph_version.specs.Lending.{numbers_left}
use Rattle.desk.proofs.reopening.numbers_in.Goals as goal

pub loop-number-init : goal.loop-number-init
loop-number-init c =
    ap (λ (ns : List ℕ). ns ++ numbers_left c.into_iter-number-iterator.result) c.in_ok-numbers.ensures.items
    ∙ ap numbers_left c.into_iter-number-iterator.ensures.into_iter_gives ∙ c.blocks-number-items.ensures

pub loop-number-preserved : goal.loop-number-preserved
loop-number-preserved c =
    let rest = numbers_left c.next.new.self in
    let old = c.loop-number.numbers.items in
    ap (λ (ns : List ℕ). ns ++ rest) c.in_ok-push.ensures.items ∙ append_assoc old (c.in-Some.number ∷ []) rest
    ∙ ap (λ (ns : List ℕ). old ++ ns) (sym c.in-Some.ensures.steps) ∙ c.loop-number.invariant

pub returns : goal.returns
returns c =
    let all = c.loop-number.numbers.items in
    sym (append-nil all) ∙ ap (λ (ns : List ℕ). all ++ ns) (sym c.in-None.ensures.steps.0) ∙ c.loop-number.invariant
