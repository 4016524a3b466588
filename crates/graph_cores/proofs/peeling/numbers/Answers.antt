use Rattle.std.proofs.Common.{◌≡◌, ◌+◌, ◌++◌, ◌∷◌, [], length, arith, ap, ◌∙◌, inl, inr}
use Rattle.std.proofs.lemmas.{Bool.cases_eq, List.{length-append, get_or_append_left, get_or_push}}
use Rattle.graph_types.specs.Arcs.{at}
use Rattle.graph_cores.proofs.peeling.numbers.Goals as goal

pub loop-number-init : goal.loop-number-init
loop-number-init c = record { long = ap length c.in_ok-numbers.ensures.items; each = λ v lt. absurd (omega arith) }

pub loop-number-preserved : goal.loop-number-preserved
loop-number-preserved c =
    let before = c.loop-number.numbers.items in
    let n = c.loop-number.number in
    let long = c.loop-number.invariant.long in
    let pushed : c.push.new.self.items ≡ before ++ n ∷ [] = c.in_ok-push.ensures.items in
    record {
      long = ap length pushed ∙ length-append before (n ∷ []) ∙ ap (λ k. k + 1) long;
      each = λ v lt. ap (λ xs. at xs v) pushed ∙ elim (cases_eq v n) [
        | inl same ↦ get_or_push before n 0 v (omega arith) ∙ omega arith
        | inr other ↦ get_or_append_left before (n ∷ []) 0 v (omega arith) ∙ c.loop-number.invariant.each v (omega arith)
      ];
    }

pub returns : goal.returns
returns c =
    let long = c.loop-number.invariant.long in
    record { long = omega arith; each = λ v lt. c.loop-number.invariant.each v (omega arith) }
