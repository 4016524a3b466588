use Rattle.std.proofs.Common.{◌≡◌, ◌<◌, ◌≤◌, ◌+◌, List, ℕ, sym, ap, subst, ◌∙◌, arith}
use Rattle.std.proofs.lemmas.List.{get_or_past}
use Rattle.owned_desk.specs.Touched.{AreTouchedBelow, number_at}
use Rattle.owned_desk.proofs.SinceNumbers.{none_since, one_since}
use Rattle.owned_desk.proofs.touched.push_since.Goals as goal
use Rattle.owned_desk.proofs.touched.push_since.Goals.{then-from-number+in_ok-push, else-from-number}

pub loop-source-preserved : goal.loop-source-preserved
loop-source-preserved c =
    let numbers : List ℕ = c.args.numbers.now in
    let number : ℕ = c.args.number in
    let i : ℕ = c.loop-source.source in
    let at : c.from.result ≡ number_at numbers i = c.from.ensures in
    elim c.if-from-number.branch [
      | then-from-number+in_ok-push w ↦
          (let items = ap (λ v. v.items) w.sources-is ∙ w.in_ok-push.ensures.items in
          let more : number < number_at numbers i = (let m = w.if-from-number.true in omega (arith, m, at)) in
          subst (AreTouchedBelow (i + 1) number numbers) (sym items)
          (one_since i number numbers c.loop-source.sources.items more c.loop-source.invariant))
      | else-from-number w ↦
          (let less : number_at numbers i ≤ number = (let m = w.if-from-number.false in omega (arith, m, at)) in
          subst (λ v. AreTouchedBelow (i + 1) number numbers v.items) (sym w.sources-is)
          (none_since i (i + 1) number numbers c.loop-source.sources.items (omega arith) (λ s from to.
          let here : s ≡ i = omega (arith, from, to) in subst (λ n. number_at numbers n ≤ number) (sym here) less) c.loop-source.invariant))
    ]

pub returns : goal.returns
returns c =
    let numbers : List ℕ = c.args.numbers.now in
    let i : ℕ = c.loop-source.source in
    none_since i (c.args.from + 64) c.args.number numbers c.loop-source.sources.items
    (omega (arith, c.loop-source-test.false, c.loop-source.auto.source-end, c.max-end.ensures, c.min.ensures, c.saturating_add.ensures))
    (λ s from to.
    let zero = get_or_past numbers s 0
    (omega (arith, c.loop-source-test.false, c.max-end.ensures, c.min.ensures, c.saturating_add.ensures, from, to)) in
    omega (arith, zero)) c.loop-source.invariant
