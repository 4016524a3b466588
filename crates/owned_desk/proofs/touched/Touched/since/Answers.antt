use Rattle.std.proofs.Common.{◌≡◌, ◌≤◌, ◌+◌, ◌*◌, ◌/◌, List, ℕ, length, sym, ap, subst, ◌∙◌, arith}
use Rattle.std.proofs.lemmas.List.{get_or_past}
use Rattle.owned_desk.specs.Touched.{AreTouchedBelow, number_at}
use Rattle.owned_desk.proofs.SinceNumbers.{all_since, none_since}
use Rattle.owned_desk.proofs.touched.Touched.since.Goals as goal
use Rattle.owned_desk.proofs.touched.Touched.since.Goals.{then-from-number+in_ok-push_since, else-from-number}

pub loop-group-preserved : goal.loop-group-preserved
loop-group-preserved c =
    let numbers : List ℕ = c.args.self.now in
    let bounds : List ℕ = c.self.inside.bounds.items in
    let number : ℕ = c.args.number in
    let g : ℕ = c.loop-group.group in
    let next : g * 64 + 64 ≡ (g + 1) * 64 = omega arith in
    let same : c.deref-bound-items.result.now ≡ bounds = c.deref-bound-items.ensures.value in
    let at : c.from.result ≡ number_at bounds g = c.from.ensures ∙ ap (λ (ns : List ℕ). number_at ns g) same in
    elim c.if-from-number.branch [
      | then-from-number+in_ok-push_since w ↦
          subst (λ v. AreTouchedBelow ((g + 1) * 64) number numbers v.items) (sym w.sources-is)
          (subst (λ n. AreTouchedBelow n number numbers w.push_since.new.sources.items) next
          (subst (λ (ns : List ℕ). AreTouchedBelow (g * 64 + 64) number ns w.push_since.new.sources.items)
          (w.as_slice.ensures.value ∙ c.self.view_is) w.in_ok-push_since.ensures))
      | else-from-number w ↦
          (let less : number_at bounds g ≤ number = (let m = w.if-from-number.false in omega (arith, m, at)) in
          subst (λ v. AreTouchedBelow ((g + 1) * 64) number numbers v.items) (sym w.sources-is)
          (none_since (g * 64) ((g + 1) * 64) number numbers c.loop-group.sources.items (omega arith) (λ s from to.
          let here : s / 64 ≡ g = omega (arith, from, to) in
          let bound : number_at numbers s ≤ number_at bounds (s / 64) =
          subst (λ (ns : List ℕ). number_at ns s ≤ number_at bounds (s / 64)) c.self.view_is (c.self.invariant.2 s) in
          let same : number_at bounds (s / 64) ≡ number_at bounds g = ap (number_at bounds) here in
          omega (arith, bound, same, less)) c.loop-group.invariant))
    ]

pub returns : goal.returns
returns c =
    let numbers : List ℕ = c.args.self.now in
    let bounds : List ℕ = c.self.inside.bounds.items in
    all_since (c.loop-group.group * 64) c.args.number numbers c.loop-group.sources.items
    (λ s from.
    let bound : number_at numbers s ≤ number_at bounds (s / 64) =
    subst (λ (ns : List ℕ). number_at ns s ≤ number_at bounds (s / 64)) c.self.view_is (c.self.invariant.2 s) in
    let past : length bounds ≤ s / 64 = omega (arith, from, c.loop-group-test.false) in
    let zero = get_or_past bounds (s / 64) 0 past in
    omega (arith, bound, zero)) c.loop-group.invariant
