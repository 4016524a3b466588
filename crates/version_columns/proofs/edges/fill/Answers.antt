use Rattle.std.proofs.Common.{◌≡◌, ◌+◌, ◌-◌, ℕ, suc, replicate, sym, ap, ◌∙◌, arith}
use Rattle.version_columns.specs.Rows.{with_values}
use Rattle.version_columns.proofs.edges.fill.Goals as goal

pub loop-place-preserved : goal.loop-place-preserved
loop-place-preserved c =
    let at = c.loop-place.place in
    let left : c.args.end - at ≡ suc (c.args.end - (at + 1)) = omega arith in
    ap (λ (n : ℕ). with_values at (replicate n c.args.number) c.loop-place.column) (sym left) ∙ c.loop-place.invariant
