use Rattle.std.proofs.{Common.{◌≡◌, ◌∙◌, ◌≤◌, ◌*◌, if◌then◌else◌, length, ap, arith}, lemmas.Bool.ne_eqb}
use Rattle.graph_version.specs.{Rows.row_of, RowHalls.in_halls}
use Rattle.graph_version.proofs.rows.Rows.put.Goals as goal

pub invariant_of-result : goal.invariant_of-result
invariant_of-result c =
    let long = c.max.ensures in
    let within : c.self.inside.len ≤ length c.self.inside.halls.items * 65536 = c.self.invariant.2 in (
      c.put_row.ensures.halls,
      c.put_row.ensures.few,
      omega (arith, long, within, c.put_row.ensures.more, c.in_ok-put_row.ensures.enough),
      λ s le.
          let past : c.self.inside.len ≤ s = omega (arith, long, le) in
          let other : ¬ (s ≡ c.args.source.0) = omega (arith, long, le) in
          c.in_ok-put_row.ensures.rows s
          ∙ ap (λ b. if b then c.args.row else row_of (in_halls c.self.inside.halls.items) s) (ne_eqb s c.args.source.0 other)
          ∙ c.self.invariant.3 s past,
    )
