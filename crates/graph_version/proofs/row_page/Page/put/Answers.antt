use Rattle.std.proofs.{Common.{◌≡◌, ◌∙◌, ℕ, length, min, sym, subst, arith}, Math.Nat.{min-le_left, min-le_right}}
use Rattle.graph_version.{specs.{Ages.AreSince, Parts.{in_part, in_parts}}, proofs.Ages.{bounded_set, rows_before_zero}}
use Rattle.list_pieces.proofs.Full.{long}
use Rattle.graph_version.proofs.row_page.Page.put.Goals as goal

pub invariant_of-self : goal.invariant_of-self
invariant_of-self c =
    (c.put_in_part.ensures.parts, c.put_in_part.auto.parts ∙ c.self.invariant.1, rows_before_zero (in_parts c.put_in_part.new.parts))

pub invariant_of-self-2 : goal.invariant_of-self-2
invariant_of-self-2 c =
    let kept : ℕ = c.self.inside.since in
    let since : ℕ = c.since-since.result in (
      c.put_in_part.ensures.parts,
      c.put_in_part.auto.parts ∙ c.self.invariant.1,
      c.parts_bound-self-inside.ensures (subst (AreSince (min kept since)) (sym c.in_ok-before.ensures.rows)
          (bounded_set (min kept since) kept since (in_parts c.self.inside.parts) c.args.place c.args.row
          (min-le_left kept since) (min-le_right kept since) c.self.invariant.2 c.since-since.ensures)),
    )

pub returns-in_err-before-clause-length : goal.returns-in_err-before-clause-length
returns-in_err-before-clause-length c =
    let whole = long 8 in_part c.put_in_part.new.parts c.put_in_part.ensures.parts in
    let same = c.put_in_part.auto.parts in
    let before : length c.self.inside.parts ≡ 8 = c.self.invariant.1 in
    omega (arith, whole, same, before)

pub returns-clause-length : goal.returns-clause-length
returns-clause-length c =
    let whole = long 8 in_part c.put_in_part.new.parts c.put_in_part.ensures.parts in
    let same = c.put_in_part.auto.parts in
    let before : length c.self.inside.parts ≡ 8 = c.self.invariant.1 in
    omega (arith, whole, same, before)
