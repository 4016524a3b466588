use Rattle.std.proofs.{Common.arith, Common.inl, Common.inr, lemmas.Bool.cases_lt, lemmas.Nat.Bits.bit_at-trailing_zeros}
use Rattle.std.specs.Int.{w32, trailing_zeros}
use Rattle.lane_scan.proofs.find_target.Goals as goal

pub returns : goal.returns
returns c =
    let lowest = bit_at-trailing_zeros w32 c.target_mask-due.result (omega arith) (omega arith) in (
      (c.target_mask-due.ensures (trailing_zeros w32 c.target_mask-due.result)).0 lowest.1,
      λ other at. elim (cases_lt other (trailing_zeros w32 c.target_mask-due.result)) [
        | inl below ↦ absurd (omega (arith, lowest.2 other below, (c.target_mask-due.ensures other).1 at))
        | inr past ↦ past
      ],
    )
