use Rattle.std.proofs.Common.{subst, sym}
use Rattle.vertex_names.{specs.Order.IsRising, proofs.Splits.{spans_same, lows_same}}
use Rattle.vertex_names.proofs.part.PartClone.clone.Goals as goal

pub invariant_of-result : goal.invariant_of-result
invariant_of-result c =
    subst IsRising (sym (lows_same _ _ (spans_same _ _ c.in_ok-clone.ensures.cases.0))) c.self.invariant

pub returns : goal.returns
returns c = record { cases = rw (← c.self.view_is) (spans_same _ _ c.in_ok-clone.ensures.cases.0) }
