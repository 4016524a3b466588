use Rattle.std.proofs.{Common.arith, lemmas.Bool.eqb-true, lemmas.Bool.eq-eqb}
use Rattle.edge_block.proofs.Targets.{targets_in-same, columns_from_targets}
use Rattle.edge_block.proofs.blocks.Block.same_targets.Goals as goal

pub returns-then-self-other : goal.returns-then-self-other
returns-then-self-other c = (
  (λ same. rw (← c.self.view_is, ← c.other.view_is)
      (targets_in-same c.self.inside.live c.other.inside.live c.self.inside.targets c.other.inside.targets c.self.inside.weights
      c.other.inside.weights c.self.inside.firsts c.other.inside.firsts c.self.inside.recents c.other.inside.recents
      c.if-self-other.true (c.equal_columns.ensures.0 same))),
  (λ e. let same = rw (← c.self.view_is, ← c.other.view_is) at e in
      c.equal_columns.ensures.1
      (columns_from_targets c.self.inside.live c.other.inside.live c.self.inside.targets c.other.inside.targets
      c.self.inside.weights c.other.inside.weights c.self.inside.firsts c.other.inside.firsts c.self.inside.recents
      c.other.inside.recents c.self.invariant.0 c.other.invariant.0 (omega arith)
      (omega arith) c.self.told.0 c.other.told.0 same).1),
)

pub returns-else-self-other : goal.returns-else-self-other
returns-else-self-other c = (
  (λ same. absurd (c.if-self-other.false (eqb-true c.self.inside.live c.other.inside.live same))),
  (λ e. let same = rw (← c.self.view_is, ← c.other.view_is) at e in
      eq-eqb c.self.inside.live c.other.inside.live
      (columns_from_targets c.self.inside.live c.other.inside.live c.self.inside.targets c.other.inside.targets
      c.self.inside.weights c.other.inside.weights c.self.inside.firsts c.other.inside.firsts c.self.inside.recents
      c.other.inside.recents c.self.invariant.0 c.other.invariant.0 (omega arith)
      (omega arith) c.self.told.0 c.other.told.0 same).0),
)
