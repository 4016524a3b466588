use Rattle.std.proofs.Common.{ℕ, arith}
use Rattle.graph_types.proofs.Rounds.{arc_round_kept, arc_round_lowered, arc_round_closed}
use Rattle.graph_model.proofs.settling.lower_once.Goals.{then-number-numbers, else-number-numbers}
use Rattle.graph_model.proofs.settling.lower_once.Goals as goal

pub loop-arc-preserved : goal.loop-arc-preserved
loop-arc-preserved c =
    let arcs = c.args.arcs.now in
    let old = c.args.numbers.now in
    let i = c.loop-arc.arc-index in
    let none : ℕ × ℕ = (0, 0) in
    elim c.if-number-numbers.branch [
      | then-number-numbers w ↦ rw (w.numbers-is, w.lowered-is)
          (arc_round_lowered arcs c.args.step old c.loop-arc.numbers c.loop-arc.lowered i none c.requires.within
          c.loop-arc.invariant c.loop-arc-test.true w.if-number-numbers.true)
      | else-number-numbers w ↦ rw (w.numbers-is, w.lowered-is)
          (arc_round_kept arcs c.args.step old c.loop-arc.numbers c.loop-arc.lowered i none c.loop-arc.invariant
          c.loop-arc-test.true w.if-number-numbers.false)
    ]

pub returns-clause-closed : goal.returns-clause-closed
returns-clause-closed c =
    arc_round_closed c.args.arcs.now c.args.step c.args.numbers.now c.loop-arc.numbers c.loop-arc.lowered c.loop-arc.arc-index
    c.loop-arc.invariant (omega arith)
