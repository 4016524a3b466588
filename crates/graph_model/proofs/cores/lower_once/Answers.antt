use Rattle.std.proofs.Common.{arith}
use Rattle.graph_types.proofs.Rounds.{round_start, round_kept, round_lowered}
use Rattle.graph_model.proofs.cores.lower_once.Goals.{then-supports-vertex, else-supports-vertex}
use Rattle.graph_model.proofs.cores.lower_once.Goals as goal

-- Their searches are long.

pub loop-vertex-init : goal.loop-vertex-init
loop-vertex-init c = round_start c.args.numbers.now c.args.supports.now

pub overflow_sub-numbers : goal.overflow_sub-numbers
overflow_sub-numbers c = omega (arith, c.if-supports-vertex.true)

pub loop-vertex-preserved : goal.loop-vertex-preserved
loop-vertex-preserved c =
    let old = c.args.numbers.now in
    let numbers = c.loop-vertex.numbers in
    elim c.if-supports-vertex.branch [
      | then-supports-vertex w ↦ rw (w.numbers-is, w.lowered-is)
          (round_lowered old c.args.supports.now numbers c.loop-vertex.lowered c.loop-vertex.vertex c.loop-vertex.invariant
          (omega (arith, c.loop-vertex-test.true, c.loop-vertex.auto.numbers)) w.if-supports-vertex.true)
      | else-supports-vertex w ↦ rw (w.numbers-is, w.lowered-is)
          (round_kept old c.args.supports.now numbers c.loop-vertex.lowered c.loop-vertex.vertex c.loop-vertex.invariant
          w.if-supports-vertex.false)
    ]

pub returns-clause-size : goal.returns-clause-size
returns-clause-size c = c.loop-vertex.invariant.size

pub returns-clause-each : goal.returns-clause-each
returns-clause-each c = c.loop-vertex.invariant.each

pub returns-clause-falls : goal.returns-clause-falls
returns-clause-falls c = c.loop-vertex.invariant.falls
