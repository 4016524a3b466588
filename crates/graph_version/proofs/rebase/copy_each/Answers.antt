use Rattle.std.proofs.Common.{arith}
use Rattle.graph_version.proofs.Rebased.{copied_same, copied_numbers}
use Rattle.graph_version.proofs.rebase.copy_each.Goals as goal

pub returns-clause-same : goal.returns-clause-same
returns-clause-same c =
    copied_same c.args.held.now c.args.blocks.now c.loop-place.blocks c.loop-place.place c.loop-place.invariant
    (omega (arith, c.loop-place-test.false)) c.requires

pub returns-clause-numbers : goal.returns-clause-numbers
returns-clause-numbers c =
    copied_numbers c.args.held.now c.args.blocks.now c.loop-place.blocks c.loop-place.place c.loop-place.invariant
