use Rattle.std.proofs.Common.{◌≡◌, drop}
use Rattle.graph_cores.specs.Peel.{lowered}
use Rattle.graph_cores.proofs.peeling.lower.Given as goal

abbrev pub invariant-loop-neighbor : goal.invariant-loop-neighbor
invariant-loop-neighbor l =
    lowered l.k (drop l.neighbor-index l.neighbors) l.degrees l.stack.items ≡ lowered l.k l.neighbors l.fn.degrees
    l.fn.stack.items
