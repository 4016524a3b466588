use Rattle.std.{proofs.Common.{◌≡◌, ◌++◌, take}, specs.Prelude.filter}
use Rattle.graph_cores.specs.Peel.{is_low, is_high}
use Rattle.graph_cores.proofs.peeling.split.Given as goal

abbrev pub invariant-loop-vertex : goal.invariant-loop-vertex
invariant-loop-vertex l = record {
  low : l.stack.items ≡ l.fn.stack.items ++ filter (is_low l.alive l.degrees l.k) (take l.vertex-index l.from);
  high : l.more.items ≡ l.fn.more.items ++ filter (is_high l.alive l.degrees l.k) (take l.vertex-index l.from);
}
