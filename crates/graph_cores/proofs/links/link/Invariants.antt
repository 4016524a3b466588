use Rattle.std.proofs.Common.{◌+◌, ◌≤◌, length, take, vec_len, vec_capacity}
use Rattle.graph_cores.{specs.Peel.both_ways, proofs.LinkSteps.LinkedSoFar}
use Rattle.graph_cores.proofs.links.link.Given as goal

abbrev pub invariant-loop-target : goal.invariant-loop-target
invariant-loop-target l = record {
  linked : LinkedSoFar (both_ways l.fn.links.items) l.source (take l.target-index l.targets) (both_ways l.links.items);
  room : vec_len l.links + length l.targets ≤ vec_capacity l.links + l.target-index;
}
