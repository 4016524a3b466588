use Rattle.std.proofs.Common.{◌≡◌, take}
use Rattle.epoch_core.specs.Versions.{edges_of}
use Rattle.epoch_core.proofs.contents.edges_of.Given as goal

abbrev pub invariant-loop-block : goal.invariant-loop-block
invariant-loop-block l = l.edges.items ≡ edges_of l.heap (take l.block-index l.blocks)
