use Rattle.std.proofs.Common.{◌≡◌, take}
use Rattle.batch_shards.specs.RowBlocks.{shared_numbers}
use Rattle.desk.proofs.applying.numbers_in.Given as goal

abbrev pub invariant-loop-block : goal.invariant-loop-block
invariant-loop-block l = l.numbers.items ≡ shared_numbers (take l.block-index l.blocks)
