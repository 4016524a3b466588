use Rattle.std.proofs.Common.{◌≡◌, take}
use Rattle.edge_block.specs.Rows.{old_in_row}
use Rattle.batch_shards.specs.RowBlocks.{opens}
use Rattle.batch_shards.proofs.rows.least_time.Given as goal

abbrev pub invariant-loop-here : goal.invariant-loop-here
invariant-loop-here l = old_in_row l.least (take l.here-index (opens l.row)) ≡ 0
