use Rattle.std.proofs.Common.{◌≡◌, ◌-◌, ◌^◌, min, take}
use Rattle.batch_apply.specs.{OldRows.old_sources, OldRows.own_rows, OldRows.blocks_in, Shards.source_numbers}
use Rattle.batch_apply.proofs.own_sources.list_old.Given as goal

-- what is listed of the rows so far
abbrev pub invariant-loop-row : goal.invariant-loop-row
invariant-loop-row l = record {
  own : source_numbers l.sources.items ≡ old_sources (own_rows l.workers l.worker (take l.row-index l.old));
  blocks : l.blocks ≡ min (blocks_in (own_rows l.workers l.worker (take l.row-index l.old))) (2 ^ 64 - 1);
}
