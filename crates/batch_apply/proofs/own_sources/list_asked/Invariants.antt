use Rattle.std.proofs.Common.{◌≡◌, ◌++◌, map, take}
use Rattle.edge_block.specs.Batches.{shard_ops}
use Rattle.batch_apply.specs.{Plan.shown_op, Shards.source_numbers, FirstSources.asked_sources}
use Rattle.batch_apply.proofs.own_sources.list_asked.Given as goal

-- what is listed of the operations so far
abbrev pub invariant-loop-op : goal.invariant-loop-op
invariant-loop-op l = record {
  asked : source_numbers l.sources.items ≡ source_numbers l.initial.sources.items
      ++ asked_sources (shard_ops l.workers l.worker (map shown_op (take l.op-index l.ops)));
}
