use Rattle.std.proofs.Common.{◌≡◌, take}
use Rattle.graph_version.specs.{Rows.blocks_of, Sharing.block_values}
use Rattle.graph_version.proofs.rebase.blocks_in.Given as goal

abbrev pub invariant-loop-source : goal.invariant-loop-source
invariant-loop-source l = block_values l.blocks.items ≡ blocks_of (take l.source l.rows)
