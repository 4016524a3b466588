use Rattle.std.proofs.Common.{◌≡◌, take}
use Rattle.graph_version.specs.Sharing.{block_values}
use Rattle.opening_columns.proofs.laying.shared.Given as goal

abbrev pub invariant-loop-block : goal.invariant-loop-block
invariant-loop-block l = block_values l.row.items ≡ block_values (take l.block-index l.blocks)
