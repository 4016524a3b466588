use Rattle.std.proofs.Common.{length, ap, arith}
use Rattle.std.proofs.lemmas.List.{length-map}
use Rattle.graph_version.specs.Sharing.{block_value}
use Rattle.graph_version.proofs.BlockCounts.{few_in_row}
use Rattle.version_columns.proofs.rows.write_row.Goals as goal

pub count_blocks-edges-requires : goal.count_blocks-edges-requires
count_blocks-edges-requires c =
    omega (arith, few_in_row c.args.version.now c.args.source c.row_blocks-blocks.ensures.version, ap length c.row_blocks-blocks.ensures.blocks, length-map c.row_blocks-blocks.result.now block_value)
