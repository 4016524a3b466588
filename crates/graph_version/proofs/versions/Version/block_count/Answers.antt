use Rattle.std.proofs.Common.{length, ap, arith}
use Rattle.graph_version.specs.Rows.{blocks_of}
use Rattle.graph_version.{specs.Versions.VersionView, proofs.BlockCounts.few_blocks}
use Rattle.graph_version.proofs.versions.Version.block_count.Goals as goal

pub returns : goal.returns
returns c =
    let few = few_blocks _ c.self.invariant.version in
    let same = ap (λ (v : VersionView). length (blocks_of v.rows)) c.self.view_is in
    omega (arith, c.blocks_in_rows.ensures, few, same)
