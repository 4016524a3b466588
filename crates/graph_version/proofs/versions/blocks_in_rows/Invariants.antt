use Rattle.std.proofs.Common.{◌≡◌, ◌%◌, ◌^◌, length, take}
use Rattle.graph_version.specs.Rows.{blocks_of}
use Rattle.graph_version.proofs.versions.blocks_in_rows.Given as goal

abbrev pub invariant-loop-source : goal.invariant-loop-source
invariant-loop-source l = l.blocks ≡ length (blocks_of (take l.source l.rows)) % 2 ^ 64
