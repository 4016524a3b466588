use Rattle.std.proofs.Common.{◌≡◌, drop}
use Rattle.version_columns.specs.Nearby.{are_vertices}
use Rattle.version_columns.proofs.nearby.are_vertices.Given as goal

abbrev pub invariant-loop-source : goal.invariant-loop-source
invariant-loop-source l = are_vertices l.count (drop l.source-index l.sources) ≡ are_vertices l.count l.sources
