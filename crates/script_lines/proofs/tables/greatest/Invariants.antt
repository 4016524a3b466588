use Rattle.std.{proofs.Common.{◌≡◌, take}, specs.Prelude.zip}
use Rattle.script_lines.specs.Lines.{greatest}
use Rattle.script_lines.proofs.tables.greatest.Given as goal

abbrev pub invariant-loop-vertex : goal.invariant-loop-vertex
invariant-loop-vertex l = l.most ≡ greatest (take l.vertex (zip l.names.names l.numbers))
