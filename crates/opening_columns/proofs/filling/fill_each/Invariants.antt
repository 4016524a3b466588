use Rattle.std.proofs.Common.{◌≡◌, List, All, map, length, take, drop}
use Rattle.std.specs.Prelude.{flat_map}
use Rattle.graph_types.specs.declared.ids.Edge.{Edge}
use Rattle.graph_version.specs.{Rows.numbers_of, Sharing.block_values}
use Rattle.opening_columns.specs.{Edges.{AreRising, IsWithinBounds}, Runs.{AreFilled, AreRuns}}
use Rattle.opening_columns.proofs.filling.fill_each.Given as goal

abbrev pub invariant-loop-place : goal.invariant-loop-place
invariant-loop-place l = record {
  rising : AreRising l.rest;
  range : All IsWithinBounds l.rest;
  numbers : numbers_of (block_values l.blocks) ≡ numbers_of (block_values l.fn.blocks);
  filled : (runs : List (List Edge)) → AreRuns l.edges runs → map length runs ≡ l.lengths
      → (flat_map (λ run. run) (drop l.place runs) ≡ l.rest) × AreFilled (take l.place runs) (take l.place (block_values l.blocks));
}
