use Rattle.std.proofs.Common.{◌≡◌, drop, length, map}
use Rattle.graph_levels.specs.Reached.{vertices_of}
use Rattle.version_columns.specs.Rows.{with_values}
use Rattle.version_columns.proofs.nearby.put_rows.Given as goal

abbrev pub invariant-loop-place : goal.invariant-loop-place
invariant-loop-place l = record {
  vertices : with_values l.place (vertices_of (drop l.place l.rows)) l.vertices ≡ with_values 0 (vertices_of l.rows) l.fn.vertices;
  levels : with_values l.place (map (λ row. row.1) (drop l.place l.rows)) l.levels ≡ with_values 0 (map (λ row. row.1) l.rows) l.fn.levels;
  long : length l.vertices ≡ length l.fn.vertices;
  as_long : length l.levels ≡ length l.fn.levels;
}
