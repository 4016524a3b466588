use Rattle.std.proofs.Common.{◌≡◌, drop, length}
use Rattle.graph_levels.{specs.Reached.level_table, proofs.Tables.filled}
use Rattle.graph_levels.proofs.found.table.Given as goal

abbrev pub invariant-loop-row : goal.invariant-loop-row
invariant-loop-row l = record {
  levels : filled l.levels.items (drop l.row-index l.rows) ≡ level_table l.count l.rows;
  long : length l.levels.items ≡ l.count;
}
