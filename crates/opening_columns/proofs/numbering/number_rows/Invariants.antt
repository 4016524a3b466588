use Rattle.std.proofs.Common.{◌≡◌, true, false, length}
use Rattle.batch_columns.specs.Operations.{table_of}
use Rattle.opening_columns.specs.Numbers.{AreSeen}
use Rattle.opening_columns.proofs.RowsTaken.{AreNumbered}
use Rattle.opening_columns.proofs.numbering.number_rows.Given as goal

abbrev pub invariant-loop-place : goal.invariant-loop-place
invariant-loop-place l = record {
  numbered : AreNumbered l.fn.limits (table_of l.columns) l.place l.names l.kinds l.puts.items;
  seen : AreSeen false l.columns.text.now l.columns.ends.now l.names.names l.seen;
  long : length l.seen ≡ length l.columns.ends.now;
  seen_kinds : AreSeen true l.columns.kind_text.now l.columns.kind_ends.now l.kinds.names l.seen_kinds;
  kinds_long : length l.seen_kinds ≡ length l.columns.kind_ends.now;
}
