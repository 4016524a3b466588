use Rattle.std.proofs.Common.{◌≡◌, ◌*◌, ◌≤◌, take}
use Rattle.version_columns.specs.Lookups.{byte_count}
use Rattle.version_columns.proofs.lookups.bytes_in.Given as goal

abbrev pub invariant-loop-number : goal.invariant-loop-number
invariant-loop-number l = record {
  counted : l.bytes ≡ byte_count (take l.number l.book.names);
  few : l.bytes ≤ 64 * l.number;
}
