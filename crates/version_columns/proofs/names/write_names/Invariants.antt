use Rattle.std.proofs.Common.{◌≡◌, ◌≤◌, take, drop, length}
use Rattle.version_columns.specs.Lookups.{byte_count}
use Rattle.version_columns.specs.Texts.{joined_texts, ends_from, chosen}
use Rattle.version_columns.proofs.names.write_names.Given as goal

abbrev pub invariant-loop-place : goal.invariant-loop-place
invariant-loop-place l = record {
  place : l.at ≡ byte_count (chosen l.book.names l.first l.place);
  room : l.at ≤ length l.text;
  bytes : take l.at l.text ≡ joined_texts (chosen l.book.names l.first l.place);
  rest : drop l.at l.text ≡ drop l.at l.fn.text;
  ends_are : take l.place l.ends ≡ ends_from 0 (chosen l.book.names l.first l.place);
}
