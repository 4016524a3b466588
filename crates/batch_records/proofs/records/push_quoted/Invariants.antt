-- The text so far ends with a quote and the bytes so far, as they stand between quotes.
use Rattle.std.proofs.Common.{◌≡◌, ◌++◌, ◌∷◌, take}
use Rattle.csv.specs.Writing.{default_writer, escaped}
use Rattle.batch_records.proofs.records.push_quoted.Given as goal

abbrev pub invariant-loop-byte : goal.invariant-loop-byte
invariant-loop-byte l = l.text.items ≡ l.fn.text.items ++ (34 ∷ escaped default_writer (take l.byte-index l.field))
