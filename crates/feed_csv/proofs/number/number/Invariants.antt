use Rattle.std.{proofs.Common.{◌≡◌, take, true, ◌≤◌, length}, specs.{Char.is_ascii_digit, List.list_all}}
use Rattle.feed_csv.specs.Number.{decimal_value}
use Rattle.feed_csv.proofs.number.number.Given as goal

-- the bytes so far are digits, and their value is known
abbrev pub invariant-loop-byte : goal.invariant-loop-byte
invariant-loop-byte l = record {
  few : length l.text ≤ 19;
  digits : list_all is_ascii_digit (take l.byte-index l.text) ≡ true;
  value : l.value ≡ decimal_value (take l.byte-index l.text);
}
