use Rattle.std.proofs.{Common.◌-◌, Common.drop, lemmas.Str.IsUtf8-from_ascii, lemmas.Str.IsAscii-take}
use Rattle.script_lines.proofs.ends.RowEnd.as_str.Goals as goal

pub from_utf8_unchecked-requires : goal.from_utf8_unchecked-requires
from_utf8_unchecked-requires c =
    IsUtf8-from_ascii _ (IsAscii-take (drop c.self.inside.start c.self.inside.bytes) (72 - c.self.inside.start) c.self.invariant.1.1)
