use Rattle.std.proofs.Common.{◌≡◌, ◌+◌, ◌-◌, ◌<◌, length, drop, ap, ◌∙◌, arith, length-drop}
use Rattle.std.proofs.lemmas.{List.drop-set, List.length-set, Str.Ascii.IsAscii-cons}
use Rattle.script_lines.proofs.ends.RowEnd.put_byte.Goals as goal

pub invariant_of-self : goal.invariant_of-self
invariant_of-self c =
    let bytes = c.self.inside.bytes in
    let start = c.self.inside.start in
    let same : length (drop start bytes) ≡ length c.args.self.now = ap length c.self.view_is in
    let long : length (drop start bytes) ≡ length bytes - start = length-drop start bytes in
    let back : start - 1 + 1 ≡ start = omega (arith, same, long, c.requires.room, c.self.told) in
    let within : start - 1 < length bytes = omega (arith, same, long, c.requires.room, c.self.told, back) in (
      omega (arith, c.self.invariant.0),
      (
        length-set bytes (start - 1) c.args.byte ∙ c.self.told,
        rw (drop-set bytes (start - 1) c.args.byte within, back)
            (IsAscii-cons c.args.byte (drop start bytes) c.requires.ascii c.self.invariant.1.1),
      ),
    )
