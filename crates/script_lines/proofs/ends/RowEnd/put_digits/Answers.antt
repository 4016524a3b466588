use Rattle.std.proofs.Common.{◌≡◌, ◌+◌, ◌-◌, length, drop, ap, ◌∙◌, arith, length-drop, length-append}
use Rattle.std.{proofs.lemmas.{Fmt.{length-decimal-le, IsAscii-decimal}, Str.IsAscii-append}, specs.Fmt.decimal}
use Rattle.script_lines.proofs.ends.RowEnd.put_digits.Goals as goal

pub write_digits-self-inside-requires : goal.write_digits-self-inside-requires
write_digits-self-inside-requires c =
    let bytes = c.self.inside.bytes in
    let start = c.self.inside.start in
    let few = length-decimal-le 20 c.args.number (omega arith) (omega arith) c.ranges.number.fits in
    let same : length (drop start bytes) ≡ length c.args.self.now = ap length c.self.view_is in
    let long : length (drop start bytes) ≡ length bytes - start = length-drop start bytes in
    (omega (arith, few, same, long, c.requires, c.self.told, c.self.invariant.0), omega (arith, c.self.invariant.0, c.self.told))

pub invariant_of-self : goal.invariant_of-self
invariant_of-self c =
    let w = c.write_digits-self-inside in
    let start : w.result + length (decimal c.args.number) ≡ c.self.inside.start = w.ensures.start in (
      omega (arith, start, c.self.invariant.0),
      (
        w.auto.buf ∙ c.self.told,
        rw w.ensures.written
            (IsAscii-append (decimal c.args.number) (drop c.self.inside.start c.self.inside.bytes)
            (IsAscii-decimal c.args.number c.ranges.number.fits) c.self.invariant.1.1),
      ),
    )

pub returns-clause-short : goal.returns-clause-short
returns-clause-short c =
    let w = c.write_digits-self-inside in
    let few = length-decimal-le 20 c.args.number (omega arith) (omega arith) c.ranges.number.fits in
    let same : length (drop c.self.inside.start c.self.inside.bytes) ≡ length c.args.self.now = ap length c.self.view_is in
    let both = length-append (decimal c.args.number) (drop c.self.inside.start c.self.inside.bytes) in
    let written = ap length w.ensures.written in
    omega (arith, few, same, both, written)
