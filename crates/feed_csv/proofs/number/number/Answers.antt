use Rattle.std.proofs.Common.{◌≡◌, ℕ, ◌+◌, ◌-◌, ◌*◌, ◌<◌, ◌≤◌, ◌^◌, length, List, take, get_or, true, arith, ap, ◌∙◌, sym}
use Rattle.std.proofs.{Common.length-take, lemmas.List.take_more}
use Rattle.std.specs.{Char.is_ascii_digit, List.list_all}
use Rattle.graph_types.proofs.Searches.{digits_more}
use Rattle.feed_csv.{specs.Number.decimal_value, proofs.Decimal.decimal_value-push, proofs.Decimal.decimal_value-lt_19}
use Rattle.feed_csv.proofs.number.number.Goals as goal

-- there is room for one more digit
room : (text : List ℕ) (i value : ℕ) → length text ≤ 19 → i < length text → list_all is_ascii_digit (take i text) ≡ true
    → value ≡ decimal_value (take i text) → value < 10 ^ 18
room text i value few within all is =
    let short : length (take i text) < 19 = omega (arith, length-take i text) in
    omega (arith, is, decimal_value-lt_19 (take i text) all short)

value_more : (text : List ℕ) (i value digit : ℕ) → i < length text → value ≡ decimal_value (take i text)
    → digit ≡ get_or text i 0 - 48
    → value * 10 + digit ≡ decimal_value (take (i + 1) text)
value_more text i value digit within is next =
    let longer = ap decimal_value (take_more text i 0 within) in
    omega (arith, is, next, longer, decimal_value-push (take i text) (get_or text i 0))

pub overflow_mul-value : goal.overflow_mul-value
overflow_mul-value c =
    let loop = c.loop-byte.invariant in
    omega
    (arith, room c.args.text.now c.loop-byte.byte-index c.loop-byte.value loop.few c.loop-byte-test.true loop.digits loop.value)

pub overflow_add-value : goal.overflow_add-value
overflow_add-value c =
    let loop = c.loop-byte.invariant in
    omega (
      arith,
      room c.args.text.now c.loop-byte.byte-index c.loop-byte.value loop.few c.loop-byte-test.true loop.digits loop.value,
      c.from.ensures,
      c.type_inv.text c.loop-byte.byte-index,
    )

pub loop-byte-preserved : goal.loop-byte-preserved
loop-byte-preserved c =
    let i = c.loop-byte.byte-index in
    record {
      few = c.loop-byte.invariant.few;
      digits = digits_more c.args.text.now i c.loop-byte-test.true c.loop-byte.invariant.digits
          (sym c.is_ascii_digit.ensures.value ∙ c.if-not-is_ascii_digit.false);
      value =
          value_more c.args.text.now i c.loop-byte.value c.from.result c.loop-byte-test.true c.loop-byte.invariant.value
          c.from.ensures;
    }
