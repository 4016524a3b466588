use Rattle.std.proofs.Common.{◌≡◌, ◌<◌, ◌≤◌, [], length, get_or, ap, arith}
use Rattle.std.proofs.lemmas.{List.Sums.sum_by_more, Option.{get_or_from_slice_get, slice_get_within}}
use Rattle.graph_types.proofs.NameTexts.{name_short}
use Rattle.version_columns.proofs.lookups.bytes_in.Goals as goal

pub loop-number-preserved : goal.loop-number-preserved
loop-number-preserved c =
    let names = c.args.book.now.names in
    let n = c.loop-number.number in
    let name = c.name_of.result.now in
    let within : n < length names = slice_get_within names n name c.name_of.ensures in
    let same : get_or names n [] ≡ name = get_or_from_slice_get names n name [] c.name_of.ensures in
    let more = sum_by_more length names n [] within in
    let long = ap length same in
    let short : length (get_or names n []) ≤ 64 = name_short (get_or names n []) (c.len-number-end.ensures.book.named n [] within) in
    record {
      counted = omega (arith, more, long, c.loop-number.invariant.counted);
      few = omega (arith, long, short, c.loop-number.invariant.few);
    }
