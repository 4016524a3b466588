use Rattle.std.proofs.Common.{decimal, w64}
use Rattle.std.proofs.lemmas.Int.{to_z-of_z}
use Rattle.std.specs.Fmt.{signed_decimal}
use Rattle.batch_records.proofs.Rows.{put_pushed}
use Rattle.batch_records.proofs.records.push_put.Goals as goal

pub returns : goal.returns
returns c =
    let weighed = rw (to_z-of_z w64 c.args.weight c.ranges.weight) at c.in_ok-push_weight.ensures in
    put_pushed c.args.text.now.items _ _ _ _ _ c.args.word c.args.kind.now c.args.source.now c.args.target.now
    (signed_decimal c.args.weight) (decimal c.args.time) c.requires c.in_ok-push.ensures.items c.in_ok-push_ends.ensures weighed
    c.in_ok-push_time.ensures c.in_ok-push-2.ensures.items
