use Rattle.std.proofs.Common.{decimal}
use Rattle.batch_records.proofs.Rows.{expiry_pushed}
use Rattle.batch_records.proofs.records.push_expiry.Goals as goal

pub returns : goal.returns
returns c =
    expiry_pushed c.args.text.now.items _ _ _ (decimal c.args.time) c.in_ok-push.ensures.items c.in_ok-push_time.ensures
    c.in_ok-push-2.ensures.items
