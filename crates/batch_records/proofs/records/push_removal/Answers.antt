use Rattle.batch_records.proofs.Rows.{removal_pushed}
use Rattle.batch_records.proofs.records.push_removal.Goals as goal

pub returns : goal.returns
returns c =
    removal_pushed c.args.text.now.items _ _ _ c.args.kind.now c.args.source.now c.args.target.now c.in_ok-push.ensures.items
    c.in_ok-push_ends.ensures c.in_ok-push-2.ensures.items
