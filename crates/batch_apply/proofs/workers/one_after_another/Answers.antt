use Rattle.batch_apply.proofs.workers.one_after_another.Goals as goal

pub returns : goal.returns
returns g c = c.in_ok-append.ensures.items
