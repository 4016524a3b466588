use Rattle.std.{proofs.Common.{zip, subst}, specs.List.AllZip}
use Rattle.batch_shards.specs.RowBlocks.{shared_numbers}
use Rattle.batch_apply.specs.Gathered.{IsDealt}
use Rattle.batch_apply.proofs.gathering.work.Goals as goal

pub do_all-requires-after_bounds : goal.do_all-requires-after_bounds
do_all-requires-after_bounds g c κs within = c.requires.ready c.in_ok-jobs.jobs.items
    (subst (λ ns. AllZip IsDealt (zip c.args.load.shards.items ns) c.in_ok-jobs.jobs.items) c.as_slice.ensures.value
    c.in_ok-jobs.ensures.jobs)

pub returns : goal.returns
returns g c = record {
  jobs = c.in_ok-jobs.jobs.items;
  dones = c.in_ok-dones.dones.items;
  rest = shared_numbers c.deal.new.blocks.items;
  dealt = subst (λ ns. AllZip IsDealt (zip c.args.load.shards.items ns) c.in_ok-jobs.jobs.items) c.as_slice.ensures.value
      c.in_ok-jobs.ensures.jobs;
  shared_out = c.in_ok-jobs.ensures.numbers;
  done = c.in_ok-dones.ensures;
  outcomes_are = c.in_ok-all.ensures.outcomes;
  rows_are = c.in_ok-all.ensures.rows;
  taken_are = c.in_ok-all.ensures.taken;
  dropped_are = c.in_ok-all.ensures.dropped;
  unused_are = c.in_ok-all.ensures.unused;
}
