use Rattle.std.proofs.Common.{◌++◌, ◌∷◌, [], length, sym, ◌∙◌, subst}
use Rattle.std.proofs.lemmas.Iterator.{Adapters.YieldsList-from_vec, Consumers.YieldsList-turn}
use Rattle.graph_types.proofs.Elements.{zip_more}
use Rattle.graph_version.specs.Rows.{row_of}
use Rattle.batch_shards.specs.{Done.IsShardDone, declared.shard.ShardDone.ShardDone}
use Rattle.batch_apply.specs.{Gathered.{IsShard, AreShardsDone}, declared.workers.Job.Job}
use Rattle.batch_apply.proofs.workers.do_each.Goals as goal

pub do_one-requires : goal.do_one-requires
do_one-requires g c =
    let start = c.into_iter-job-iterator.ensures.into_iter_gives in
    let turn = YieldsList-turn (YieldsList-from_vec {s = c.into_iter-job-iterator.result} c.args.jobs.items start.0
    (start.1 ∙ c.args.jobs.ok.0)) c.loop-job.yielded c.loop-job.job-iterator c.loop-job.yielded_by c.next.result
    c.next.new.self c.in-Some.job c.in-Some.is c.next.ensures.steps in
    subst (λ (j : Job). IsShard (row_of c.args.version.now.rows) j.shard) (sym turn.1)
    (c.requires (length c.loop-job.yielded) c.in-Some.job turn.0)

pub loop-job-preserved : goal.loop-job-preserved
loop-job-preserved g c =
    subst (λ ds. AreShardsDone (row_of c.args.version.now.rows) (c.loop-job.yielded ++ c.in-Some.job ∷ []) ds)
    (sym c.in_ok-push.ensures.items)
    (zip_more (λ (j : Job) (d : ShardDone). IsShardDone (row_of c.args.version.now.rows) j.shard d) c.loop-job.yielded
    c.loop-job.done.items c.in-Some.job c.in_ok-do_one.field-0
    c.loop-job.invariant c.in_ok-do_one.ensures)
