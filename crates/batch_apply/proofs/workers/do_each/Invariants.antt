use Rattle.graph_version.specs.Rows.{row_of}
use Rattle.batch_apply.specs.Gathered.{AreShardsDone}
use Rattle.batch_apply.proofs.workers.do_each.Given as goal

abbrev pub invariant-loop-job : goal.invariant-loop-job
invariant-loop-job g l = AreShardsDone (row_of l.version.rows) l.yielded l.done.items
