use Rattle.std.proofs.Common.{◌+◌, ◌*◌, vec_len}
use Rattle.batch_apply.proofs.workers.+do_busy+fn-do_busy-front.Given as goal

abbrev pub decreases-do_busy : goal.decreases-do_busy
decreases-do_busy g l = 2 * vec_len l.low

abbrev pub decreases-front : goal.decreases-front
decreases-front g l = 2 * vec_len l.low + 1
