use Rattle.std.proofs.Common.{◌+◌, ◌*◌}
use Rattle.batch_apply.proofs.finding.+find_all+fn-find_all-back+fn-find_all-front.Given as goal

abbrev pub decreases-find_all : goal.decreases-find_all
decreases-find_all g l = 2 * l.workers

abbrev pub decreases-back : goal.decreases-back
decreases-back g l = 2 * l.half + 1

abbrev pub decreases-front : goal.decreases-front
decreases-front g l = 2 * l.rest + 1
