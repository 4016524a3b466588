use Rattle.std.{proofs.Common.◌<◌, specs.Prelude.IfSome}
use Rattle.batch_apply.proofs.workers.last_of_several.Given as goal

abbrev pub invariant-loop-place : goal.invariant-loop-place
invariant-loop-place l = IfSome l.last (λ place. place < l.place)
