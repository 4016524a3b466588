use Rattle.std.proofs.lemmas.Result.{IfOk-at_ok}
use Rattle.graph_version.specs.Batches.{batch_value}
use Rattle.batch_apply.specs.Rewritten.{IsRewritten}
use Rattle.desk.proofs.ready.made_with_room.Goals as goal

pub returns-clause-prepared : goal.returns-clause-prepared
returns-clause-prepared c = λ v numbers applied. c.in_ok-prepared.ensures v numbers
    (IfOk-at_ok (IsRewritten v (batch_value c.args.batch) numbers) c.in_ok-rewritten.was applied)
