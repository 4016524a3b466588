use Rattle.std.proofs.Common.{sym, ap, length, ◌+◌, ◌∙◌}
use Rattle.graph_version.specs.Batches.{batch_value}
use Rattle.batch_apply.specs.Planned.{workers_for}
use Rattle.batch_apply.proofs.Planned.{plan_same}
use Rattle.desk.{specs.Ready.GrantedView, proofs.Readied.planned}
use Rattle.desk.proofs.at_once.make_ready.Goals as goal

pub grant-requires : goal.grant-requires
grant-requires g c =
    let a = c.requires.admitted in
    record {
      planned = (
        workers_for a.0 (length (batch_value c.args.batch) + length a.1.shared.old),
        planned c.args.desk.last a.0 (batch_value c.args.batch) c.args.plan a.1,
      );
    }

pub apply_over-rewritten-requires-clause-plan : goal.apply_over-rewritten-requires-clause-plan
apply_over-rewritten-requires-clause-plan g c κs within =
    let a = c.requires.admitted in
    let workers = workers_for a.0 (length (batch_value c.args.batch) + length a.1.shared.old) in
    let load = c.in_ok-granted.ensures.load in (
      workers,
      a.1.shared.some,
      plan_same workers c.args.desk.last c.last.result.now (batch_value c.args.batch) (batch_value c.in_ok-granted.load.batch)
          c.args.plan c.in_ok-granted.load.plan
          (sym (c.last.ensures ∙ ap (λ (r : GrantedView). r.old.last) c.in_ok-granted.ensures.granted)) (sym load.batch_is)
          (sym load.plan_is) a.1.shared.planned,
    )
