use Rattle.std.proofs.Common.{subst, ◌∙◌, count_by}
use Rattle.graph_version.specs.Versions.{VersionView}
use Rattle.block_reclamation.specs.Status.{is_free}
use Rattle.desk.specs.Refusals.{Refuses}
use Rattle.desk.proofs.desks.Desk.begin_at_once.Goals as goal

pub returns-in-Err-clause-refused : goal.returns-in-Err-clause-refused
returns-in-Err-clause-refused g c =
    let free = count_by is_free c.args.self.pool in
    subst (λ (v : VersionView). Refuses v free c.args.batch c.in-Err.error) (c.deref.ensures ∙ c.last.ensures)
    (c.in-Err.ensures.refused free)
