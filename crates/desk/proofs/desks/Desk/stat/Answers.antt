use Rattle.std.proofs.Common.{ap, ◌∙◌, count_by}
use Rattle.block_reclamation.specs.Status.{is_free}
use Rattle.store_steps.specs.Desks.{DeskView}
use Rattle.desk.specs.Kept.{desk_in}
use Rattle.desk.proofs.desks.Desk.stat.Goals as goal

-- Its search is long where it fails.
pub returns-clause-free : goal.returns-clause-free
returns-clause-free c =
    c.free.ensures.count ∙ ap (λ (d : DeskView). count_by is_free d.pool) (ap desk_in c.deref.ensures ∙ c.self.view_is)
