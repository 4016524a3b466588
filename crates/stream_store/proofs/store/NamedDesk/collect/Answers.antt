use Rattle.std.{proofs.Common.ap, proofs.Common.subst, proofs.Common.◌∙◌, specs.Prelude.count_by}
use Rattle.block_reclamation.specs.{declared.copies.PinCopy.PinCopy, Status.is_reclaimable}
use Rattle.store_steps.specs.{Desks.IsCollected, Steps.SimulatesAt, Steps.recycling}
use Rattle.stream_store.specs.Kept.{DeskState}
use Rattle.stream_store.proofs.store.NamedDesk.collect.Goals as goal

pub returns-clause-collected : goal.returns-clause-collected
returns-clause-collected g c =
    let old : DeskState = c.args.self.now.desk in
    subst (λ (copy : PinCopy). IsCollected old.desk copy c.collect.new.self.desk) c.copy_of-copy.ensures.copied
    c.collect.ensures.collected

pub returns-clause-steps : goal.returns-clause-steps
returns-clause-steps g c =
    let old : DeskState = c.args.self.now.desk in
    subst (λ (copy : PinCopy). SimulatesAt copy old.desk (recycling copy old.desk.pool) c.collect.new.self.desk)
    c.copy_of-copy.ensures.copied c.collect.ensures.steps

pub returns-clause-recycled : goal.returns-clause-recycled
returns-clause-recycled g c =
    let old : DeskState = c.args.self.now.desk in
    c.collect.ensures.recycled ∙ ap (λ (copy : PinCopy). count_by (is_reclaimable copy) old.desk.pool) c.copy_of-copy.ensures.copied
