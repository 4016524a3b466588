use Rattle.std.proofs.Common.{◌≡◌, subst, rules}
use Rattle.store_steps.specs.{Desks.DeskView, Steps.{SimulatesAt, recycling}}
use Rattle.stream_store.proofs.posting.Desk.collect.Goals as goal

pub returns-clause-steps : goal.returns-clause-steps
returns-clause-steps c =
    let same : c.in-Some.kept ≡ c.args.self.now.desk = search rules in
    subst (λ (d : DeskView). SimulatesAt c.args.copy.now d (recycling c.args.copy.now d.pool) c.collect.new.self) same
    c.collect.ensures.steps
