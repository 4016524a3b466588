use Rattle.std.proofs.Common.{subst, get_or, arith}
use Rattle.batch_shards.{specs.Spending.AreListed, specs.Spending.IsGrouped, proofs.SourceSteps.edge_behind}
use Rattle.batch_shards.proofs.groups.edge_behind.Goals as goal

pub returns-in-Some : goal.returns-in-Some
returns-in-Some c =
    let listed : AreListed c.requires.groups.0 c.args.steps.now c.in-Some.groups =
    subst (IsGrouped c.requires.groups.0 c.args.steps.now) c.in-Some.is c.requires.groups.2 in
    edge_behind c.args.steps.now c.args.row c.args.place c.args.edge (get_or c.in-Some.groups.next.items c.args.place 0) _
    c.requires.place c.requires.edge (λ s here. listed.are.nexts c.args.row c.args.place s (omega arith) c.requires.place here)
    c.edge_after.ensures
