use Rattle.std.proofs.Common.{ap, arith}
use Rattle.batch_shards.{specs.{RowBlocks.opens, Groups.key_placed, Spending.{takes, act_time}}, proofs.Expiring.edge_owes}
use Rattle.batch_shards.proofs.open_rows.do_act.Goals as goal

pub returns-in_ok-outcome-in-Edge-clause-enough : goal.returns-in_ok-outcome-in-Edge-clause-enough
returns-in_ok-outcome-in-Edge-clause-enough c = λ t le.
    let owes = edge_owes t c.in-Edge.change (key_placed c.args.row.now.source.0 c.in-Edge.place) (opens c.args.row.now.blocks.items)
    (opens c.do_step.new.row.blocks.items) c.in_ok-outcome-in-Edge.ensures.row in
    let one = ap takes c.in-Edge.is in
    omega (arith, owes, one, c.in_ok-outcome-in-Edge.ensures.keeps.few)

pub returns-in_ok-count-in-Expire-clause-enough : goal.returns-in_ok-count-in-Expire-clause-enough
returns-in_ok-count-in-Expire-clause-enough c = λ t le.
    let none = ap takes c.in-Expire.is in
    let time = ap act_time c.in-Expire.is in
    let few = c.in_ok-count-in-Expire.ensures.enough t (omega (arith, le, time)) in
    omega (arith, few, none)
