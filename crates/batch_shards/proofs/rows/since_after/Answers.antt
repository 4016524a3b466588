use Rattle.std.proofs.Common.{sym, subst, arith}
use Rattle.graph_types.specs.declared.changes.EdgeChange.{EdgeChange}
use Rattle.graph_types.proofs.PickedStamps.{IsFrom}
use Rattle.edge_block.proofs.YoungSlots.{change_young}
use Rattle.batch_shards.proofs.rows.since_after.Goals as goal

pub returns-in-Insert : goal.returns-in-Insert
returns-in-Insert c =
    let least = c.min.ensures in
    let from : IsFrom c.min.result c.args.change =
    subst (λ (e : EdgeChange). IsFrom c.min.result e) (sym c.in-Insert.is) (omega arith) in
    λ place row young. change_young c.min.result c.args.since c.args.change place row (omega arith) from young

pub returns-in-Incr : goal.returns-in-Incr
returns-in-Incr c =
    let least = c.min-in-Incr.ensures in
    let from : IsFrom c.min-in-Incr.result c.args.change =
    subst (λ (e : EdgeChange). IsFrom c.min-in-Incr.result e) (sym c.in-Incr.is) (omega arith) in
    λ place row young. change_young c.min-in-Incr.result c.args.since c.args.change place row (omega arith) from young

pub returns-in-Remove : goal.returns-in-Remove
returns-in-Remove c =
    let from : IsFrom c.args.since c.args.change = subst (λ (e : EdgeChange). IsFrom c.args.since e) (sym c.in-Remove.is) tt in
    λ place row young. change_young c.args.since c.args.since c.args.change place row (omega arith) from young
