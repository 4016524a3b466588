use Rattle.std.proofs.Common.{rules, refl, inl}
use Rattle.graph_version.specs.Batches.{batch_value}
use Rattle.desk_columns.proofs.Inserted.{tried_again, tried_once}
use Rattle.desk_columns.proofs.columns.apply_collecting.Goals as goal

pub returns-in-Ok : goal.returns-in-Ok
returns-in-Ok c = record { from = c.args.desk.now; collected = inl refl; applied = c.in-Ok.ensures }

pub returns-in-Err : goal.returns-in-Err
returns-in-Err c =
    tried_once c.args.desk.now c.apply_once.new.desk (batch_value c.args.batch) c.in-Err.error (λ needed left same. search (rules, same))
    c.in-Err.ensures

pub returns-in-Err-PoolEmpty : goal.returns-in-Err-PoolEmpty
returns-in-Err-PoolEmpty c =
    let empty = c.in-Err-PoolEmpty in
    let refused = rw empty.field-0-is at empty.ensures.refused in
    let collected = c.collect-collected.ensures in
    tried_again c.args.desk.now c.apply_once.new.desk c.collect-collected.new.self c.apply_once-in-Err-PoolEmpty.new.desk
    (batch_value c.args.batch) (batch_value c.args.again) empty.field-0-0 empty.field-0-1 c.apply_once-in-Err-PoolEmpty.result
    empty.ensures.unchanged c.requires.again refused
    (record { desk = collected.collected; board = collected.board; held = collected.held })
    c.apply_once-in-Err-PoolEmpty.ensures
