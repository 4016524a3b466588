use Rattle.std.proofs.{Common.{arith, inl, inr, refl, rules}, lemmas.Grind.common_steps}
use Rattle.feed_csv.proofs.Faults.{fault_row}
use Rattle.script_server.specs.declared.script.ServeFault.TheVariants.{Memory, Read, Write}
use Rattle.script_server.proofs.{OneRecord.refused, RunEnd.{turn_broken, turn_unfed, turn_unread, turn_unwritten}}
use Rattle.script_server.proofs.script.turn.Goals as goal

pub returns-in-Ok-clause-turns : goal.returns-in-Ok-clause-turns
returns-in-Ok-clause-turns g c =
    let row =
    fault_row c.in-Err.fault.word c.args.feed.now c.next.new.self c.in_default.not-Read c.in_default.not-Memory
    c.in-Err.ensures.step.1 in (
      row.0,
      row.2,
      refused _ c.in-Err.fault.word _ _ _ _ row.1 c.requires.ready.server c.in-Ok.ensures.whole
          c.in-Ok.ensures.counted,
    )

pub returns-in-Err-print-clause-turns : goal.returns-in-Err-print-clause-turns
returns-in-Err-print-clause-turns g c =
    turn_unwritten c.in-Err.fault.word c.args.feed.now c.next.new.self c.args.run.now _ _ c.requires.ready
    (fault_row c.in-Err.fault.word c.args.feed.now c.next.new.self c.in_default.not-Read c.in_default.not-Memory
    c.in-Err.ensures.step.1) c.in-Err-print.ensures.part

pub returns-in_err-obey-in-Ok-Some-clause-turns : goal.returns-in_err-obey-in-Ok-Some-clause-turns
returns-in_err-obey-in-Ok-Some-clause-turns g c =
    let broken = turn_broken c.in-Ok-Some.command c.in-Ok-Some.field-0 c.args.feed.now c.next.new.self c.args.run.now
    _ _ _ c.requires.ready c.in-Ok-Some.field-0-is c.in-Ok-Some.ensures.step
    c.in_err-obey-in-Ok-Some.ensures.ends in
    first_of (search (rules, broken), grind (arith, common_steps, broken))

pub returns-in_ok-last_line-in-Read-clause-turns : goal.returns-in_ok-last_line-in-Read-clause-turns
returns-in_ok-last_line-in-Read-clause-turns g c =
    turn_unread c.in-Err.fault.at c.args.feed.now c.next.new.self c.args.run.now _ _ Read c.requires.ready
    (rw c.in-Read.is at c.in-Err.ensures.step.1) c.in-Err.ensures.step.0
    (inl (refl, c.in_ok-last_line-in-Read.ensures.whole))

pub returns-in_err-last_line-in-Read-clause-turns : goal.returns-in_err-last_line-in-Read-clause-turns
returns-in_err-last_line-in-Read-clause-turns g c =
    let stopped = turn_unread c.in-Err.fault.at c.args.feed.now c.next.new.self c.args.run.now _ _ Write
    c.requires.ready (rw c.in-Read.is at c.in-Err.ensures.step.1) c.in-Err.ensures.step.0
    (inr (refl, c.in_err-last_line-in-Read.ensures.part)) in
    first_of (search (rules, stopped), grind (arith, common_steps, stopped))

pub returns-in_ok-last_line-in-Memory-clause-turns : goal.returns-in_ok-last_line-in-Memory-clause-turns
returns-in_ok-last_line-in-Memory-clause-turns g c =
    turn_unfed c.in-Err.fault.at c.args.feed.now c.next.new.self c.args.run.now _ _ Memory c.requires.ready
    (rw c.in-Memory.is at c.in-Err.ensures.step.1) c.in-Err.ensures.step.0
    (inl (refl, c.in_ok-last_line-in-Memory.ensures.whole))

pub returns-in_err-last_line-in-Memory-clause-turns : goal.returns-in_err-last_line-in-Memory-clause-turns
returns-in_err-last_line-in-Memory-clause-turns g c =
    let stopped = turn_unfed c.in-Err.fault.at c.args.feed.now c.next.new.self c.args.run.now _ _ Write
    c.requires.ready (rw c.in-Memory.is at c.in-Err.ensures.step.1) c.in-Err.ensures.step.0
    (inr (refl, c.in_err-last_line-in-Memory.ensures.part)) in
    first_of (search (rules, stopped), grind (arith, common_steps, stopped))

pub obey-requires-clause-valid : goal.obey-requires-clause-valid
obey-requires-clause-valid g c κs within = rw c.in-Ok-Some.field-0-is at c.in-Ok-Some.ensures.valid
