use Rattle.std.proofs.{Common.{arith, inl, inr, refl, rules}, lemmas.Grind.common_steps}
use Rattle.script_server.specs.declared.script.ServeFault.TheVariants.{Memory, Start, Write}
use Rattle.script_server.proofs.OneRecord.{lacks_memory, lacks_store, obeyed_unwritten}
use Rattle.script_server.proofs.script.Run.obey.Goals as goal

pub returns-in-Err-clause-ends : goal.returns-in-Err-clause-ends
returns-in-Err-clause-ends g c =
    obeyed_unwritten c.args.command c.args.self.now _ _ _ (λ here shows. (c.in-Ok.ensures.obeys here.state shows.server).0)
    c.in-Err.ensures.part

pub returns-in_err-break_off-in-Err-Memory-clause-ends : goal.returns-in_err-break_off-in-Err-Memory-clause-ends
returns-in_err-break_off-in-Err-Memory-clause-ends g c =
    let broken = lacks_memory c.args.command c.args.self.now Write _ _ c.requires.room
    (inr (refl, c.in_err-break_off-in-Err-Memory.ensures.part)) in
    first_of (search (rules, broken), grind (arith, common_steps, broken))

pub returns-in_ok-break_off-in-Err-Memory-clause-ends : goal.returns-in_ok-break_off-in-Err-Memory-clause-ends
returns-in_ok-break_off-in-Err-Memory-clause-ends g c =
    lacks_memory c.args.command c.args.self.now Memory _ _ c.requires.room
    (inl (refl, c.in_ok-break_off-in-Err-Memory.ensures.whole))

pub returns-in_err-break_off-in-Err-Start-clause-ends : goal.returns-in_err-break_off-in-Err-Start-clause-ends
returns-in_err-break_off-in-Err-Start-clause-ends g c =
    let broken = lacks_store c.args.command c.args.self.now Write _ _ (c.in-Err-Start.ensures.stops _ c.in-Err-Start.field-0-is).1
    (inr (refl, c.in_err-break_off-in-Err-Start.ensures.part)) in
    first_of (search (rules, broken), grind (arith, common_steps, broken))

pub returns-in_ok-break_off-in-Err-Start-clause-ends : goal.returns-in_ok-break_off-in-Err-Start-clause-ends
returns-in_ok-break_off-in-Err-Start-clause-ends g c =
    lacks_store c.args.command c.args.self.now Start _ _ (c.in-Err-Start.ensures.stops _ c.in-Err-Start.field-0-is).1
    (inl (refl, c.in_ok-break_off-in-Err-Start.ensures.whole))
