use Rattle.std.proofs.Common.{rules, refl, length, sym, ap, ◌∙◌, ◌≡◌}
use Rattle.std.specs.Prelude.{Some, Err, slice_get}
use Rattle.script_lines.specs.declared.words.Word.TheVariants.{NotOpen}
use Rattle.stream_store.specs.Seats.{held_version}
use Rattle.script_commands.specs.{Slots.{held_slots, held_of}, States.version_in}
use Rattle.script_commands.proofs.{Commands.free_there, Commands.held_there, MachineMoves.open_moves}
use Rattle.script_commands.proofs.server.Server.open.Goals as goal

pub returns-in_ok-acquire-in-Err-NotOpen-clause-machine : goal.returns-in_ok-acquire-in-Err-NotOpen-clause-machine
returns-in_ok-acquire-in-Err-NotOpen-clause-machine c = λ start here events is runs shows.
    let last = c.args.self.now.desk.desk.last in
    let refused : version_in (slice_get (held_slots c.args.self.now.slots) c.args.slot) ≡ Err NotOpen = search rules in
    open_moves c.args.self.now _ c.args.slot (length last.batches) (held_of last) _ here refl
    c.acquire.ensures.slots.pinned c.in_ok-acquire-in-Err-NotOpen.ensures.floor refl (free_there _ refused)
    c.in_ok-acquire-in-Err-NotOpen.ensures.held shows

pub returns-in-Ok-clause-obeys : goal.returns-in-Ok-clause-obeys
returns-in-Ok-clause-obeys c = λ s shows.
    let held = held_there c.args.self.now.slots.sessions.items c.args.slot c.in-Ok.field-0.now c.in-Ok.ensures.session in
    let there : slice_get s.held c.args.slot ≡ Some (Some (held_of (held_version c.in-Ok.field-0.now))) =
    ap (λ held. slice_get held c.args.slot) (sym shows.held) ∙ held in
    (rw there refl, shows)
