use Rattle.std.proofs.Common.{refl, length}
use Rattle.stream_store.specs.Seats.{held_version}
use Rattle.script_commands.{specs.Slots.held_of, proofs.{Commands.held_there, MachineMoves.close_moves}}
use Rattle.script_commands.proofs.server.Server.close.Goals as goal

pub returns-in_ok-close_line-in-Ok-clause-machine : goal.returns-in_ok-close_line-in-Ok-clause-machine
returns-in_ok-close_line-in-Ok-clause-machine c = λ start here events is runs shows.
    let last = c.args.self.now.desk.desk.last in
    close_moves c.args.self.now _ c.args.slot (length last.batches) (held_of (held_version c.in-Ok.field-0.now)) _ here refl
    (c.release.ensures.slots last c.requires.server.slots).pinned c.release.ensures.floor
    (held_there c.args.self.now.slots.sessions.items c.args.slot c.in-Ok.field-0.now c.in-Ok.ensures.session)
    (c.release.ensures.released last c.requires.server.slots) shows
