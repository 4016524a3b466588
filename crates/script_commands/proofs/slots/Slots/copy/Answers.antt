use Rattle.std.proofs.Common.{rules, ap, ◌≡◌, ◌≤◌, ◌∙◌, length}
use Rattle.block_reclamation.specs.Copies.{floor_of, copy_of}
use Rattle.script_commands.proofs.SlotLaws.{copy_is, slots_raised}
use Rattle.script_commands.proofs.slots.Slots.copy.Goals as goal

pub returns-clause-slots : goal.returns-clause-slots
returns-clause-slots c =
    let number : c.number-last.result ≡ length c.args.desk.now.desk.last.batches = search rules in
    let below : floor_of c.raise.result ≤ length c.args.desk.now.desk.last.batches =
    rw number at c.raise.ensures.least.below_last in
    slots_raised c.args.desk.now.desk.last c.args.self.now.board c.raise.new.self c.args.self.now.seats.items
    c.args.self.now.sessions.items (floor_of c.raise.result) c.raise.ensures.raised below c.requires

pub returns-clause-copy : goal.returns-clause-copy
returns-clause-copy c =
    let number : c.number-last.result ≡ length c.args.desk.now.desk.last.batches = search rules in
    c.raise.ensures.copied ∙ ap (λ n. copy_of n c.args.self.now.board.pins) number
    ∙ copy_is (length c.args.desk.now.desk.last.batches) (length c.args.desk.now.desk.last.batches) c.args.self.now.board
    c.args.self.now.sessions.items c.requires.pinned c.requires.few
