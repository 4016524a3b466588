use Rattle.std.{proofs.{Common.{rules, ◌≡◌}, lemmas.Option.slice_get_within}, specs.Prelude.{Some, slice_get}}
use Rattle.graph_types.proofs.ListPlaces.{read_some}
use Rattle.script_commands.proofs.SlotLaws.{held_released, slots_released}
use Rattle.script_commands.proofs.slots.Slots.release.Goals as goal

pub returns-clause-slots : goal.returns-clause-slots
returns-clause-slots c = λ last slots.
    let there : slice_get c.args.self.now.sessions.items c.from-slot.result ≡ Some (Some c.requires.held.0) = search rules in
    let below = slice_get_within c.args.self.now.sessions.items c.from-slot.result (Some c.requires.held.0) there in
    rw c.take.ensures.after
    (slots_released last c.args.self.now.board c.release_lent.new.board c.args.self.now.seats.items
    c.args.self.now.sessions.items c.from-slot.result c.release_lent.result c.in-Some.session slots
    (read_some c.args.self.now.sessions.items c.from-slot.result c.index_mut.result.now c.take.result c.in-Some.session below
    c.index_mut.ensures.value c.take.ensures.value c.in-Some.is)
    c.release_lent.ensures.seat c.release_lent.ensures.unpinned)

pub returns-clause-released : goal.returns-clause-released
returns-clause-released c = λ last slots.
    rw (c.from-slot.ensures, c.take.ensures.after) (held_released c.args.self.now.sessions.items c.args.slot)
