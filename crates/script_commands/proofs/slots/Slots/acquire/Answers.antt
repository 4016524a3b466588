use Rattle.std.proofs.{Common.{rules, arith, ◌≡◌, ◌<◌, length}, lemmas.Option.{get_or_from_slice_get, slice_get_within}}
use Rattle.std.specs.Prelude.{None, Some, slice_get}
use Rattle.graph_types.proofs.ListPlaces.{read_some}
use Rattle.script_commands.proofs.SlotLaws.{held_acquired, slots_acquired, slots_back}
use Rattle.script_commands.proofs.slots.Slots.acquire.Goals as goal

pub returns-in-Ok-clause-slots : goal.returns-in-Ok-clause-slots
returns-in-Ok-clause-slots c =
    let free : slice_get c.args.self.now.sessions.items c.from-slot.result ≡ Some None = search rules in
    let within = slice_get_within c.args.self.now.sessions.items c.from-slot.result None free in
    let below : c.from-slot.result < length c.args.self.now.seats.items =
    omega (arith, within, c.requires.slots.same_length) in
    rw c.take.ensures.after
    (slots_acquired _ c.args.self.now.board c.acquire_lent.new.board c.args.self.now.seats.items c.args.self.now.sessions.items
    c.from-slot.result c.in-Some.seat c.in-Ok.session c.requires.slots c.requires.version free
    (get_or_from_slice_get c.args.self.now.seats.items c.from-slot.result (Some c.in-Some.seat) None
    (read_some c.args.self.now.seats.items c.from-slot.result c.index_mut.result.now c.take.result c.in-Some.seat below
    c.index_mut.ensures.value c.take.ensures.value c.in-Some.is))
    c.in-Ok.ensures.session c.in-Ok.ensures.pinned)

pub returns-in-Err-clause-slots : goal.returns-in-Err-clause-slots
returns-in-Err-clause-slots c =
    let free : slice_get c.args.self.now.sessions.items c.from-slot.result ≡ Some None = search rules in
    let within = slice_get_within c.args.self.now.sessions.items c.from-slot.result None free in
    let below : c.from-slot.result < length c.args.self.now.seats.items =
    omega (arith, within, c.requires.slots.same_length) in
    let same : c.in-Err.seat ≡ c.in-Some.seat = search rules in
    slots_back _ c.args.self.now.board c.acquire_lent.new.board c.args.self.now.seats.items c.args.self.now.sessions.items
    c.from-slot.result _ c.in-Some.seat c.in-Err.seat c.requires.slots
    (get_or_from_slice_get c.args.self.now.seats.items c.from-slot.result (Some c.in-Some.seat) None
    (read_some c.args.self.now.seats.items c.from-slot.result c.index_mut.result.now c.take.result c.in-Some.seat below
    c.index_mut.ensures.value c.take.ensures.value c.in-Some.is))
    same c.in-Err.ensures.unchanged

pub returns-in-Ok-clause-held : goal.returns-in-Ok-clause-held
returns-in-Ok-clause-held c =
    rw c.from-slot.ensures
    (held_acquired c.args.self.now.sessions.items c.args.slot c.in-Some.seat c.in-Ok.session c.args.desk.now.desk.last
    c.in-Ok.ensures.session)
