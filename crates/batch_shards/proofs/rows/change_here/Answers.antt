use Rattle.std.proofs.{Common.rules, Common.◌≡◌, Common.true, Common.subst, Common.w64, lemmas.Int.to_z-of_z}
use Rattle.graph_types.proofs.ChangedContents.{weight_fits_word}
use Rattle.edge_block.{specs.Slots.has_room_for, proofs.Room.room_found}
use Rattle.edge_block.proofs.SlotTargets.{stamped_at}
use Rattle.batch_shards.proofs.rows.change_here.Goals as goal

pub change_edge-outcome-requires-clause-before : goal.change_edge-outcome-requires-clause-before
change_edge-outcome-requires-clause-before c =
    let r = stamped_at c.deref.result.now.slots c.args.target _ c.in-Some.ensures.block.stamped c.in-Some.ensures.edge.stands in
    rw (to_z-of_z w64 c.in-Some.edge.weight.now (weight_fits_word c.in-Some.edge.weight.now r.0))
    (record { weight = r.0; first = r.1; recent = r.2 })

pub set_edge-requires-clause-room : goal.set_edge-requires-clause-room
set_edge-requires-clause-room c =
    subst (λ b. has_room_for c.args.target b.slots ≡ true) c.deref.ensures
    (room_found c.args.target c.deref.result.now.slots _ c.in-Some.ensures.edge.stands)

pub returns-in-Absent : goal.returns-in-Absent
returns-in-Absent c = search rules
