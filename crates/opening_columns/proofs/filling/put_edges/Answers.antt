use Rattle.std.proofs.Common.{◌≡◌, ◌<◌, ◌∙◌, ℕ, List, ap, sym, subst, arith, IsTrue, get_or, take, length, w64, Option}
use Rattle.std.proofs.lemmas.{Int.to_z-of_z, List.{take_more, length-take-le}}
use Rattle.graph_types.{specs.declared.ids.Edge.Edge, proofs.ChangedContents.weight_fits_word}
use Rattle.edge_block.specs.Slots.{BlockView, Slot, has_room_for, put_slot, with_slots}
use Rattle.opening_columns.specs.Runs.{slot_with, slots_of_run}
use Rattle.opening_columns.proofs.SlotLists.{slots_room, slots_put, targets_apart}
use Rattle.opening_columns.proofs.NoEdge.{no_edge}
use Rattle.opening_columns.proofs.filling.put_edges.Goals as goal

pub put-requires-clause-room : goal.put-requires-clause-room
put-requires-clause-room c =
    let i : ℕ = c.loop-edge.edge-index in
    let edges : List Edge = c.args.edges.now in
    let t = (get_or edges i no_edge).target.0 in
    let few = c.requires.run.few in
    let long = length-take-le i edges (omega arith) in
    subst (λ (s : List (Option Slot)). IsTrue (has_room_for t s)) (sym (ap (λ (b : BlockView). b.slots) c.loop-edge.invariant))
    (slots_room (take i edges) t (omega arith))

pub loop-edge-preserved : goal.loop-edge-preserved
loop-edge-preserved c =
    let i : ℕ = c.loop-edge.edge-index in
    let edges : List Edge = c.args.edges.now in
    let lt : i < length edges = omega arith in
    let e : Edge = get_or edges i no_edge in
    let few = c.requires.run.few in
    let long = length-take-le i edges (omega arith) in
    let old : BlockView = c.args.block.now in
    let inv = c.loop-edge.invariant in
    let fits = to_z-of_z w64 e.weight (weight_fits_word e.weight (c.requires.range i no_edge lt).weight) in
    let put : c.put.new.self ≡ with_slots c.loop-edge.block (put_slot (slot_with e) c.loop-edge.block.slots) = cc (c.put.ensures, fits) in
    put ∙ (λ j. with_slots (inv j) (put_slot (slot_with e) (inv j).slots))
    ∙ ap (with_slots old) (slots_put (take i edges) e (omega arith) (targets_apart edges i no_edge c.requires.rising c.requires.run lt)
    ∙ ap slots_of_run (sym (take_more edges i no_edge lt)))
