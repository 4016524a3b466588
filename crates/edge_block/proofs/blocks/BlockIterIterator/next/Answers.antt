use Rattle.std.proofs.{Common.{◌≡◌, [], ap, map, arith, refl, length}, lemmas.Nat.Bits.bit_at-trailing_zeros}
use Rattle.std.specs.Int.{w32, RustNames.bit_and}
use Rattle.graph_types.proofs.Numbers.{due_fits}
use Rattle.lane_scan.specs.Masks.{selected}
use Rattle.lane_scan.proofs.MaskPlaces.{due_lives}
use Rattle.edge_block.specs.{Slots.edge_slot, Slots.edges_in, Lending.lent_in}
use Rattle.edge_block.proofs.{Places.not_free_at, Views.{edges_none, edges_next, lent_next}}
use Rattle.edge_block.proofs.blocks.BlockIterIterator.next.Goals as goal

pub returns-then-due-eq0-clause-steps : goal.returns-then-due-eq0-clause-steps
returns-then-due-eq0-clause-steps c =
    let none : edges_in (selected c.args.self.now.mask c.args.self.now.block.now.slots) ≡ [] =
    rw (← c.block.view_is)
    (edges_none c.args.self.now.mask c.block.inside.live c.block.inside.targets c.block.inside.weights c.block.inside.firsts
    c.block.inside.recents c.if-due-eq0.true) in
    (ap (map (lent_in c.args.self.now.block.now)) none, ap (map (lent_in c.args.self.now.block.now)) none)

pub edge_at-requires-clause-has_edge : goal.edge_at-requires-clause-has_edge
edge_at-requires-clause-has_edge c =
    let low = bit_at-trailing_zeros w32 (bit_and c.args.self.now.mask c.block.inside.live) (omega arith)
    (due_fits c.args.self.now.mask c.block.inside.live (omega arith)) in
    rw (← c.block.view_is)
    (not_free_at c.block.inside.live c.block.inside.targets c.block.inside.weights c.block.inside.firsts c.block.inside.recents _
    low.0 (due_lives c.args.self.now.mask c.block.inside.live _ low.1))

pub returns-clause-steps : goal.returns-clause-steps
returns-clause-steps c =
    let edge =
    edge_slot c.edge_at.result.target.now c.edge_at.result.weight.now c.edge_at.result.first.now c.edge_at.result.recent.now in
    lent_next c.args.self.now.block.now c.edge_at.result.kind.0 edge _ _ c.edge_at.ensures.kind
    (rw (← c.block.view_is)
    (edges_next c.args.self.now.mask c.block.inside.live c.block.inside.targets c.block.inside.weights c.block.inside.firsts
    c.block.inside.recents _ edge
    (due_fits c.args.self.now.mask c.block.inside.live (omega arith)) (omega arith) refl
    (rw (← c.block.view_is) at c.edge_at.ensures.edge)))

pub returns-clause-goes : goal.returns-clause-goes
returns-clause-goes c =
    let fewer = ap length (returns-clause-steps c) in
    record { on = λ _. (tt, tt, omega (arith, fewer)); keeps = tt; rests = λ _. tt }
