use Rattle.std.{proofs.Common.◌≡◌, proofs.Common.◌-◌, proofs.Common.◌<◌, proofs.Common.ℕ, proofs.Common.map, proofs.Common.length, specs.Arc.arc_value}
use Rattle.std.specs.Prelude.{slice_index}
use Rattle.edge_block.specs.declared.blocks.Block.{Block}
use Rattle.block_pool.specs.{Kept.{statuses, popped, IsNumbers, IsRoomier, IsReadyNumber, HasRoomFor}, Pools.AreBodies, Paging.HasRoom}
use Rattle.block_pool.proofs.pool.gather.Given as goal

abbrev pub invariant-loop-i : goal.invariant-loop-i
invariant-loop-i l = record {
  kept : IsNumbers l.numbers;
  same : IsRoomier l.initial.numbers l.numbers;
  bodies : AreBodies (length l.initial.numbers.statuses.items) l.bodies.items;
  rooms : HasRoomFor (statuses l.initial.numbers) l.bodies.rooms;
  granted : l.granted.items ≡ popped l.initial.numbers.free.items l.initial.numbers.free_len l.i;
  blocks : map (λ b. (arc_value {X = Block} b).number) l.blocks.items ≡ l.granted.items;
  ready : (before : ℕ) → before < l.i → IsReadyNumber l.numbers before;
  taken : (before : ℕ) → before < l.i
      → HasRoom l.bodies.rooms (slice_index l.initial.numbers.free.items (l.initial.numbers.free_len - 1 - before));
}
