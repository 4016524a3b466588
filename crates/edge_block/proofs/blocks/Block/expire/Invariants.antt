use Rattle.std.proofs.Common.{◌≡◌, ◌+◌}
use Rattle.edge_block.specs.Slots.{slots_since, old_in, with_slots}
use Rattle.edge_block.proofs.blocks.Block.expire.Given as goal

abbrev pub invariant-loop-target : goal.invariant-loop-target
invariant-loop-target l = record {
  rest : with_slots l.self (slots_since l.time l.self.slots)
      ≡ with_slots l.initial.self (slots_since l.time l.initial.self.slots);
  counted : l.count + old_in l.time l.self.slots ≡ old_in l.time l.initial.self.slots;
}

abbrev pub decreases-loop-target : goal.decreases-loop-target
decreases-loop-target l = old_in l.time l.self.slots
