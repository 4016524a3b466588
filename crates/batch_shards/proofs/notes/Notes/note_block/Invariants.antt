use Rattle.std.{proofs.Common.◌≡◌, proofs.Common.ℕ, proofs.Common.true, proofs.Common.◌||◌, specs.List.list_any}
use Rattle.edge_block.specs.{Slots.holds, Lending.edges_left}
use Rattle.edge_block.proofs.LentEntries.{lends}
use Rattle.batch_shards.specs.Notes.{may_stand, HasMore}
use Rattle.batch_shards.proofs.notes.Notes.note_block.Given as goal

abbrev pub invariant-loop-edge : goal.invariant-loop-edge
invariant-loop-edge l = record {
  noted : (target : ℕ) → list_any (holds target) l.block.slots ≡ true
      → (may_stand l.self target l.place || lends target (edges_left l.edge-iterator)) ≡ true;
  more : HasMore l.initial.self l.self;
}
