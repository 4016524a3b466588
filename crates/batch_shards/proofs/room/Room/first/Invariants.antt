use Rattle.std.proofs.Common.{◌≡◌, ℕ, ◌<◌, length, get_or, false}
use Rattle.batch_shards.{specs.declared.row_blocks.RowBlock.RowBlock, proofs.RowSteps.at_room}
use Rattle.batch_shards.proofs.room.Room.first.Given as goal

abbrev pub invariant-loop-place : goal.invariant-loop-place
invariant-loop-place l =
    (k : ℕ) (d : RowBlock) → k < l.place → k < length l.row → at_room l.kind.0 (get_or l.row k d) ≡ false
