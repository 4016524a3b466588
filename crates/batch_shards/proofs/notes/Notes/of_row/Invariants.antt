use Rattle.std.proofs.Common.{◌≡◌, ℕ, ◌<◌, true, get_or}
use Rattle.batch_shards.specs.{Notes.has_target, Notes.may_stand, declared.row_blocks.RowBlock.RowBlock}
use Rattle.batch_shards.proofs.notes.Notes.of_row.Given as goal

abbrev pub invariant-loop-place : goal.invariant-loop-place
invariant-loop-place l =
    (target i : ℕ) (d : RowBlock) → i < l.place → has_target target (get_or l.row i d) ≡ true
    → may_stand l.notes target i ≡ true
