use Rattle.std.proofs.Common.{◌≡◌, ◌∙◌, arith}
use Rattle.desk_columns.specs.Feeding.{columns_of}
use Rattle.desk_columns.proofs.Inserted.{next_of, several}
use Rattle.desk_columns.proofs.columns.insert_next.Goals as goal
use Rattle.desk_columns.proofs.columns.insert_next.Goals.{then-most-gt1+then-not-is_small+in-Err+else-is_out_of_memory, else-most-gt1}

pub returns-clause-taken : goal.returns-clause-taken
returns-clause-taken c =
    let desk : c.if-most-gt1.desk ≡ c.args.desk.now = elim c.if-most-gt1.branch [
      | then-most-gt1+then-not-is_small+in-Err+else-is_out_of_memory w ↦
          w.desk-is ∙ w.in-Err.ensures.unchanged (several c.args.desk.now c.parts_for-most.result c.parts_for-most.ensures (omega (arith, w.if-most-gt1)))
      | else-most-gt1 w ↦ w.desk-is
    ] in
    let counts : c.if-most-gt1.counts ≡ c.args.counts.now = elim c.if-most-gt1.branch [
      | then-most-gt1+then-not-is_small+in-Err+else-is_out_of_memory w ↦ w.counts-is ∙ w.in-Err.ensures.counts
      | else-most-gt1 w ↦ w.counts-is
    ] in
    next_of (columns_of c.args.insertions.now) c.args.from c.args.desk.now c.if-most-gt1.desk c.insert_batch-2.new.desk c.args.counts.now
    c.if-most-gt1.counts c.insert_batch-2.new.counts c.insert_batch-2.result desk counts c.requires.within c.insert_batch-2.ensures.count
    c.insert_batch-2.ensures.taken
