use Rattle.std.proofs.Common.{◌≡◌, ◌+◌, length, arith}
use Rattle.std.specs.Prelude.{Ok}
use Rattle.graph_types.specs.Limits.{most_operations}
use Rattle.batch_columns.specs.Dictionaries.{insertion_at, IsInserted}
use Rattle.batch_columns.proofs.OneMore.{one_longer, inserted_more}
use Rattle.desk_columns.specs.Feeding.{columns_of}
use Rattle.desk_columns.proofs.columns.batch_of.Goals as goal

pub loop-alloc-preserved : goal.loop-alloc-preserved
loop-alloc-preserved c =
    let op_at = insertion_at (columns_of c.args.insertions.now) in
    let old = c.loop-alloc.batch in
    let new = c.insert_at.new.batch in
    let kept = c.loop-alloc.invariant in
    let pushed : IsInserted most_operations (op_at c.loop-alloc.place) old new (Ok c.in-Ok.field-0) = c.in-Ok.ensures in
    let longer : length new ≡ length old + 1 = one_longer most_operations (op_at c.loop-alloc.place) old new c.in-Ok.field-0 pushed in
    record {
      at = omega (arith, longer, kept.at);
      within = omega (arith, longer, c.loop-alloc-test.true, c.len.ensures.count);
      fit = inserted_more op_at c.args.from c.loop-alloc.place old new c.in-Ok.field-0 kept.at kept.fit pushed;
    }
