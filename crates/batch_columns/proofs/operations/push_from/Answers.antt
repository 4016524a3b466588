use Rattle.std.proofs.Common.{◌≡◌, ◌+◌, ◌-◌, length, arith, rules}
use Rattle.batch_columns.specs.Operations.{table_of, operation_at, first_out}
use Rattle.batch_columns.proofs.OneMore.{extended_more, one_longer, own_stay}
use Rattle.batch_columns.proofs.operations.push_from.Goals as goal

pub loop-alloc-preserved : goal.loop-alloc-preserved
loop-alloc-preserved c =
    let t = table_of c.args.operations.now in
    let pushed = rw c.in-Ok.is at c.push_at.ensures in
    let longer = one_longer c.args.limit (operation_at t c.loop-alloc.place) c.loop-alloc.batch c.push_at.new.batch c.in-Ok.field-0 pushed in
    let extended = extended_more c.args.limit t c.args.done.now c.loop-alloc.place c.args.batch.now c.loop-alloc.batch
    c.push_at.new.batch c.in-Ok.field-0 c.loop-alloc.invariant.order c.loop-alloc.invariant.extended pushed in
    record {
      told = c.loop-alloc.invariant.told;
      order = omega arith;
      within = omega arith;
      few = omega (arith, c.loop-alloc.invariant.few, longer);
      room = omega arith;
      extended = extended;
      own = own_stay t c.args.done.now (c.loop-alloc.place + 1 - c.args.done.now) c.args.batch.now c.push_at.new.batch extended;
    }

pub returns-else-place-count-clause-extended : goal.returns-else-place-count-clause-extended
returns-else-place-count-clause-extended c =
    let (ops, are, is) = c.loop-alloc.invariant.extended in
    let few = c.loop-alloc.invariant.room in
    let first : c.loop-alloc.place ≡ first_out c.args.limit (table_of c.args.operations.now) (length c.args.batch.now) c.args.done.now =
    omega arith in
    record { alike = search rules; ops = ops; done_is = first; are = are; new_is = is }

pub returns-after-loop-alloc-clause-extended : goal.returns-after-loop-alloc-clause-extended
returns-after-loop-alloc-clause-extended c =
    let (ops, are, is) = c.loop-alloc.invariant.extended in
    let few = c.loop-alloc.invariant.room in
    let first : c.loop-alloc.place ≡ first_out c.args.limit (table_of c.args.operations.now) (length c.args.batch.now) c.args.done.now =
    omega arith in
    record { alike = search rules; ops = ops; done_is = first; are = are; new_is = is }
