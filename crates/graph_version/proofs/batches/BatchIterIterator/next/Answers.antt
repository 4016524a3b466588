use Rattle.std.proofs.{Common.length, Common.sym, Common.ap, Common.arith, lemmas.Option.slice_get_within}
use Rattle.list_pieces.proofs.Left.{drop_past, drop_next}
use Rattle.graph_version.proofs.batches.BatchIterIterator.next.Goals as goal

pub returns-in_err-batch-clause-steps : goal.returns-in_err-batch-clause-steps
returns-in_err-batch-clause-steps c =
    let left = drop_past c.args.self.now.batches.now c.args.self.now.place (sym c.in_err-batch.ensures.batch) in
    rw c.from_residual.ensures (left, left)

pub overflow_add-self : goal.overflow_add-self
overflow_add-self c =
    let lt = slice_get_within c.args.self.now.batches.now c.args.self.now.place c.in_ok-batch.batch.now
    (sym c.in_ok-batch.ensures.batch) in
    let few = c.in_ok-batch.ensures.few in
    omega (arith, lt, few)

pub returns-clause-steps : goal.returns-clause-steps
returns-clause-steps c = drop_next c.args.self.now.batches.now c.args.self.now.place c.in_ok-batch.batch.now
    (sym c.in_ok-batch.ensures.batch)

pub returns-clause-goes : goal.returns-clause-goes
returns-clause-goes c =
    let fewer = ap length (returns-clause-steps c) in
    record { on = λ _. (tt, tt, omega (arith, fewer)); keeps = tt; rests = λ _. tt }
