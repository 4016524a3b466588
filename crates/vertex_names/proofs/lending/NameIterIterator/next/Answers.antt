use Rattle.std.proofs.{Common.length, Common.sym, Common.ap, Common.arith, lemmas.Option.slice_get_within}
use Rattle.list_pieces.proofs.Left.{drop_past, drop_next}
use Rattle.vertex_names.proofs.lending.NameIterIterator.next.Goals as goal

pub returns-in_err-name-clause-steps : goal.returns-in_err-name-clause-steps
returns-in_err-name-clause-steps c =
    let left = drop_past c.args.self.now.book.now.names c.args.self.now.number (sym c.in_err-name.ensures.name) in
    rw c.from_residual.ensures (left, left)

pub overflow_add-self : goal.overflow_add-self
overflow_add-self c =
    let lt = slice_get_within c.args.self.now.book.now.names c.args.self.now.number c.in_ok-name.name.now
    (sym c.in_ok-name.ensures.name) in
    let few = c.in_ok-name.ensures.few in
    omega (arith, lt, few)

pub returns-clause-steps : goal.returns-clause-steps
returns-clause-steps c = drop_next c.args.self.now.book.now.names c.args.self.now.number c.in_ok-name.name.now
    (sym c.in_ok-name.ensures.name)

pub returns-clause-goes : goal.returns-clause-goes
returns-clause-goes c =
    let fewer = ap length (returns-clause-steps c) in
    record { on = λ _. (tt, tt, omega (arith, fewer)); keeps = tt; rests = λ _. tt }
