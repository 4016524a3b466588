use Rattle.std.{proofs.Common.{◌∙◌, ◌%◌, ap, sym, List, arith}, specs.List.slice_get}
use Rattle.graph_types.specs.declared.batches.NamedOp.{NamedOp}
use Rattle.graph_version.specs.BatchHalls.{in_hall}
use Rattle.list_pieces.proofs.Pieces.{read_piece, read_past}
use Rattle.graph_version.proofs.batches.BatchList.get.Goals as goal

pub returns-in_err-get-clause-batch : goal.returns-in_err-get-clause-batch
returns-in_err-get-clause-batch c =
    rw (c.from_residual.ensures, ← c.self.view_is)
    (sym (read_past 8192 in_hall c.deref.result.now c.self.inside.halls.items c.args.place (omega arith) c.self.invariant.1
    c.deref.ensures.value (sym c.in_err-get.ensures.lookup.0)))

pub returns-clause-batch : goal.returns-clause-batch
returns-clause-batch c =
    rw (← c.self.view_is)
    (c.get-2.ensures ∙ ap (λ (l : List (List NamedOp)). slice_get l (c.args.place % 8192)) c.deref-2.ensures
    ∙ sym (read_piece 8192 in_hall c.deref.result.now c.self.inside.halls.items c.args.place (omega arith) c.self.invariant.1
    c.deref.ensures.value c.in_ok-get.field-0.now c.in_ok-get.ensures.lookup.3.0 (c.in_ok-get.ensures.lookup.3.1 _)))

pub returns-in_err-get-clause-few : goal.returns-in_err-get-clause-few
returns-in_err-get-clause-few c = let fits = c.self.invariant.2 in let long = c.self.invariant.0 in rw (← c.self.view_is)
    (omega (arith, long, fits))

pub returns-clause-few : goal.returns-clause-few
returns-clause-few c = let fits = c.self.invariant.2 in let long = c.self.invariant.0 in rw (← c.self.view_is)
    (omega (arith, long, fits))
