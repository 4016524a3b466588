use Rattle.std.{proofs.Common.{◌∙◌, ◌%◌, ap, sym, List, arith}, specs.List.slice_get}
use Rattle.graph_types.specs.declared.batches.NamedOp.{NamedOp}
use Rattle.graph_version.specs.BatchGroups.{in_group}
use Rattle.list_pieces.proofs.Pieces.{read_piece, read_past}
use Rattle.graph_version.proofs.batch_hall.BatchHall.get.Goals as goal

pub returns-in_err-get : goal.returns-in_err-get
returns-in_err-get c =
    rw (c.from_residual.ensures, ← c.self.view_is)
    (sym (read_past 256 in_group c.deref.result.now c.self.inside.groups.items c.args.place (omega arith) c.self.invariant.1
    c.deref.ensures.value (sym c.in_err-get.ensures.lookup.0)))

pub returns : goal.returns
returns c =
    rw (← c.self.view_is)
    (c.get-2.ensures ∙ ap (λ (l : List (List NamedOp)). slice_get l (c.args.place % 256)) c.deref-2.ensures
    ∙ sym (read_piece 256 in_group c.deref.result.now c.self.inside.groups.items c.args.place (omega arith) c.self.invariant.1
    c.deref.ensures.value c.in_ok-get.field-0.now c.in_ok-get.ensures.lookup.3.0 (c.in_ok-get.ensures.lookup.3.1 _)))
