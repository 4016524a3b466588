use Rattle.std.{proofs.Common.{◌∙◌, ◌%◌, ap, sym, List, ℕ, arith}, specs.List.slice_get}
use Rattle.vertex_names.specs.Groups.{in_text_group}
use Rattle.list_pieces.proofs.Pieces.{read_piece, read_past}
use Rattle.vertex_names.proofs.texts.Texts.name.Goals as goal

pub returns-in_err-get : goal.returns-in_err-get
returns-in_err-get c =
    rw (c.from_residual.ensures, ← c.self.view_is)
    (sym (read_past 32768 in_text_group c.deref.result.now c.self.inside.groups.items c.args.number (omega arith) c.self.invariant.1
    c.deref.ensures.value (sym c.in_err-get.ensures.lookup.0)))

pub returns : goal.returns
returns c =
    rw (← c.self.view_is)
    (c.name.ensures ∙ ap (λ (l : List (List ℕ)). slice_get l (c.args.number % 32768)) c.deref-2.ensures
    ∙ sym (read_piece 32768 in_text_group c.deref.result.now c.self.inside.groups.items c.args.number (omega arith) c.self.invariant.1
    c.deref.ensures.value c.in_ok-get.field-0.now c.in_ok-get.ensures.lookup.3.0 (c.in_ok-get.ensures.lookup.3.1 _)))
