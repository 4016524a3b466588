use Rattle.std.proofs.Common.{◌≡◌, ◌∙◌, ◌<◌, ℕ, List, length, get_or, sym, ap, subst, nat_eq}
use Rattle.std.specs.{Map.lookup, declared.sync.Arc.Arc, declared.alloc.Global.Global}
use Rattle.vertex_names.{specs.{declared.piece.Piece.Piece, Order.{firsts, last_place}}, proofs.Splits.found_read}
use Rattle.vertex_names.proofs.part.Part.first.Goals as goal

pub returns : goal.returns
returns c =
    let ps : List (ℕ × Arc Piece Global) = c.self.inside.pieces.items in
    let x : ℕ × Arc Piece Global = c.in_ok-get.field-0.now in
    let place : c.last_at-place.result ≡ last_place (firsts ps) c.args.hash =
    c.last_at-place.ensures.place
    ∙ ap (λ (l : List (ℕ × Arc Piece Global)). last_place (firsts l) c.args.hash) c.deref.ensures.value in
    let lt : c.last_at-place.result < length ps =
    subst (λ (l : List (ℕ × Arc Piece Global)). c.last_at-place.result < length l) c.deref-2.ensures.value
    c.in_ok-get.ensures.lookup.3.0 in
    let is : x ≡ get_or ps c.last_at-place.result x =
    c.in_ok-get.ensures.lookup.3.1 x
    ∙ ap (λ (l : List (ℕ × Arc Piece Global)). get_or l c.last_at-place.result x) c.deref-2.ensures.value in
    rw (← c.self.view_is)
    (c.first.ensures ∙ ap (λ (es : List (ℕ × ℕ)). lookup (nat_eq c.args.hash) es) c.deref-3.ensures
    ∙ sym (found_read ps c.args.hash c.last_at-place.result x place lt is))
