use Rattle.std.proofs.Common.{◌≡◌, ◌∙◌, ◌/◌, ◌%◌, inl, inr, ap, List, set, get_or, rules, arith}
use Rattle.std.specs.{Result.IsOk, declared.sync.Arc.Arc, declared.alloc.Global.Global}
use Rattle.edge_block.specs.Slots.{BlockView}
use Rattle.graph_version.specs.{Parts.in_part, declared.row_page.Part.Part}
use Rattle.list_pieces.proofs.Full.{set_piece}
use Rattle.graph_version.proofs.row_page.put_in_part.Goals as goal

pub returns-clause-rows : goal.returns-clause-rows
returns-clause-rows c =
    let h : Arc Part Global = c.index-parts-place.result in
    let same : c.in_ok-make_mut.field-0.now ≡ in_part (get_or c.args.parts.now (c.args.place / 8) h) =
    elim c.in_ok-make_mut.ensures.value [ inl e ↦ e | inr e ↦ e ] in
    let ok : IsOk c.make_mut.result = search rules in
    let lt = c.requires.place in
    set_piece 8 in_part c.args.parts.now c.args.place (c.args.place / 8) (c.args.place % 8) _ h
    c.args.row c.requires.parts (omega arith) (omega arith) (omega arith)
    (c.make_mut.follows.holds c.set-before.new.self ok ∙ c.set-before.ensures
    ∙ ap (λ (p : List (List BlockView)). set p (c.args.place % 8) c.args.row) same)
