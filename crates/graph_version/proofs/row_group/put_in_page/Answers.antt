use Rattle.std.proofs.{Common.{◌≡◌, ◌∙◌, ◌/◌, ◌%◌, inl, inr, ap, List, set, get_or, rules, arith}, lemmas.Result.on_ok_weaker}
use Rattle.std.specs.{Result.IsOk, declared.sync.Arc.Arc, declared.alloc.Global.Global}
use Rattle.edge_block.specs.Slots.{BlockView}
use Rattle.graph_version.specs.{RowPages.in_page, declared.row_page.Page.Page}
use Rattle.list_pieces.proofs.Full.{set_piece}
use Rattle.graph_version.proofs.row_group.put_in_page.Goals as goal

pub returns-clause-rows : goal.returns-clause-rows
returns-clause-rows c =
    let h : Arc Page Global = c.index-pages-place.result in
    let same : c.in_ok-make_mut.field-0.now ≡ in_page (get_or c.args.pages.now (c.args.place / 64) h) =
    elim c.in_ok-make_mut.ensures.value [ inl e ↦ e | inr e ↦ e ] in
    let ok : IsOk c.make_mut.result = search rules in
    let lt = c.requires.place in
    on_ok_weaker c.put.result
    (λ put.
    set_piece 64 in_page c.args.pages.now c.args.place (c.args.place / 64) (c.args.place % 64) _ h
    c.args.row c.requires.pages (omega arith) (omega arith) (omega arith)
    (c.make_mut.follows.holds c.put.new.self ok ∙ put
    ∙ ap (λ (p : List (List BlockView)). set p (c.args.place % 64) c.args.row) same))
    c.put.ensures.rows
