use Rattle.std.proofs.{Common.{◌≡◌, ◌∙◌, ◌/◌, ◌%◌, inl, inr, ap, List, set, get_or, rules, arith}, lemmas.Result.on_ok_weaker}
use Rattle.std.specs.{Result.IsOk, declared.sync.Arc.Arc, declared.alloc.Global.Global}
use Rattle.edge_block.specs.Slots.{BlockView}
use Rattle.graph_version.specs.{RowGroups.in_group, declared.row_group.Group.Group}
use Rattle.list_pieces.proofs.Full.{set_piece}
use Rattle.graph_version.proofs.row_hall.put_in_group.Goals as goal

pub returns-clause-rows : goal.returns-clause-rows
returns-clause-rows c =
    let h : Arc Group Global = c.index_mut.result.now in
    let same : c.in_ok-groups.field-0.now ≡ in_group h = elim c.in_ok-groups.ensures.value [ inl e ↦ e | inr e ↦ e ] in
    let from : c.in_ok-groups.field-0.now ≡ in_group (get_or c.args.groups.now.items (c.args.place / 1024) h) =
    same ∙ ap in_group c.index_mut.ensures.value in
    let ok : IsOk c.make_mut.result = search rules in
    let lt = c.requires.place in
    on_ok_weaker c.put.result
    (λ put.
    set_piece 1024 in_group c.args.groups.now.items c.args.place (c.args.place / 1024) (c.args.place % 1024)
    (c.make_mut.follows.lender c.put.new.self) h c.args.row c.requires.groups (omega arith) (omega arith) (omega arith)
    (c.make_mut.follows.holds c.put.new.self ok ∙ put
    ∙ ap (λ (p : List (List BlockView)). set p (c.args.place % 1024) c.args.row) from))
    c.put.ensures.rows
