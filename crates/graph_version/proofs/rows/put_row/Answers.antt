use Rattle.std.proofs.Common.{◌≡◌, ◌∙◌, ◌+◌, ◌/◌, ◌%◌, ◌<◌, ◌≤◌, ◌==◌, [], inl, inr, ap, List, length, set, get_or, rules, arith}
use Rattle.std.proofs.{Common.if◌then◌else◌, lemmas.Result.on_ok_weaker}
use Rattle.std.specs.{Result.IsOk, declared.sync.Arc.Arc, declared.alloc.Global.Global}
use Rattle.edge_block.specs.Slots.{BlockView}
use Rattle.graph_version.specs.{Rows.row_of, RowHalls.{in_hall, in_halls}, declared.row_hall.Hall.Hall}
use Rattle.list_pieces.proofs.Full.{long, set_piece, set_look_up}
use Rattle.graph_version.proofs.rows.put_row.Goals as goal

pub returns-clause-rows : goal.returns-clause-rows
returns-clause-rows c =
    let halls : List (Arc Hall Global) = c.add_halls.new.halls.items in
    let source = c.args.source in
    let row = c.args.row in
    let h : Arc Hall Global = c.index_mut.result.now in
    let same : c.in_ok-halls.field-0.now ≡ in_hall h = elim c.in_ok-halls.ensures.value [ inl e ↦ e | inr e ↦ e ] in
    let from : c.in_ok-halls.field-0.now ≡ in_hall (get_or halls (source / 65536) h) = same ∙ ap in_hall c.index_mut.ensures.value in
    let ok : IsOk c.make_mut.result = search rules in
    let enough : source / 65536 + 1 ≤ length halls = c.in_ok-add_halls.ensures.enough in
    let all = long 65536 in_hall halls c.in_ok-add_halls.ensures.halls in
    let lt : source < length (in_halls halls) = omega (arith, all, enough) in
    on_ok_weaker c.put.result
    (λ put s.
    let written = set_piece 65536 in_hall halls source (source / 65536) (source % 65536)
    (c.make_mut.follows.lender c.put.new.self) h row c.in_ok-add_halls.ensures.halls (omega arith) (omega (arith, enough))
    (omega arith)
    (c.make_mut.follows.holds c.put.new.self ok ∙ put ∙ ap (λ (p : List (List BlockView)). set p (source % 65536) row) from) in
    ap (λ (l : List (List BlockView)). row_of l s) written
    ∙ set_look_up (in_halls halls) source row [] s lt
    ∙ ap (λ (r : List BlockView). if s == source then row else r) (c.in_ok-add_halls.ensures.same s))
    c.put.ensures.rows
