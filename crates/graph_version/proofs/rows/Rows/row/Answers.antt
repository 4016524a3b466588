use Rattle.std.proofs.Common.{◌≡◌, ◌∙◌, ◌≤◌, ◌<◌, ◌/◌, ◌%◌, [], ap, sym, subst, List, length, get_or, arith}
use Rattle.std.{proofs.Common.MatchOption, proofs.lemmas.Bool.ltb-false, specs.declared.{sync.Arc.Arc, alloc.Global.Global}}
use Rattle.edge_block.specs.Slots.{BlockView}
use Rattle.graph_version.specs.{declared.row_hall.Hall.Hall, RowHalls.{in_hall, in_halls}, Rows.row_of}
use Rattle.list_pieces.proofs.{Full.{at_piece, past_pieces}, Padded.cut_at}
use Rattle.graph_version.proofs.rows.Rows.row.Goals as goal

pub returns-in-None : goal.returns-in-None
returns-in-None c =
    let past : length c.self.inside.halls.items ≤ c.args.source.0 / 65536 =
    subst (λ (l : List (Arc Hall Global)). length l ≤ c.args.source.0 / 65536) c.deref.ensures.value
    (ltb-false (c.args.source.0 / 65536) (length c.deref.result.now) (sym c.in-None.ensures.lookup.0)) in
    rw (← c.self.view_is)
    (cut_at c.self.inside.len (in_halls c.self.inside.halls.items) [] c.self.invariant.3 c.args.source.0
    ∙ past_pieces 65536 in_hall c.self.inside.halls.items c.args.source.0 [] c.self.invariant.0 (omega arith))

pub returns-in-Some : goal.returns-in-Some
returns-in-Some c =
    let halls : List (Arc Hall Global) = c.self.inside.halls.items in
    let lt : c.args.source.0 / 65536 < length halls =
    subst (λ (l : List (Arc Hall Global)). c.args.source.0 / 65536 < length l) c.deref.ensures.value c.in-Some.ensures.lookup.3.0 in
    let hall : Arc Hall Global = c.in-Some.hall.now in
    let here : hall ≡ get_or halls (c.args.source.0 / 65536) hall =
    c.in-Some.ensures.lookup.3.1 hall ∙ ap (λ (l : List (Arc Hall Global)). get_or l (c.args.source.0 / 65536) hall)
    c.deref.ensures.value in
    let is : get_or c.deref-in-Some.result.now (c.args.source.0 % 65536) [] ≡ row_of c.args.self.now c.args.source.0 =
    rw (← c.self.view_is)
    (ap (λ (p : List (List BlockView)). get_or p (c.args.source.0 % 65536) []) (c.deref-in-Some.ensures ∙ ap in_hall here)
    ∙ sym (cut_at c.self.inside.len (in_halls halls) [] c.self.invariant.3 c.args.source.0
    ∙ at_piece 65536 in_hall halls c.args.source.0 (c.args.source.0 / 65536) (c.args.source.0 % 65536) hall [] c.self.invariant.0
    (omega arith) lt (omega arith))) in
    subst (λ (row : List BlockView). MatchOption c.row.result (row ≡ []) (λ r. r.now ≡ row)) is c.row.ensures
