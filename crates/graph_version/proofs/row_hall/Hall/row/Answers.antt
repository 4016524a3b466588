use Rattle.std.proofs.Common.{◌≡◌, ◌∙◌, ◌≤◌, ◌<◌, ◌/◌, ◌%◌, [], ap, sym, subst, List, length, get_or, arith}
use Rattle.std.{proofs.lemmas.Bool.ltb-false, specs.declared.{sync.Arc.Arc, alloc.Global.Global}}
use Rattle.edge_block.specs.Slots.{BlockView}
use Rattle.graph_version.specs.{declared.row_group.Group.Group, RowGroups.{in_group, in_groups}}
use Rattle.list_pieces.proofs.{Full.{at_piece, past_pieces}, Padded.padded_at}
use Rattle.graph_version.proofs.row_hall.Hall.row.Goals as goal

pub returns-in-None : goal.returns-in-None
returns-in-None c =
    let groups : List (Arc Group Global) = c.self.inside.groups.items in
    let past : length groups ≤ c.args.place / 1024 =
    subst (λ (l : List (Arc Group Global)). length l ≤ c.args.place / 1024) c.deref.ensures.value
    (ltb-false (c.args.place / 1024) (length c.deref.result.now) (sym c.in-None.ensures.lookup.0)) in
    rw (← c.self.view_is)
    (padded_at 65536 [] (in_groups groups) c.args.place
    ∙ past_pieces 1024 in_group groups c.args.place [] c.self.invariant.0 (omega arith))

pub returns-in-Some : goal.returns-in-Some
returns-in-Some c =
    let groups : List (Arc Group Global) = c.self.inside.groups.items in
    let lt : c.args.place / 1024 < length groups =
    subst (λ (l : List (Arc Group Global)). c.args.place / 1024 < length l) c.deref.ensures.value c.in-Some.ensures.lookup.3.0 in
    let group : Arc Group Global = c.in-Some.group.now in
    let here : group ≡ get_or groups (c.args.place / 1024) group =
    c.in-Some.ensures.lookup.3.1 group ∙ ap (λ (l : List (Arc Group Global)). get_or l (c.args.place / 1024) group)
    c.deref.ensures.value in
    rw (← c.self.view_is)
    (c.row.ensures ∙ ap (λ (p : List (List BlockView)). get_or p (c.args.place % 1024) [])
    (c.deref-in-Some.ensures ∙ ap in_group here)
    ∙ sym (padded_at 65536 [] (in_groups groups) c.args.place
    ∙ at_piece 1024 in_group groups c.args.place (c.args.place / 1024) (c.args.place % 1024) group [] c.self.invariant.0
    (omega arith) lt (omega arith)))
