use Rattle.std.proofs.Common.{◌≡◌, ◌∙◌, ◌≤◌, ◌<◌, ◌/◌, ◌%◌, [], List, length, get_or, ap, sym, subst, arith}
use Rattle.std.{proofs.lemmas.Bool.ltb-false, specs.declared.{sync.Arc.Arc, alloc.Global.Global}}
use Rattle.edge_block.specs.Slots.{BlockView}
use Rattle.graph_version.specs.{Ages.AreYoung, declared.row_group.Group.Group, RowGroups.{in_group, in_groups, filled}}
use Rattle.graph_version.proofs.Ages.{young_blank, young_in_pieces, young_padded}
use Rattle.list_pieces.proofs.{Full.{long, past_pieces}, Padded.{padded_at, padded_long}}
use Rattle.graph_version.proofs.row_hall.Hall.young_from.Goals as goal

pub returns-in-None : goal.returns-in-None
returns-in-None c =
    let groups : List (Arc Group Global) = c.self.inside.groups.items in
    let past : length groups ≤ c.args.place / 1024 =
    subst (λ (l : List (Arc Group Global)). length l ≤ c.args.place / 1024) c.deref.ensures.value
    (ltb-false (c.args.place / 1024) (length c.deref.result.now) (sym c.in-None.ensures.lookup.0)) in
    let whole = long 1024 in_group groups c.self.invariant.0 in
    let few : length groups ≤ 64 = c.self.invariant.1 in
    rw (← c.self.view_is)
    (young_blank c.args.time c.args.place 65536 (filled groups) (padded_long 65536 [] (in_groups groups) (omega (arith, whole, few)))
    c.requires (λ s from. padded_at 65536 [] (in_groups groups) s
    ∙ past_pieces 1024 in_group groups s [] c.self.invariant.0 (omega (arith, past, from))))

pub returns-in-Some : goal.returns-in-Some
returns-in-Some c =
    let groups : List (Arc Group Global) = c.self.inside.groups.items in
    let lt : c.args.place / 1024 < length groups =
    subst (λ (l : List (Arc Group Global)). c.args.place / 1024 < length l) c.deref.ensures.value c.in-Some.ensures.lookup.3.0 in
    let group : Arc Group Global = c.in-Some.group.now in
    let here : group ≡ get_or groups (c.args.place / 1024) group =
    c.in-Some.ensures.lookup.3.1 group ∙ ap (λ (l : List (Arc Group Global)). get_or l (c.args.place / 1024) group)
    c.deref.ensures.value in
    let whole = long 1024 in_group groups c.self.invariant.0 in
    let few : length groups ≤ 64 = c.self.invariant.1 in
    rw (← c.self.view_is)
    (young_padded c.args.time 65536 c.args.place c.young_from.result (in_groups groups) (omega (arith, whole, few))
    (young_in_pieces in_group 1024 c.args.time groups c.args.place (c.args.place / 1024) (c.args.place % 1024)
    group c.young_from.result c.self.invariant.0 (omega arith) lt (omega arith)
    (subst (λ (p : List (List BlockView)). AreYoung c.args.time p (c.args.place % 1024) c.young_from.result)
    (c.deref-in-Some.ensures ∙ ap in_group here) c.young_from.ensures)))
