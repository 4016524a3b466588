use Rattle.std.proofs.{Common.{◌∙◌, [], List, ap, set, arith}, lemmas.Result.on_ok_weaker}
use Rattle.std.specs.declared.{sync.Arc.Arc, alloc.Global.Global}
use Rattle.edge_block.specs.Slots.{BlockView}
use Rattle.graph_version.specs.{declared.row_group.Group.Group, RowGroups.{in_group, in_groups}}
use Rattle.list_pieces.{specs.Pieces.padded, proofs.{Full.long, Padded.{padded_long, padded_set}}}
use Rattle.graph_version.proofs.row_hall.Hall.put.Goals as goal

pub returns-in_err-add_groups-clause-length : goal.returns-in_err-add_groups-clause-length
returns-in_err-add_groups-clause-length c =
    let whole = long 1024 in_group c.add_groups.new.groups.items c.add_groups.ensures.groups in
    padded_long 65536 [] (in_groups c.add_groups.new.groups.items) (omega (arith, whole, c.add_groups.ensures.few))

pub returns-clause-rows : goal.returns-clause-rows
returns-clause-rows c =
    let groups : List (Arc Group Global) = c.add_groups.new.groups.items in
    let whole = long 1024 in_group groups c.add_groups.ensures.groups in
    let enough = c.in_ok-add_groups.ensures.enough in
    on_ok_weaker c.put_in_group.result
    (λ put.
    ap (padded 65536 []) put
    ∙ padded_set 65536 [] (in_groups groups) c.args.place c.args.row (omega (arith, whole, enough))
    ∙ ap (λ (l : List (List BlockView)). set l c.args.place c.args.row) (c.add_groups.ensures.same ∙ c.self.view_is))
    c.put_in_group.ensures.rows

pub returns-clause-length : goal.returns-clause-length
returns-clause-length c =
    let whole = long 1024 in_group c.put_in_group.new.groups.items c.put_in_group.ensures.groups in
    padded_long 65536 [] (in_groups c.put_in_group.new.groups.items) (omega (arith, whole, c.put_in_group.ensures.few))
