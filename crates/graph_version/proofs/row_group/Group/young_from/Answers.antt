use Rattle.std.proofs.Common.{◌≡◌, ◌/◌, ◌%◌, List, length, subst, arith}
use Rattle.edge_block.specs.Slots.{BlockView}
use Rattle.graph_version.{specs.{Ages.AreYoung, RowPages.in_page}, proofs.Ages.young_in_pieces}
use Rattle.graph_version.proofs.row_group.Group.young_from.Goals as goal

pub returns : goal.returns
returns c =
    let told : length c.self.inside.pages ≡ 16 = c.self.invariant.1 in
    let within = c.requires in
    rw (← c.self.view_is)
    (young_in_pieces in_page 64 c.args.time c.self.inside.pages c.args.place (c.args.place / 64) (c.args.place % 64)
    c.index-self-place.result c.young_from.result c.self.invariant.0 (omega arith) (omega (arith, told, within)) (omega arith)
    (subst (λ (p : List (List BlockView)). AreYoung c.args.time p (c.args.place % 64) c.young_from.result) c.deref.ensures
    c.young_from.ensures))
