use Rattle.std.proofs.Common.{◌≡◌, ◌/◌, ◌%◌, List, length, subst, arith}
use Rattle.edge_block.specs.Slots.{BlockView}
use Rattle.graph_version.{specs.{Ages.AreYoung, Parts.{in_part, in_parts}}, proofs.Ages.{young_from_bound, young_in_pieces}}
use Rattle.list_pieces.proofs.Full.{long}
use Rattle.graph_version.proofs.row_page.Page.young_from.Goals as goal

pub returns-then-self-time : goal.returns-then-self-time
returns-then-self-time c =
    let whole = long 8 in_part c.self.inside.parts c.self.invariant.0 in
    let told : length c.self.inside.parts ≡ 8 = c.self.invariant.1 in
    rw (← c.self.view_is) (young_from_bound c.args.time c.self.inside.since (in_parts c.self.inside.parts) c.args.place 64
    c.self.invariant.2 (omega (arith, c.if-self-time.true)) (omega (arith, whole, told)) c.requires)

pub returns : goal.returns
returns c =
    let told : length c.self.inside.parts ≡ 8 = c.self.invariant.1 in
    let within = c.requires in
    rw (← c.self.view_is)
    (young_in_pieces in_part 8 c.args.time c.self.inside.parts c.args.place (c.args.place / 8) (c.args.place % 8)
    c.index-self-place.result c.young_from.result c.self.invariant.0 (omega arith) (omega (arith, told, within)) (omega arith)
    (subst (λ (p : List (List BlockView)). AreYoung c.args.time p (c.args.place % 8) c.young_from.result) c.deref.ensures
    c.young_from.ensures))
