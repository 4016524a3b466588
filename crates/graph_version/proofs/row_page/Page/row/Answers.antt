use Rattle.std.proofs.Common.{◌∙◌, ◌/◌, ◌%◌, [], List, ap, sym, get_or, arith}
use Rattle.edge_block.specs.Slots.{BlockView}
use Rattle.graph_version.specs.Parts.{in_part}
use Rattle.list_pieces.proofs.Full.{at_piece}
use Rattle.graph_version.proofs.row_page.Page.row.Goals as goal

pub returns : goal.returns
returns c =
    let told = c.self.told in
    let within = c.requires in
    rw (← c.self.view_is)
    (c.row.ensures.row ∙ ap (λ (p : List (List BlockView)). get_or p (c.args.place % 8) []) c.deref.ensures
    ∙ sym (at_piece 8 in_part c.self.inside.parts c.args.place (c.args.place / 8)
    (c.args.place % 8) c.index-self-place.result [] c.self.invariant.0 (omega arith) (omega arith) (omega arith)))
