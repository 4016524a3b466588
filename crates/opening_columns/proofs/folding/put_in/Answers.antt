use Rattle.std.proofs.Common.{◌≡◌, ◌∙◌, ap, sym, List, None}
use Rattle.std.specs.FinMap.{get}
use Rattle.graph_types.specs.{Changes.option_stamp, Step.stamp_after, Graph.map_of, declared.ids.Edge.Edge}
use Rattle.opening_columns.specs.Puts.{put_key}
use Rattle.opening_columns.proofs.EdgeList.{unwritten, before_none}
use Rattle.opening_columns.proofs.folding.put_in.Goals as goal

pub returns-in_default : goal.returns-in_default
returns-in_default c =
    let es : List Edge = c.args.edges.now.items in
    let key = put_key c.args.put.now in
    let same : option_stamp c.marks_before-before.result ≡ get (map_of es) key = c.marks_before-before.ensures.stamp
    ∙ ap (λ (xs : List Edge). get (map_of xs) key) c.as_slice.ensures.value in
    let after : stamp_after c.args.change (get (map_of es) key) ≡ None = ap (stamp_after c.args.change) (sym same)
    ∙ sym c.change_edge-outcome.ensures.stamp ∙ ap option_stamp c.in_default.is in
    unwritten es key (stamp_after c.args.change (get (map_of es) key)) c.requires.edges
    (before_none c.args.change (get (map_of es) key) c.requires.makes after) after
