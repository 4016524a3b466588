use Rattle.std.proofs.Common.{◌∙◌, ap, ◌++◌, ◌∷◌, [], List}
use Rattle.std.specs.Prelude.{vec_len}
use Rattle.graph_types.specs.{Changes.stamp_in, declared.ids.Edge.Edge}
use Rattle.opening_columns.specs.Puts.{put_key}
use Rattle.opening_columns.proofs.EdgeList.{replaced_is, in_range_by, popped_is}
use Rattle.opening_columns.proofs.folding.replace.Goals as goal

pub returns : goal.returns
returns c =
    let key = put_key c.args.put.now in
    let o = c.requires.last in
    let e : Edge = c.edge_of.result in
    replaced_is c.args.edges.now.items o.others c.push.new.self.items o.last e key (stamp_in c.args.marks) c.requires.edges o.are o.key_is
    (in_range_by e key c.args.marks c.edge_of.ensures.key c.edge_of.ensures.stamp c.requires.walls c.requires.marks)
    c.edge_of.ensures.key c.edge_of.ensures.stamp
    (c.in_ok-push.ensures.items ∙ ap (λ (es : List Edge). es ++ e ∷ [])
    (popped_is c.args.edges.now.items c.pop-last.new.self.items o.others o.last (vec_len c.args.edges.now) c.pop-last.ensures.rest
    c.args.edges.now.ok.0 o.are))
