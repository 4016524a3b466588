use Rattle.graph_types.specs.Changes.{stamp_in}
use Rattle.opening_columns.specs.Puts.{put_key}
use Rattle.opening_columns.proofs.EdgeList.{added_is, in_range_by}
use Rattle.opening_columns.proofs.folding.add.Goals as goal

pub returns : goal.returns
returns c =
    let key = put_key c.args.put.now in
    added_is c.args.edges.now.items c.push.new.self.items c.edge_of.result key (stamp_in c.args.marks) c.requires.edges
    c.requires.walls (in_range_by c.edge_of.result key c.args.marks c.edge_of.ensures.key c.edge_of.ensures.stamp c.requires.walls c.requires.marks)
    c.edge_of.ensures.key c.edge_of.ensures.stamp c.requires.none c.in_ok-push.ensures.items
