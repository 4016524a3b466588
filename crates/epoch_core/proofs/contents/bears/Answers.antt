use Rattle.std.{proofs.Common.ap, proofs.Common.sym, proofs.Common.◌∙◌, specs.Option.option_map}
use Rattle.graph_types.{specs.Graph.key_of, specs.Graph.stamp_of, proofs.EdgeLookup.get-map_of}
use Rattle.epoch_core.specs.Posting as posting
use Rattle.epoch_core.proofs.contents.bears.Goals as goal

pub returns-in-Some : goal.returns-in-Some
returns-in-Some c = c.same_stamp.ensures ∙ ap (λ o. posting.bears (option_map stamp_of o)
    (stamp_of c.args.edge.now)) c.in-Some.ensures ∙ ap (λ o. posting.bears o (stamp_of c.args.edge.now))
    (sym (get-map_of (key_of c.args.edge.now) c.args.edges.now))

pub returns-in-None : goal.returns-in-None
returns-in-None c = ap (λ o. posting.bears (option_map stamp_of o) (stamp_of c.args.edge.now)) c.in-None.ensures
    ∙ ap (λ o. posting.bears o (stamp_of c.args.edge.now)) (sym (get-map_of (key_of c.args.edge.now) c.args.edges.now))
