use Rattle.std.{proofs.Common.{ap, sym, ◌∙◌, ◌&&◌, Bool, List, eqb, length}, specs.{List.list_all, FinMap.get}}
use Rattle.graph_types.{specs.{Graph.{graph_of, key_of, stamp_of, map_of}, declared.ids.Edge.Edge}, proofs.Keys.len_once}
use Rattle.epoch_core.specs.Posting as posting
use Rattle.epoch_core.proofs.Edges.{Decides-edges}
use Rattle.epoch_core.proofs.contents.are_edges_of.Goals as goal

abbrev counted : List Edge → List Edge → Bool
counted es listed = posting.keys_differ es && list_all (λ e. posting.bears (get (map_of listed) (key_of e)) (stamp_of e)) es
    && eqb (length es) (length listed)

pub returns-clause-counted : goal.returns-clause-counted
returns-clause-counted c =
    c.are_counted.ensures ∙ ap (counted c.args.edges.now) c.as_slice.ensures
    ∙ ap (λ n. posting.keys_differ c.args.edges.now && list_all
    (λ e. posting.bears (get (map_of c.args.content.now.edges) (key_of e)) (stamp_of e)) c.args.edges.now
    && eqb (length c.args.edges.now) n) (sym (len_once c.args.content.now.edges c.requires))

pub returns-clause-shown : goal.returns-clause-shown
returns-clause-shown c =
    let test = Decides-edges (graph_of c.args.content.now) c.args.edges.now in
    (λ t. test.0 (sym (returns-clause-counted c) ∙ t), λ s. returns-clause-counted c ∙ test.1 s)
