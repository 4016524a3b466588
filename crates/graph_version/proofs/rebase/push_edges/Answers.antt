use Rattle.std.proofs.Common.{◌≡◌, ◌++◌, ◌∷◌, [], ◌∙◌, List, All, map, ap, sym, subst, rules, w64, append_assoc}
use Rattle.std.proofs.lemmas.{Int.to_z-of_z, List.Elements.{All-head, All-tail, All-cons, All-nil, All-append}}
use Rattle.graph_types.specs.{Graph.stamp_of, declared.ids.Edge.Edge}
use Rattle.graph_types.proofs.ChangedContents.{weight_fits_word}
use Rattle.edge_block.specs.{Slots.IsStamp, Lending.{LentEdge, lent_edge, edges_left}, declared.blocks.BlockIter.BlockIter}
use Rattle.graph_version.proofs.Rebased.{lent_edges}
use Rattle.graph_version.specs.LentEdges.{lent_as_edge}
use Rattle.graph_version.proofs.rebase.push_edges.Goals as goal

pub loop-edge-init : goal.loop-edge-init
loop-edge-init c =
    let source = c.args.block.now.source in
    let same : c.into_iter-edge-iterator.result ≡ c.all_edges-edge-items.result = search rules in
    record {
      edges = ap (λ (es : List Edge). c.args.edges.now.items ++ es)
          (ap (λ (it : BlockIter). map (lent_as_edge source) (edges_left it)) same
          ∙ ap (map (lent_as_edge source)) c.all_edges-edge-items.ensures.lends ∙ lent_edges c.args.block.now);
      stamps = λ all. all;
      left = subst (λ (it : BlockIter). All (λ (e : LentEdge). IsStamp e.stamp) (edges_left it)) (sym same)
          c.all_edges-edge-items.ensures.in_range;
    }

pub loop-edge-preserved : goal.loop-edge-preserved
loop-edge-preserved c =
    let l = lent_edge c.in-Some.edge in
    let rest = edges_left c.next.new.self in
    let source = c.args.block.now.source in
    let old = c.loop-edge.edges.items in
    let stamps = subst (All (λ (e : LentEdge). IsStamp e.stamp)) c.in-Some.ensures.steps c.loop-edge.invariant.left in
    let stamp : IsStamp l.stamp = All-head (λ (e : LentEdge). IsStamp e.stamp) l rest stamps in
    let fits = to_z-of_z w64 c.in-Some.edge.weight.now (weight_fits_word c.in-Some.edge.weight.now stamp.0) in
    let added = (rw fits at c.in_ok-push.ensures.items) in
    let pushed : c.push.new.self.items ≡ old ++ lent_as_edge source l ∷ [] =
    added ∙ ap (λ n. old ++ lent_as_edge n l ∷ []) c.source-source.ensures in
    record {
      edges = ap (λ es. es ++ map (lent_as_edge source) rest) pushed ∙ append_assoc old (lent_as_edge source l ∷ []) (map (lent_as_edge source) rest)
          ∙ ap (λ es. old ++ map (lent_as_edge source) es) (sym c.in-Some.ensures.steps) ∙ c.loop-edge.invariant.edges;
      stamps = λ all. subst (All (λ (e : Edge). IsStamp (stamp_of e))) (sym pushed)
          (All-append (λ (e : Edge). IsStamp (stamp_of e)) old (lent_as_edge source l ∷ []) (c.loop-edge.invariant.stamps all)
          (All-cons (λ (e : Edge). IsStamp (stamp_of e)) (lent_as_edge source l) [] stamp (All-nil (λ (e : Edge). IsStamp (stamp_of e)))));
      left = All-tail (λ (e : LentEdge). IsStamp e.stamp) l rest stamps;
    }
