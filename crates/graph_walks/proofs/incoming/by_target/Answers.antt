use Rattle.std.proofs.Common.{rules, ◌∙◌, ap}
use Rattle.std.proofs.lemmas.List.Sorted.{IsNonDecreasingBy-from_sort_by_key, answers_always}
use Rattle.graph_types.specs.declared.ids.{Edge.Edge}
use Rattle.graph_version.specs.InEdges.{edges_into}
use Rattle.graph_walks.proofs.Runs.{sorted_into}
use Rattle.graph_walks.proofs.incoming.by_target.Goals as goal

pub returns : goal.returns
returns c =
    let sorted = c.sort_by_key.new.self.items in
    let listed = c.in_ok-edges.edges.items in
    record {
      rising = IsNonDecreasingBy-from_sort_by_key (λ (e : Edge). e.target.0) sorted c.in_ok-sort_by_key.ensures.sorted
          (λ a r q k. search rules);
      same = λ t. sorted_into listed sorted (c.in_ok-sort_by_key.ensures.stable (λ (e : Edge). e.target.0)
          (answers_always _ _ _ (λ f a r g h. search rules))) t
          ∙ ap (edges_into t) c.in_ok-edges.ensures.edges;
      once = c.in_ok-edges.ensures.once;
    }
