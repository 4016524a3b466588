-- One edge more in a table of degrees.
use Rattle.std.proofs.Common.{◌≡◌, ℕ, ◌<◌, true, List, [], ◌∷◌, ◌++◌, length, nat_abs, sym, subst}
use Rattle.std.proofs.{Common.arith, lemmas.List.Sums.sum_by_push}
use Rattle.std.proofs.lemmas.List.Elements.{All-append, All-cons, All-nil, All-head}
use Rattle.std.{specs.Prelude.All, proofs.lemmas.Grind.common_steps}
use Rattle.graph_types.specs.{Graph.stamp_of, Degrees.{listed_degree, with_edge, CountsEdge, HasDegreeRoom}, Limits.IsWeightIn}
use Rattle.graph_types.{specs.declared.ids.{Edge.Edge, Degree.Degree, Filter.Filter}, proofs.DegreeBounds.degree_within}
use Rattle.graph_types.proofs.ListedDegrees.{with_shown}
use Rattle.graph_types.proofs.DegreeTables.{weight_sum_push}
use Rattle.graph_types.proofs.Elements.{all_right, all_left}
use Rattle.edge_block.specs.Slots.{IsStamp}
use Rattle.graph_cores.{specs.Tallies.{passes, HasTallyRoom, Counts}, proofs.Parts.first_edges}

listed_push : (f : Filter) (es : List Edge) (e : Edge) (v : ℕ) → passes f e ≡ true
    → listed_degree f (es ++ e ∷ []) v ≡ with_edge e v (listed_degree f es v)
listed_push f es e v shown = grind (arith, common_steps, sum_by_push, weight_sum_push, with_shown)

-- an edge of the view that is counted at its ends
pub counts_edge : (f : Filter) (e : Edge) (old new : List Degree) → passes f e ≡ true → IsStamp (stamp_of e)
    → CountsEdge e old new → Counts f (e ∷ []) old new
counts_edge f e old new shown stamp counts before is = grind (arith, common_steps, listed_push, All-append, All-cons, All-nil)

-- what an edge that can be counted keeps to
pub record IsCountable (f : Filter) (e : Edge) (table : List Degree) : Type 0 where
  pub source : e.source.0 < length table
  pub target : e.target.0 < length table
  pub shown : passes f e ≡ true
  pub room : All (HasDegreeRoom (nat_abs e.weight)) table

pub countable : (f : Filter) (e : Edge) (table : List Degree) → HasTallyRoom f (e ∷ []) table → IsCountable f e table
countable f e table room =
    let before = room.0 in
    let is = room.1 in
    let are = room.2 in
    let n = length table in
    let firsts = first_edges f n before (e ∷ []) are in
    let light : IsWeightIn are.most_weight e.weight = All-head (λ (x : Edge). IsWeightIn are.most_weight x.weight) e []
    (all_right (λ (x : Edge). IsWeightIn are.most_weight x.weight) before (e ∷ []) are.weights) in
    record {
      source = All-head (λ (x : Edge). x.source.0 < n) e []
          (all_right (λ (x : Edge). x.source.0 < n) before (e ∷ []) are.sources);
      target = All-head (λ (x : Edge). x.target.0 < n) e []
          (all_right (λ (x : Edge). x.target.0 < n) before (e ∷ []) are.targets);
      shown = All-head (λ (x : Edge). passes f x ≡ true) e []
          (all_right (λ (x : Edge). passes f x ≡ true) before (e ∷ []) are.seen);
      room = λ v d h. subst (HasDegreeRoom (nat_abs e.weight)) (sym (is.tally.at v d h))
          (degree_within f before n are.kind_count v are.most_weight (nat_abs e.weight) are.few are.sums light firsts.once
          (all_left (λ (x : Edge). x.kind.0 < are.kind_count) before (e ∷ []) are.kinds) firsts.sources firsts.targets
          (all_left (λ (x : Edge). IsWeightIn are.most_weight x.weight) before (e ∷ []) are.weights));
    }
