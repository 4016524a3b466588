use Rattle.std.proofs.Common.{◌≢◌, ◌∙◌, ℕ, List, All, AllPairs, ap, sym, subst}
use Rattle.graph_types.specs.{Graph.stamp_of, declared.ids.Edge.Edge}
use Rattle.edge_block.specs.Slots.{IsStamp}
use Rattle.graph_version.{specs.Versions.content, proofs.Rebased.{same_content, listed_content}}
use Rattle.graph_version.proofs.versions.Version.contents.Goals as goal

pub invariant_of-result : goal.invariant_of-result
invariant_of-result c =
    let edges = c.of-3.ensures ∙ c.in_ok-edges_in.ensures.edges in
    let names = subst (AllPairs (λ (a b : List ℕ). a ≢ b)) (sym c.of.ensures) c.in_ok-names_in.ensures.distinct in
    let kinds = subst (AllPairs (λ (a b : List ℕ). a ≢ b)) (sym c.of-2.ensures) c.in_ok-names_in-2.ensures.distinct in
    let stamps =
    subst (All (λ (e : Edge). IsStamp (stamp_of e))) (sym c.of-3.ensures) c.in_ok-edges_in.ensures.stamps in
    let same =
    same_content c.self.inside.names c.self.inside.kinds c.self.inside.edges _ _ _ _ c.self.invariant
    (c.of.ensures ∙ c.in_ok-names_in.ensures.names) (c.of-2.ensures ∙ c.in_ok-names_in-2.ensures.names) edges
    c.limits.ensures in
    record {
      listed_once = listed_content c.self.inside.names c.self.inside.kinds c.self.inside.edges _ _ _ _ c.self.invariant names
          kinds stamps edges same;
    }

pub returns : goal.returns
returns c =
    same_content c.self.inside.names c.self.inside.kinds c.self.inside.edges _ _ _ _ c.self.invariant
    (c.of.ensures ∙ c.in_ok-names_in.ensures.names) (c.of-2.ensures ∙ c.in_ok-names_in-2.ensures.names)
    (c.of-3.ensures ∙ c.in_ok-edges_in.ensures.edges) c.limits.ensures ∙ ap content c.self.view_is
