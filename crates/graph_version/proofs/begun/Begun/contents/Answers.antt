use Rattle.std.proofs.Common.{◌≢◌, ◌∙◌, ℕ, List, All, AllPairs, sym, subst}
use Rattle.graph_types.specs.{Graph.stamp_of, declared.ids.Edge.Edge}
use Rattle.edge_block.specs.Slots.{IsStamp}
use Rattle.graph_version.proofs.BegunRows.{begun_same, begun_content}
use Rattle.graph_version.proofs.begun.Begun.contents.Goals as goal

pub invariant_of-result : goal.invariant_of-result
invariant_of-result c =
    let b = c.args.self.now in
    record {
      listed_once = begun_content b.limits b.names.names b.kinds.names b.rows _ c.requires
          (subst (AllPairs (λ (a b : List ℕ). a ≢ b)) (sym c.of.ensures) c.in_ok-names_in.ensures.distinct)
          (subst (AllPairs (λ (a b : List ℕ). a ≢ b)) (sym c.of-2.ensures) c.in_ok-names_in-2.ensures.distinct)
          (subst (All (λ (e : Edge). IsStamp (stamp_of e))) (sym c.of-3.ensures) c.in_ok-edges_in.ensures.stamps)
          (c.of.ensures ∙ c.in_ok-names_in.ensures.names) (c.of-2.ensures ∙ c.in_ok-names_in-2.ensures.names)
          (c.of-3.ensures ∙ c.in_ok-edges_in.ensures.edges);
    }

pub returns : goal.returns
returns c =
    let b = c.args.self.now in
    begun_same b.limits b.names.names b.kinds.names b.rows _ c.requires
    (c.of.ensures ∙ c.in_ok-names_in.ensures.names) (c.of-2.ensures ∙ c.in_ok-names_in-2.ensures.names)
    (c.of-3.ensures ∙ c.in_ok-edges_in.ensures.edges)
