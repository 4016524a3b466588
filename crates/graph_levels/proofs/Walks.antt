-- Walks in either direction, and tables that are labels.
use Rattle.std.proofs.Common.{◌≡◌, ℕ, sym, subst, inl, inr, List, length}
use Rattle.std.proofs.lemmas.Option.{get_or_from_slice_get}
use Rattle.graph_types.specs.{Graph.Graph, declared.ids.Filter.Filter, Analyses.{LeadsTo, Joins, IsLabel}}
use Rattle.graph_types.specs.Analyses.{IsTable}
use Rattle.graph_types.proofs.Walks.{are_labels}
use Rattle.graph_levels.specs.Forest.{parent, IsForest, IsSoundForest}

module _ (f : Filter) (g : Graph) where
  -- flat trees that edges do not leave are the labels
  pub flat_trees : (n : ℕ) (ps : List ℕ) → length ps ≡ n → IsForest ps → IsSoundForest f g ps
      → ((v : ℕ) → parent ps (parent ps v) ≡ parent ps v)
      → ((a b : ℕ) → LeadsTo f g a b → parent ps a ≡ parent ps b)
      → IsTable n (IsLabel f g) ps
  flat_trees n ps long low sound flat closed =
      let both : (u v : ℕ) → Joins f g u v → parent ps u ≡ parent ps v =
      λ u v j. elim j [ inl x ↦ closed u v x | inr x ↦ sym (closed v u x) ] in
      record {
        one_each = long;
        each = λ v x is. subst (IsLabel f g v) (get_or_from_slice_get ps v x v is) (are_labels f g (parent ps) sound low both v);
      }
