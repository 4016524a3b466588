-- Two laws about levels, labels and core numbers.
use Rattle.std.specs.{Prelude.{◌≡◌, ℕ, ◌<◌, List, length}, declared.option.Option.Option}
use Rattle.graph_types.specs.{Graph.{Graph, graph_in, IsContent}, Analyses.{AreLevels, AreLabels, AreCoreNumbers}}
use Rattle.graph_types.specs.{Limits.LimitsView, declared.{contents.Content.Content, ids.Filter.Filter}}

-- a graph has at most one table of each
pub record HaveOneTable : Type 0 where
  pub levels : (f : Filter) (g : Graph) (source : ℕ) (a b : List (Option ℕ)) → AreLevels f g source a → AreLevels f g source b → a ≡ b
  pub labels : (f : Filter) (g : Graph) (a b : List ℕ) → AreLabels f g a → AreLabels f g b → a ≡ b
  pub cores : (f : Filter) (g : Graph) (a b : List ℕ) → AreCoreNumbers f g a → AreCoreNumbers f g b → a ≡ b

-- and that of a content at least one, whatever the limits: levels from each of its vertices, labels, and core numbers
pub record HaveSomeTable : Type 0 where
  pub levels : (f : Filter) (limits : LimitsView) (c : Content) → IsContent c → (source : ℕ) → source < length (graph_in limits c).names
      → (levels : List (Option ℕ)) × AreLevels f (graph_in limits c) source levels
  pub labels : (f : Filter) (limits : LimitsView) (c : Content) → IsContent c
      → (labels : List ℕ) × AreLabels f (graph_in limits c) labels
  pub cores : (f : Filter) (limits : LimitsView) (c : Content) → IsContent c
      → (numbers : List ℕ) × AreCoreNumbers f (graph_in limits c) numbers
