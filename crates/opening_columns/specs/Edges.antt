-- Edges by rising numbers.
use Rattle.std.specs.Prelude.{◌≡◌, ◌<◌, ◌≤◌, ◌++◌, ◌∷◌, [], ℕ, List, All, AllPairs, Option}
use Rattle.graph_types.specs.{Graph.{Key, Stamp, key_of, map_of, IsWeight, IsTime}, Step.set_at, declared.ids.Edge.Edge}
use Rattle.opening_columns.specs.Puts.{IsWithinWalls, key_number}

abbrev pub edge_number : Edge → ℕ
edge_number e = key_number (key_of e)

-- listed by rising numbers, and so each once
abbrev pub AreRising : List Edge → Type 0
AreRising edges = AllPairs (λ a b. edge_number a < edge_number b) edges

-- an edge whose numbers, weight and times are within the walls
pub record IsWithinBounds (e : Edge) : Type 0 where
  pub walls : IsWithinWalls (key_of e)
  pub weight : IsWeight e.weight
  pub first : IsTime e.first
  pub recent : IsTime e.recent

-- the last of edges has this key
pub record IsLastOf (edges : List Edge) (key : Key) : Type 0 where
  pub others : List Edge
  pub last : Edge
  pub are : edges ≡ others ++ last ∷ []
  pub key_is : key_of last ≡ key

-- edges by rising numbers, none of a greater number than a key's
pub record AreUpTo (key : Key) (edges : List Edge) : Type 0 where
  pub rising : AreRising edges
  pub range : All IsWithinBounds edges
  pub below : All (λ e. edge_number e ≤ key_number key) edges

-- the edges with this at a key
pub record IsEdgeSet (key : Key) (stamp : Option Stamp) (old new : List Edge) : Type 0 where
  pub map : map_of new ≡ set_at (map_of old) key stamp
  pub edges : AreUpTo key new
