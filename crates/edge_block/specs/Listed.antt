-- The edges that rows have, as graph_types lists edges.
use Rattle.std.specs.{Prelude.{◌≡◌, ◌≢◌, ℕ, List, map, AllPairs}, List.{flat_map, range_with_len}, FinMap.FinMap}
use Rattle.graph_types.specs.{Graph.{Key, Stamp, key_cmp, key_of, map_of}, declared.ids.Edge.Edge}
use Rattle.edge_block.specs.Rows.{Shape, row_entries}

-- the edge of a key and a stamp
abbrev pub edge_from : Key × Stamp → Edge
edge_from e = record {
  kind = record { 0 = e.0.kind };
  source = record { 0 = e.0.source };
  target = record { 0 = e.0.target };
  weight = e.1.weight;
  first = e.1.first;
  recent = e.1.recent;
}

-- the edges of a source's row, in row order, slots rising
abbrev pub edges_in_row : ℕ → List Shape → List Edge
edges_in_row source row = map edge_from (row_entries source row)

-- the edges of the rows of so many sources, from a first one on
abbrev pub edges_in_rows : ℕ → ℕ → (ℕ → List Shape) → List Edge
edges_in_rows first count layout = flat_map (λ source. edges_in_row source (layout source)) (range_with_len first count)

-- the edges of the rows of all sources below a number
abbrev pub edges_below : ℕ → (ℕ → List Shape) → List Edge
edges_below n layout = edges_in_rows 0 n layout

-- the edges are each once those of the map
pub record AreListedOnce (listed : List Edge) (edges : FinMap key_cmp Stamp) : Type 0 where
  pub once : AllPairs (λ a b. key_of a ≢ key_of b) listed
  pub same : map_of listed ≡ edges
