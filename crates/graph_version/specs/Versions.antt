-- A version of a graph: what it began with, its batches, and its rows of blocks.
use Rattle.std.specs.Prelude.{◌≡◌, ◌≢◌, ℕ, ◌≤◌, List, [], map, length, All, AllPairs, Bool, false, ◌==◌}
use Rattle.std.specs.List.{list_any, list_all}
use Rattle.graph_types.specs.{Graph.{Graph, HasWeights}, Limits.{LimitsView, AreLimits, standard_limits}, Step.{left_by, empty_graph_in}}
use Rattle.graph_types.specs.declared.batches.NamedOp.{NamedOp}
use Rattle.edge_block.specs.{Slots.{BlockView, is_free_slot}, Rows.{Shape, shape_of}, Batches.{IsLayoutOf, HasEndsWithin}}
use Rattle.graph_version.specs.Rows.{row_of, blocks_of, numbers_of}

-- the graph that it began with, the batches since, and a row of blocks for each source
pub record VersionView : Type 0 where
  pub opening : Graph
  pub batches : List (List NamedOp)
  pub rows : List (List BlockView)

-- the content: what the batches leave of the opening graph
abbrev pub content : VersionView → Graph
content v = left_by v.batches v.opening

-- the layout: each source's row without numbers and source
abbrev pub layout_of : List (List BlockView) → ℕ → List Shape
layout_of rows source = map shape_of (row_of rows source)

-- a block of a source's row: of that source, with an edge
pub record IsBlockOf (source : ℕ) (b : BlockView) : Type 0 where
  pub source_is : b.source ≡ source
  pub has_edges : list_all is_free_slot b.slots ≡ false

-- the rows have the graph's edges, each once, and no two blocks have one number
pub record AreRowsOf (g : Graph) (rows : List (List BlockView)) : Type 0 where
  pub layout : IsLayoutOf (layout_of rows) g.edges
  pub blocks : (source : ℕ) → All (IsBlockOf source) (row_of rows source)
  pub numbers : AllPairs ◌≢◌ (numbers_of (blocks_of rows))

-- it is within its limits, and these are within the walls
pub record IsSmall (v : VersionView) : Type 0 where
  pub names : length (content v).names ≤ (content v).limits.names
  pub kinds : length (content v).kinds ≤ (content v).limits.kinds
  pub count : length v.batches ≤ (content v).limits.batches
  pub limits : AreLimits (content v).limits
  pub weights : HasWeights (content v)

-- what is true of every version: its rows have its content, whose edges join its vertices, and it is within the limits
pub record IsVersion (v : VersionView) : Type 0 where
  pub rows : AreRowsOf (content v) v.rows
  pub within : HasEndsWithin (content v)
  pub small : IsSmall v

-- the version without batches, under these limits and under the standard ones
abbrev pub empty_version_in : LimitsView → VersionView
empty_version_in limits = record { opening = empty_graph_in limits; batches = []; rows = [] }

abbrev pub empty_version : VersionView
empty_version = empty_version_in standard_limits

-- whether a number is in a list
abbrev pub is_in : ℕ → List ℕ → Bool
is_in n numbers = list_any (λ c. c == n) numbers
