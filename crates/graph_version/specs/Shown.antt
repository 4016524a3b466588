-- The edges of blocks that a filter lets through, as entries of a map.
use Rattle.std.specs.Prelude.{ℕ, List, map, filter, flat_map}
use Rattle.graph_types.specs.{Graph.{Key, Stamp}, View.in_view, declared.ids.Filter.Filter}
use Rattle.edge_block.specs.Slots.{BlockView, entries_of}

-- those of a block, in slot order, and of several blocks taken together
abbrev pub shown : Filter → BlockView → List (Key × Stamp)
shown f b = filter (in_view f) (entries_of b)

abbrev pub shown_in : Filter → List BlockView → List (Key × Stamp)
shown_in f blocks = flat_map (shown f) blocks

-- the vertices that they lead to
abbrev pub targets_of : List (Key × Stamp) → List ℕ
targets_of entries = map (λ e. e.0.target) entries
