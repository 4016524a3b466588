-- Insertions and additions in columns, and what they leave, each with the numbers of its names.
use Rattle.std.specs.Prelude.{◌==◌, ◌+◌, ◌*◌, ◌%◌, ◌<◌, ℕ, pos, List, [], ◌∷◌, nat_lt, if◌then◌else◌, slice_index_or, Option, None, length}
use Rattle.std.specs.FinMap.{FinMap, get, empty}
use Rattle.graph_types.specs.{Graph.{Graph, Key, Stamp, key_cmp}, Limits.{LimitsView, IsWeight, IsTime}, Step.{set_at, stamp_after}}
use Rattle.graph_types.specs.declared.{batches.NamedOp.NamedOp, changes.EdgeChange.EdgeChange, changes.EdgeChange.TheVariants.{Insert, Incr}}
use Rattle.batch_columns.specs.{Dictionaries.in_order, Operations.{OperationTable, edge_operation_at}}
use Rattle.opening_columns.specs.declared.numbering.Put.{Put}

-- the insertion or addition at a place, sort 0 or 1; none where there is another sort, or no such names
abbrev pub put_at : OperationTable → ℕ → Option NamedOp
put_at t place = if nat_lt (slice_index_or t.sorts place 0) 2 then edge_operation_at t place else None

-- those before a place, in order; none where one of them is none
abbrev pub puts_before : OperationTable → ℕ → Option (List NamedOp)
puts_before t n = in_order (put_at t) 0 n

-- the edge that a numbered row is on, and what the row at its place does to it, under this limit of weights
abbrev pub put_key : Put → Key
put_key p = record { kind = p.kind.0; source = p.source; target = p.target }

abbrev pub row_change : OperationTable → ℕ → ℕ → EdgeChange
row_change t most place =
    if slice_index_or t.sorts place 0 == 0 then Insert (slice_index_or t.weights place (pos 0)) (slice_index_or t.times place 0) most
    else Incr (slice_index_or t.weights place (pos 0)) (slice_index_or t.times place 0) most

-- the edges after one numbered row, and after several in order
abbrev pub after_put : OperationTable → ℕ → Put → FinMap key_cmp Stamp → FinMap key_cmp Stamp
after_put t most p edges = set_at edges (put_key p) (stamp_after (row_change t most p.place) (get edges (put_key p)))

abbrev pub after_puts : OperationTable → ℕ → List Put → FinMap key_cmp Stamp → FinMap key_cmp Stamp
after_puts t most [] edges = edges
after_puts t most (p ∷ ps) edges = after_puts t most ps (after_put t most p edges)

-- the graph of these names and kinds with the edges that numbered rows leave
abbrev pub graph_of_puts : OperationTable → LimitsView → List (List ℕ) → List (List ℕ) → List Put → Graph
graph_of_puts t limits names kinds puts =
    record { names = names; kinds = kinds; edges = after_puts t limits.weight puts empty; limits = limits }

-- the number of an edge, by source, then by kind, then by target
abbrev pub key_number : Key → ℕ
key_number k = (k.source * 64 + k.kind % 64) * 67108864 + k.target % 67108864

-- the numbers of a key are within the walls
pub record IsWithinWalls (k : Key) : Type 0 where
  pub source : k.source < 67108864
  pub kind : k.kind < 64
  pub target : k.target < 67108864

-- a numbered row is one of the columns', of a weight and a time in range
pub record IsPut (t : OperationTable) (p : Put) : Type 0 where
  pub place : p.place < length t.sorts
  pub weight : IsWeight (slice_index_or t.weights p.place (pos 0))
  pub time : IsTime (slice_index_or t.times p.place 0)
  pub walls : IsWithinWalls (put_key p)
