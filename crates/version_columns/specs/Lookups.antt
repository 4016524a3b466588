-- Sizes of a version, and one edge by its numbers.
use Rattle.std.specs.Prelude.{ℕ, ◌&&◌, nat_lt, length, sum_by, List, if◌then◌else◌, Option, Some, None, Result, Ok, Err}
use Rattle.std.specs.FinMap.{get}
use Rattle.graph_types.specs.{Graph.{Graph, Stamp}}
use Rattle.graph_version.specs.{Versions.{VersionView, content}, Kept.edge_total}
use Rattle.version_columns.specs.declared.lookups.{VersionSize.VersionSize, Marks.Marks}
use Rattle.version_columns.specs.declared.views.ColumnError.{ColumnError}
use Rattle.version_columns.specs.declared.views.ColumnError.TheVariants.{NoKind, NoVertex, NoEdge}

-- how many bytes texts have, one after another
abbrev pub byte_count : List (List ℕ) → ℕ
byte_count texts = sum_by length texts

abbrev pub size_of : VersionView → VersionSize
size_of v =
    record {
      version = length v.batches;
      vertices = length (content v).names;
      kinds = length (content v).kinds;
      edges = edge_total v;
      name_bytes = byte_count (content v).names;
      kind_bytes = byte_count (content v).kinds;
    }

-- what an edge bears, where there is one
abbrev pub marks_of : Option Stamp → Result Marks ColumnError
marks_of None = Err NoEdge
marks_of (Some stamp) = Ok (record { weight = stamp.weight; first = stamp.first; recent = stamp.recent })

-- the edge of a kind from a source to a target, by their numbers; or the first refusal that holds
abbrev pub marks_of_edge : Graph → ℕ → ℕ → ℕ → Result Marks ColumnError
marks_of_edge g kind source target =
    if nat_lt kind (length g.kinds)
    then (if nat_lt source (length g.names) && nat_lt target (length g.names)
    then marks_of (get g.edges (record { kind = kind; source = source; target = target }))
    else Err NoVertex)
    else Err NoKind
