-- Edges in columns: rows of a version, as far as a filter lets them through.
use Rattle.std.specs.Prelude.{◌≡◌, ◌≤◌, ◌<◌, ◌==◌, ◌&&◌, ◌⊎◌, ℕ, ℤ, ◌+◌, ◌-◌, suc, zero, List, [], ◌∷◌, ◌++◌, length, map, flat_map, replicate}
use Rattle.std.specs.Prelude.{slice_set, nat_lt, nat_le, true, Bool, Option, Some, None, Result, Ok, Err, OnOk, OnErr, false}
use Rattle.graph_types.specs.{Graph.stamp_of, declared.ids.{Edge.Edge, Filter.Filter}}
use Rattle.edge_block.specs.{Slots.BlockView, Lending.{LentEdge, lent_of}}
use Rattle.graph_version.specs.Rows.{row_of}
use Rattle.graph_version.specs.{InEdges.edges_into, Versions.{VersionView, content}, Shown.shown}
use Rattle.graph_walks.specs.ByTarget.{edges_of_version, edges_shown}
use Rattle.version_columns.specs.declared.views.{View.View, ColumnError.ColumnError}
use Rattle.version_columns.specs.declared.views.ColumnError.TheVariants.{NoKind, BadLength}
use Rattle.version_columns.specs.Views.{filter_of, first_view_refusal, column_outcome}

-- the edges of a block that a filter lets through, in slot order, and those of blocks
abbrev pub block_edges : Filter → BlockView → List LentEdge
block_edges f b = map lent_of (shown f b)

abbrev pub lent_edges_of : Filter → List BlockView → List LentEdge
lent_edges_of f blocks = flat_map (block_edges f) blocks

-- those of a source, in the order of its row
abbrev pub row_edges : Filter → VersionView → ℕ → List LentEdge
row_edges f v source = lent_edges_of f (row_of v.rows source)

-- an edge the other way, as a block of its target would lend it: its source stands in the place of the target
abbrev pub turned_edge : Edge → LentEdge
turned_edge e = record { kind = e.kind.0; target = e.source.0; stamp = stamp_of e }

-- those edges that a filter lets through, each the other way
abbrev pub turned_edges : Filter → List Edge → List LentEdge
turned_edges f edges = map turned_edge (edges_shown f edges)

-- the edges that lead to a target, each the other way: sources rising, and those of one source in the order of its row
abbrev pub in_edges : Filter → VersionView → ℕ → List LentEdge
in_edges f v target = turned_edges f (edges_into target (edges_of_version v))

-- the columns that edges are written to: those of a source with their targets, and those that lead to a target with their
-- sources in place of these
pub record Columns : Type 0 where
  pub kinds : List ℕ
  pub targets : List ℕ
  pub weights : List ℤ
  pub firsts : List ℕ
  pub recents : List ℕ

-- with an edge at a place
abbrev pub with_lent_edge : ℕ → LentEdge → Columns → Columns
with_lent_edge at e c =
    record {
      kinds = slice_set c.kinds at e.kind;
      targets = slice_set c.targets at e.target;
      weights = slice_set c.weights at e.stamp.weight;
      firsts = slice_set c.firsts at e.stamp.first;
      recents = slice_set c.recents at e.stamp.recent;
    }

-- with edges one after another from a place on, and all else as it was
abbrev pub with_edges : ℕ → List LentEdge → Columns → Columns
with_edges at [] c = c
with_edges at (e ∷ es) c = with_edges (at + 1) es (with_lent_edge at e c)

abbrev pub columns : List ℕ → List ℕ → List ℤ → List ℕ → List ℕ → Columns
columns kinds targets weights firsts recents =
    record { kinds = kinds; targets = targets; weights = weights; firsts = firsts; recents = recents }

-- all have the length
abbrev pub AreLong : ℕ → Columns → Type 0
AreLong n c = (length c.kinds ≡ n) × (length c.targets ≡ n) × (length c.weights ≡ n) × (length c.firsts ≡ n) × (length c.recents ≡ n)

abbrev pub are_long : ℕ → Columns → Bool
are_long n c = (length c.kinds == n) && (length c.targets == n) && (length c.weights == n) && (length c.firsts == n) && (length c.recents == n)

-- what a column has with values one after another from a place on, and all else as it was
abbrev pub with_values : ℕ → List ℕ → List ℕ → List ℕ
with_values at [] column = column
with_values at (x ∷ xs) column = with_values (at + 1) xs (slice_set column at x)

-- the edges of so many sources from one on, row after row, and the source of each
abbrev pub lent_rows_from : Filter → VersionView → ℕ → ℕ → List LentEdge
lent_rows_from f v source zero = []
lent_rows_from f v source (suc n) = row_edges f v source ++ lent_rows_from f v (source + 1) n

abbrev pub sources_from : Filter → VersionView → ℕ → ℕ → List ℕ
sources_from f v source zero = []
sources_from f v source (suc n) = replicate (length (row_edges f v source)) source ++ sources_from f v (source + 1) n

-- the edges of one vertex, which are `row_edges` of a source, or `in_edges` of a target

-- whether so many places are enough for them
abbrev pub fits_row : (Filter → VersionView → ℕ → List LentEdge) → Option Filter → VersionView → ℕ → ℕ → Bool
fits_row edges None v vertex room = true
fits_row edges (Some f) v vertex room = nat_le (length (edges f v vertex)) room

-- they are written, or refused by the first refusal that holds and then nothing is
pub record WritesRow (edges : Filter → VersionView → ℕ → List LentEdge) (v : VersionView) (view : View) (vertex : ℕ)
    (old new : Columns) (result : Result (Unit {0}) ColumnError) : Type 0 where
  pub answer : result ≡ column_outcome (first_view_refusal (filter_of (content v) view) (nat_lt vertex (length (content v).names))
      (are_long (length old.kinds) old && fits_row edges (filter_of (content v) view) v vertex (length old.kinds)))
  pub written : OnOk result ((f : Filter) × (filter_of (content v) view ≡ Some f) × (new ≡ with_edges 0 (edges f v vertex) old))
  pub same : OnErr result (new ≡ old)

-- how many they are, where the kind and the vertex are there
abbrev pub IsRowCount : (Filter → VersionView → ℕ → List LentEdge) → VersionView → View → ℕ → ℕ → Type 0
IsRowCount edges v view vertex count = (f : Filter) → filter_of (content v) view ≡ Some f → vertex < length (content v).names
    → count ≡ length (edges f v vertex)

-- several rows

-- the rows of the sources from one to below the next have so many edges, which have room; there are no more sources, or the
-- next row has none. Where the first is no source, it stays
pub record AreRowsFrom (f : Filter) (v : VersionView) (source next room count : ℕ) : Type 0 where
  pub onward : source ≤ next
  pub most : (next ≤ length (content v).names) ⊎ (next ≡ source)
  pub counted : count ≡ length (lent_rows_from f v source (next - source))
  pub fits : count ≤ room
  pub whole : (length (content v).names ≤ next) ⊎ (room < count + length (row_edges f v next))

-- they are written, with their sources
pub record WrittenRows (f : Filter) (v : VersionView) (source next : ℕ) (old new : Columns) (old_sources new_sources : List ℕ) : Type 0 where
  pub edges : new ≡ with_edges 0 (lent_rows_from f v source (next - source)) old
  pub sources : new_sources ≡ with_values 0 (sources_from f v source (next - source)) old_sources

-- not even the next row that has an edge fits
pub record IsTooLong (f : Filter) (v : VersionView) (source room count : ℕ) : Type 0 where
  pub next : ℕ
  pub onward : source ≤ next
  pub there : next < length (content v).names
  pub empty : lent_rows_from f v source (next - source) ≡ []
  pub long : room < length (row_edges f v next)
  pub counted : count ≡ length (row_edges f v next)

-- what `write_edges` comes to, from what it was given and what stands there then
pub record EdgeColumns : Type 0 where
  pub source : ℕ
  pub sources : List ℕ
  pub columns : Columns

abbrev pub WritesEdges : VersionView → View → EdgeColumns → EdgeColumns → ℕ → Result (Unit {0}) ColumnError → Type 0
WritesEdges v view old new count (Ok _) =
    (f : Filter) × (filter_of (content v) view ≡ Some f)
    × ((length old.sources == length old.columns.kinds) && are_long (length old.columns.kinds) old.columns ≡ true)
    × AreRowsFrom f v old.source new.source (length old.columns.kinds) count
    × WrittenRows f v old.source new.source old.columns new.columns old.sources new.sources
    × ((0 < count) ⊎ (length (content v).names ≤ new.source))
WritesEdges v view old new count (Err NoKind) = (filter_of (content v) view ≡ None) × (new ≡ old)
WritesEdges v view old new count (Err BadLength) =
    (f : Filter) × (filter_of (content v) view ≡ Some f) × (new ≡ old)
    × (((length old.sources == length old.columns.kinds) && are_long (length old.columns.kinds) old.columns ≡ false)
    ⊎ IsTooLong f v old.source (length old.columns.kinds) count)
WritesEdges v view old new count (Err _) = ⊥

abbrev pub edge_columns : ℕ → List ℕ → Columns → EdgeColumns
edge_columns source sources columns = record { source = source; sources = sources; columns = columns }
