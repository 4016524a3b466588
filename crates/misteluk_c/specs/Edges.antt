-- What the calls that write edges into the columns of C's struct tell.
use Rattle.std.specs.Prelude.{◌≡◌, ◌⊎◌, ℕ}
use Rattle.graph_version.specs.Versions.{VersionView}
use Rattle.version_columns.specs.declared.views.View.{View}
use Rattle.version_columns.specs.Rows.{Columns, EdgeColumns as EdgeTable, columns, edge_columns, row_edges, in_edges}
use Rattle.version_columns.specs.Rows.{WritesRow, IsRowCount, WritesEdges}
use Rattle.misteluk_c.specs.declared.versions.EdgeColumns.{EdgeColumns}
use Rattle.misteluk_c.specs.Held.{TellsCode}

-- what the columns have: without the sources, without the targets, and all
abbrev pub row_columns : EdgeColumns → Columns
row_columns it = columns it.kinds.now it.targets.now it.weights.now it.firsts.now it.recents.now

abbrev pub in_columns : EdgeColumns → Columns
in_columns it = columns it.kinds.now it.sources.now it.weights.now it.firsts.now it.recents.now

abbrev pub edge_table_from : ℕ → EdgeColumns → EdgeTable
edge_table_from source it = edge_columns source it.sources.now (row_columns it)

abbrev pub edge_table : EdgeColumns → EdgeTable
edge_table it = edge_table_from 0 it

-- the struct is as it was: the same columns, whatever they have
pub record AreTheColumns (old new : EdgeColumns) : Type 0 where
  pub size : new.size ≡ old.size
  pub kinds : new.kinds.ghost_name ≡ old.kinds.ghost_name
  pub sources : new.sources.ghost_name ≡ old.sources.ghost_name
  pub targets : new.targets.ghost_name ≡ old.targets.ghost_name
  pub weights : new.weights.ghost_name ≡ old.weights.ghost_name
  pub firsts : new.firsts.ghost_name ≡ old.firsts.ghost_name
  pub recents : new.recents.ghost_name ≡ old.recents.ghost_name

-- the edges of one source, and of sources from one on
abbrev pub TellsRow : VersionView → View → ℕ → EdgeColumns → EdgeColumns → ℕ → ℕ → Type 0
TellsRow v view source old new count code =
    TellsCode code (WritesRow row_edges v view source (row_columns old) (row_columns new)) × IsRowCount row_edges v view source count

abbrev pub TellsEdges : VersionView → View → ℕ → EdgeColumns → ℕ → EdgeColumns → ℕ → ℕ → Type 0
TellsEdges v view from old next new count code =
    TellsCode code (WritesEdges v view (edge_table_from from old) (edge_table_from next new) count)

-- the edges that lead to one target, by the edges in the order of their targets; or memory was refused for these, and nothing is
-- written
abbrev pub TellsInto : VersionView → View → ℕ → EdgeColumns → EdgeColumns → ℕ → ℕ → Type 0
TellsInto v view target old new count code =
    TellsCode code (WritesRow in_edges v view target (in_columns old) (in_columns new)) × IsRowCount in_edges v view target count

abbrev pub TellsInEdges : VersionView → View → ℕ → EdgeColumns → EdgeColumns → ℕ → ℕ → Type 0
TellsInEdges v view target old new count code =
    TellsInto v view target old new count code ⊎ ((code ≡ 1) × (edge_table new ≡ edge_table old))
