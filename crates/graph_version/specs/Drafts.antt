-- A version that is being made.
use Rattle.std.specs.Prelude.{◌≡◌, List, ℕ, ◌++◌, ◌∷◌, [], ◌==◌, map, if◌then◌else◌}
use Rattle.graph_types.specs.declared.{batches.NamedOp.NamedOp, ids.VertexId.VertexId}
use Rattle.edge_block.specs.Slots.{BlockView}
use Rattle.vertex_names.specs.Book.{Book}
use Rattle.graph_version.specs.Rows.{row_of, Replaces}
use Rattle.graph_version.specs.{Versions.{VersionView, content, IsVersion}, Kept.{vertex_book, kind_book}}

-- the two books, and what the version would be now
pub record DraftView : Type 0 where
  pub names : Book
  pub kinds : Book
  pub version : VersionView

-- a draft begins as the version that it is drafted over
abbrev pub drafted_over : VersionView → DraftView
drafted_over v = record { names = vertex_book (content v); kinds = kind_book (content v); version = v }

-- a draft with one more batch
abbrev pub with_batch : DraftView → List NamedOp → DraftView
with_batch d batch = record d { version = record d.version { batches = d.version.batches ++ batch ∷ [] } }

-- the draft after, where a source's row took the place of the one before and all else stayed
pub record ReplacesRow (source : ℕ) (row : List BlockView) (before after : DraftView) : Type 0 where
  pub rows : Replaces source row before.version.rows after.version.rows
  pub rest : after ≡ record before { version = record before.version { rows = after.version.rows } }

-- rows, each with its source's number
abbrev pub row_values : List (VertexId × List BlockView) → List (ℕ × List BlockView)
row_values rows = map (λ r. (r.0.0, r.1)) rows

-- a source's row where these rows took the places of those before, one after another
abbrev pub row_among : List (ℕ × List BlockView) → ℕ → List BlockView → List BlockView
row_among [] source row = row
row_among (r ∷ rows) source row = row_among rows source (if source == r.0 then r.1 else row)

-- the draft after, where these rows took their places and all else stayed
pub record ReplacesRows (rows : List (ℕ × List BlockView)) (before after : DraftView) : Type 0 where
  pub rows_are : (source : ℕ) → row_of after.version.rows source ≡ row_among rows source (row_of before.version.rows source)
  pub rest : after ≡ record before { version = record before.version { rows = after.version.rows } }

-- the draft of the version after this one: with these books, where these rows took their places, and with one more batch
pub record IsNextDraft (v : VersionView) (names kinds : Book) (rows : List (ℕ × List BlockView)) (batch : List NamedOp)
    (d : DraftView) : Type 0 where
  pub put : DraftView
  pub rows_are : ReplacesRows rows (record (drafted_over v) { names = names; kinds = kinds }) put
  pub draft_is : d ≡ with_batch put batch

-- a draft that is a version: its rows have what its batches leave, and its books have the names
pub record IsWhole (d : DraftView) : Type 0 where
  pub names_are : d.names ≡ vertex_book (content d.version)
  pub kinds_are : d.kinds ≡ kind_book (content d.version)
  pub version : IsVersion d.version
