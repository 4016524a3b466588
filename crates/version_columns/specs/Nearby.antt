-- Vertices that walks lead to, with their levels, in the caller's columns.
use Rattle.std.specs.Prelude.{◌≡◌, ◌≢◌, ◌⊎◌, ◌==◌, ◌<◌, ◌≤◌, ℕ, List, length, map, nat_lt, Bool, true, false, if◌then◌else◌}
use Rattle.std.specs.{Prelude.{Option, Some, None, Result, Ok, Err}, List.list_all}
use Rattle.graph_types.specs.{Analyses.{Joins, LeadsTo}, declared.ids.{Filter.Filter, VertexId.VertexId}}
use Rattle.graph_version.specs.Versions.{VersionView, content}
use Rattle.graph_levels.specs.{Near.AreNear, Reached.vertices_of}
use Rattle.version_columns.specs.declared.views.{View.View, ColumnError.ColumnError}
use Rattle.version_columns.specs.declared.views.ColumnError.TheVariants.{NoKind, NoVertex, BadLength, OutOfMemory}
use Rattle.version_columns.specs.declared.nearby.Ways.{Ways, TheVariants.{Along, Against, EitherWay}}
use Rattle.version_columns.specs.{Rows.with_values, Views.{filter_of, no_number}}

-- the version over whose edges walks go, and where a step of them leads
abbrev pub walked_version : Ways → VersionView
walked_version (Along version) = version.now
walked_version (Against incoming) = incoming.now
walked_version (EitherWay incoming) = incoming.now

abbrev pub step_in : Ways → Filter → ℕ → ℕ → Type 0
step_in (Along version) f a b = LeadsTo f (content version.now) a b
step_in (Against incoming) f a b = LeadsTo f (content incoming.now) b a
step_in (EitherWay incoming) f a b = Joins f (content incoming.now) a b

-- the bound on steps of a number: none at the greatest
abbrev pub bound_in : ℕ → Option ℕ
bound_in steps = if steps == no_number then None else Some steps

-- whether all are vertices
abbrev pub are_vertices : ℕ → List ℕ → Bool
are_vertices count sources = list_all (λ s. nat_lt s count) sources

-- two columns, of vertices and their levels
pub record NearColumns : Type 0 where
  pub vertices : List ℕ
  pub levels : List ℕ

abbrev pub near_columns : List ℕ → List ℕ → NearColumns
near_columns vertices levels = record { vertices = vertices; levels = levels }

-- these rows at the beginning, and all behind them as it was
abbrev pub with_rows : List (VertexId × ℕ) → NearColumns → NearColumns
with_rows rows c =
    near_columns (with_values 0 (vertices_of rows) c.vertices) (with_values 0 (map (λ row. row.1) rows) c.levels)

-- The vertices that walks within the bound reach from the sources are written with their levels, in number order, and counted; or
-- the first refusal that holds, of a source that is no vertex, of columns that differ in length, and of too few places, where
-- the count is told; or memory was refused. A refusal leaves the columns as they were.
abbrev pub WritesNear : ℕ → (ℕ → ℕ → Type 0) → List ℕ → Option ℕ → NearColumns → NearColumns → ℕ → Result (Unit {0}) ColumnError → Type 0
WritesNear count Step sources most old new told (Ok _) =
    (are_vertices count sources ≡ true) × (length old.levels ≡ length old.vertices)
    × ((rows : List (VertexId × ℕ)) × AreNear count Step sources most rows × (told ≡ length rows)
    × (length rows ≤ length old.vertices) × (new ≡ with_rows rows old))
WritesNear count Step sources most old new told (Err NoVertex) = (are_vertices count sources ≡ false) × (new ≡ old)
WritesNear count Step sources most old new told (Err BadLength) =
    (are_vertices count sources ≡ true) × (new ≡ old)
    × ((length old.levels ≢ length old.vertices)
    ⊎ ((rows : List (VertexId × ℕ)) × AreNear count Step sources most rows × (told ≡ length rows) × (length old.vertices < length rows)))
WritesNear count Step sources most old new told (Err OutOfMemory) =
    (are_vertices count sources ≡ true) × (length old.levels ≡ length old.vertices) × (new ≡ old)
WritesNear count Step sources most old new told (Err _) = ⊥

-- the same over the edges of a view, which is refused first where its kind is none
abbrev pub WritesWithin : VersionView → (Filter → ℕ → ℕ → Type 0) → View → List ℕ → ℕ → NearColumns → NearColumns → ℕ
    → Result (Unit {0}) ColumnError → Type 0
WritesWithin v Step view sources steps old new told result =
    ((filter_of (content v) view ≡ None) × (result ≡ Err NoKind) × (new ≡ old))
    ⊎ ((f : Filter) × (filter_of (content v) view ≡ Some f)
    × WritesNear (length (content v).names) (Step f) sources (bound_in steps) old new told result)
