-- A path in the caller's column.
use Rattle.std.specs.Prelude.{◌≡◌, ◌⊎◌, ◌&&◌, ◌<◌, ◌≤◌, ◌++◌, ℕ, List, length, drop, nat_lt, Bool, true, false, Option, Some, None, Result, Ok, Err}
use Rattle.graph_types.specs.{Graph.Graph, Analyses.LeadsTo, declared.ids.Filter.Filter}
use Rattle.graph_version.specs.Versions.{VersionView, content}
use Rattle.graph_walks.specs.Paths.{IsPath, IsPathIfAny}
use Rattle.version_columns.specs.declared.views.{View.View, ColumnError.ColumnError}
use Rattle.version_columns.specs.declared.views.ColumnError.TheVariants.{NoKind, NoVertex, BadLength, OutOfMemory}
use Rattle.version_columns.specs.Views.{filter_of}

-- the vertices stand at the beginning, all behind them is as it was, and they are counted; none where there is no path
abbrev pub PutsPath : List ℕ → List ℕ → ℕ → Option (List ℕ) → Type 0
PutsPath old new count None = (count ≡ 0) × (new ≡ old)
PutsPath old new count (Some path) =
    (count ≡ length path) × (length path ≤ length old) × (new ≡ path ++ drop (length path) old)

-- whether both are vertices
abbrev pub are_both : Graph → ℕ → ℕ → Bool
are_both g source target = nat_lt source (length g.names) && nat_lt target (length g.names)

-- the path is written; or refused because one of both is no vertex, or there are too few places, and then the count is told, or
-- memory was refused. A refusal leaves the column as it was
abbrev pub WritesPathIn : Filter → Graph → ℕ → ℕ → List ℕ → List ℕ → ℕ → Result (Unit {0}) ColumnError → Type 0
WritesPathIn f g source target old new count (Ok _) =
    (are_both g source target ≡ true)
    × ((path : Option (List ℕ)) × IsPathIfAny (LeadsTo f g) source target path × PutsPath old new count path)
WritesPathIn f g source target old new count (Err NoVertex) = (are_both g source target ≡ false) × (new ≡ old)
WritesPathIn f g source target old new count (Err BadLength) =
    (are_both g source target ≡ true) × (new ≡ old)
    × ((path : List ℕ) × IsPath (LeadsTo f g) source target path × (count ≡ length path) × (length old < length path))
WritesPathIn f g source target old new count (Err OutOfMemory) = (are_both g source target ≡ true) × (new ≡ old)
WritesPathIn f g source target old new count (Err _) = ⊥

-- the same over a view, which is refused first where its kind is none
abbrev pub WritesPath : VersionView → View → ℕ → ℕ → List ℕ → List ℕ → ℕ → Result (Unit {0}) ColumnError → Type 0
WritesPath v view source target old new count result =
    ((filter_of (content v) view ≡ None) × (result ≡ Err NoKind) × (new ≡ old))
    ⊎ ((f : Filter) × (filter_of (content v) view ≡ Some f) × WritesPathIn f (content v) source target old new count result)
