-- What the calls about walks tell.
use Rattle.std.specs.Prelude.{◌≡◌, ◌==◌, ◌⊎◌, ℕ, List, if◌then◌else◌, Option, Some, None}
use Rattle.graph_types.specs.{Graph.Graph, Analyses.{Joins, LeadsTo}, declared.ids.Filter.Filter}
use Rattle.graph_version.specs.Versions.{VersionView, content}
use Rattle.version_columns.specs.declared.views.View.{View}
use Rattle.version_columns.specs.{Nearby.{NearColumns, WritesWithin}, Paths.WritesPath}
use Rattle.misteluk_c.specs.declared.walking.Direction.{Direction, TheVariants.{Along, Against, Either}}
use Rattle.misteluk_c.specs.Held.{TellsCode}

-- the direction of a number, and where a step leads in it
abbrev pub direction_of : ℕ → Option Direction
direction_of number =
    if number == 0 then Some Along else (if number == 1 then Some Against else (if number == 2 then Some Either else None))

abbrev pub step_by : Direction → Graph → Filter → ℕ → ℕ → Type 0
step_by Along g f a b = LeadsTo f g a b
step_by Against g f a b = LeadsTo f g b a
step_by Either g f a b = Joins f g a b

-- the vertices that walks reach; or memory was refused for the edges by their targets, and nothing is written
abbrev pub TellsWithin : Direction → VersionView → View → List ℕ → ℕ → NearColumns → NearColumns → ℕ → ℕ → Type 0
TellsWithin direction v view sources steps old new count code =
    TellsCode code (WritesWithin v (step_by direction (content v)) view sources steps old new count) ⊎ ((code ≡ 1) × (new ≡ old))

-- the vertices of a shortest walk; or as above
abbrev pub TellsPath : VersionView → View → ℕ → ℕ → List ℕ → List ℕ → ℕ → ℕ → Type 0
TellsPath v view source target old new count code =
    TellsCode code (WritesPath v view source target old new count) ⊎ ((code ≡ 1) × (new ≡ old))
