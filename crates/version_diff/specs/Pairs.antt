-- Two versions of one graph.
use Rattle.std.specs.Prelude.{◌≡◌, ◌<◌, ℕ, List, ◌++◌, All, AllPairs}
use Rattle.graph_types.specs.declared.ids.VertexId.{VertexId}
use Rattle.edge_block.specs.Slots.{BlockView}
use Rattle.graph_version.specs.{Differences.DifferAt, Rows.row_of, Versions.{VersionView, content}}

-- an earlier version and a later one
pub record PairView : Type 0 where
  pub earlier : VersionView
  pub later : VersionView

abbrev pub version_pair : VersionView → VersionView → PairView
version_pair earlier later = record { earlier = earlier; later = later }

-- a list begins with another
abbrev pub BeginsWith : List (List ℕ) → List (List ℕ) → Type 0
BeginsWith names more = (rest : List (List ℕ)) × (more ≡ names ++ rest)

-- the later version's names and kinds begin with the earlier's: so a number stands for one vertex, and for one kind, in both
pub record IsNamedAfter (earlier later : VersionView) : Type 0 where
  pub names : BeginsWith (content earlier).names (content later).names
  pub kinds : BeginsWith (content earlier).kinds (content later).kinds

-- each source is above the one before it
abbrev pub AreSourcesRising : List VertexId → Type 0
AreSourcesRising sources = AllPairs (λ s t. s.0 < t.0) sources

-- each block of others is the very block of some that has its number
abbrev pub AreSameByNumber : List BlockView → List BlockView → Type 0
AreSameByNumber some others = All (λ c. All (λ b. b.number ≡ c.number → b ≡ c) some) others

-- two versions of one graph, in whose rows a number stands for one block, and the sources at which their rows may differ
pub record ArePair (earlier later : VersionView) (sources : List VertexId) : Type 0 where
  pub named : IsNamedAfter earlier later
  pub alike : (source : ℕ) → AreSameByNumber (row_of earlier.rows source) (row_of later.rows source)
  pub differ : DifferAt sources earlier.rows later.rows
  pub rising : AreSourcesRising sources
