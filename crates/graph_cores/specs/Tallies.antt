-- Degrees over the edges of a view in blocks, counted one after another.
use Rattle.std.specs.Prelude.{◌≡◌, ◌≢◌, ℕ, ℤ, ◌*◌, ◌≤◌, ◌<◌, ◌++◌, List, length, filter, Bool, true, All, AllPairs}
use Rattle.graph_types.specs.{Graph.{key_of, stamp_of, entry_of}, Limits.{IsWeightIn, SumsFit, most_places}, View.in_view, Degrees.IsTally}
use Rattle.graph_types.specs.declared.ids.{Degree.Degree, Edge.Edge, Filter.Filter}
use Rattle.edge_block.specs.Slots.{BlockView, IsStamp}
use Rattle.graph_version.specs.Edges.{edges_in_block, edges_in_blocks}

-- an edge as degrees see it: of any kind and times
abbrev pub edge_between : ℕ → ℕ → ℤ → Edge
edge_between source target weight =
    record {
      kind = record { 0 = 0 };
      source = record { 0 = source };
      target = record { 0 = target };
      weight = weight;
      first = 0;
      recent = 0;
    }

-- whether a filter lets an edge through
abbrev pub passes : Filter → Edge → Bool
passes f e = in_view f (entry_of e)

-- the edges of a block that a filter lets through, and those of several blocks
abbrev pub shown_block : Filter → BlockView → List Edge
shown_block f b = filter (passes f) (edges_in_block b)

abbrev pub shown_edges : Filter → List BlockView → List Edge
shown_edges f blocks = filter (passes f) (edges_in_blocks blocks)

-- a table of the degrees over these edges, whose weights and times are in range
pub record IsCounted (f : Filter) (edges : List Edge) (table : List Degree) : Type 0 where
  pub tally : IsTally f edges (length table) table
  pub stamps : All (λ e. IsStamp (stamp_of e)) edges

-- edges of a view between n vertices, each key once; of as many kinds as leave few enough places, and of weights so small that
-- sums of them fit
pub record AreViewEdges (f : Filter) (n : ℕ) (edges : List Edge) : Type 0 where
  pub kind_count : ℕ
  pub few : n * kind_count ≤ most_places
  pub most_weight : ℕ
  pub weights : All (λ e. IsWeightIn most_weight e.weight) edges
  pub sums : SumsFit (n * kind_count) most_weight
  pub once : AllPairs (λ a b. key_of a ≢ key_of b) edges
  pub kinds : All (λ e. e.kind.0 < kind_count) edges
  pub sources : All (λ e. e.source.0 < n) edges
  pub targets : All (λ e. e.target.0 < n) edges
  pub seen : All (λ e. passes f e ≡ true) edges

-- a table of the degrees over some edges of a view, to which these can be added
abbrev pub HasTallyRoom : Filter → List Edge → List Degree → Type 0
HasTallyRoom f edges table = (before : List Edge) × IsCounted f before table × AreViewEdges f (length table) (before ++ edges)

-- these edges are counted, whichever were counted before
abbrev pub Counts : Filter → List Edge → List Degree → List Degree → Type 0
Counts f edges old new = (before : List Edge) → IsCounted f before old → IsCounted f (before ++ edges) new
