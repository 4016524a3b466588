-- What an opening from columns is, and when there is none.
use Rattle.std.specs.Prelude.{◌≡◌, ◌≢◌, [], ℕ, ◌<◌, List, length, All, AllPairs, replicate, false}
use Rattle.graph_types.specs.{Graph.{Graph, map_of}, Limits.LimitsView, Step.{after_all, empty_graph_in}, declared.ids.Edge.Edge}
use Rattle.graph_types.specs.declared.batches.NamedOp.{NamedOp}
use Rattle.edge_block.specs.Slots.{BlockView}
use Rattle.vertex_names.specs.Book.{Book}
use Rattle.graph_version.specs.{Rows.{blocks_of, numbers_of}, Versions.{VersionView, IsVersion}}
use Rattle.block_pool.specs.Pools.{marked}
use Rattle.block_reclamation.specs.declared.status.BlockStatus.{BlockStatus, TheVariants.{Free, Used}}
use Rattle.batch_columns.specs.Operations.{OperationTable, are_alike}
use Rattle.opening_columns.specs.{Edges.{AreRising, IsWithinBounds}, Numbers.{AreTaken, RefusesRows}, Packed.ArePacked, Runs.{AreFilled, AreRuns}}
use Rattle.opening_columns.specs.declared.{errors.OpenColumnsError.OpenColumnsError, making.Made.Made}
use Rattle.opening_columns.specs.declared.errors.OpenColumnsError.TheVariants.{BadLength, PoolEmpty, OutOfMemory}

-- a version that begins with what operations leave of the empty graph, one after another, in as few blocks as its edges need
pub record IsOpenedWith (ops : List NamedOp) (limits : LimitsView) (v : VersionView) : Type 0 where
  pub opening : v.opening ≡ after_all ops (empty_graph_in limits)
  pub batches : v.batches ≡ []
  pub version : IsVersion v
  pub packed : ArePacked v.rows

-- the same of columns, with a pool of so many blocks: those of the version were born with it, and all others are free
pub record IsMadeOf (limits : LimitsView) (blocks : ℕ) (t : OperationTable) (made : Made) : Type 0 where
  pub ops : List NamedOp
  pub taken : AreTaken limits t (length t.sorts) ops
  pub opened : IsOpenedWith ops limits made.version
  pub within : All (λ n. n < blocks) (numbers_of (blocks_of made.version.rows))
  pub pool : made.pool ≡ marked (numbers_of (blocks_of made.version.rows)) (Used 0) (replicate blocks Free)

-- the graph of these names and kinds with these edges
abbrev pub graph_left : LimitsView → Book → Book → List Edge → Graph
graph_left limits names kinds edges = record { names = names.names; kinds = kinds.names; edges = map_of edges; limits = limits }

-- names, kinds and edges, each edge once by rising numbers, are what operations leave
pub record AreLeft (limits : LimitsView) (ops : List NamedOp) (names kinds : Book) (edges : List Edge) : Type 0 where
  pub names_limit : names.limit ≡ limits.names
  pub kinds_limit : kinds.limit ≡ limits.kinds
  pub rising : AreRising edges
  pub range : All IsWithinBounds edges
  pub graph : graph_left limits names kinds edges ≡ after_all ops (empty_graph_in limits)

-- the same of the operations in columns
pub record IsLeftOf (limits : LimitsView) (t : OperationTable) (names kinds : Book) (edges : List Edge) : Type 0 where
  pub ops : List NamedOp
  pub taken : AreTaken limits t (length t.sorts) ops
  pub left : AreLeft limits ops names kinds edges

-- edges in blocks, which are those of a pool that aren't free
pub record AreLaidOut (blocks : ℕ) (edges : List Edge) (bs : List BlockView) (pool : List BlockStatus) : Type 0 where
  pub runs : List (List Edge)
  pub are : AreRuns edges runs
  pub filled : AreFilled runs bs
  pub distinct : AllPairs ◌≢◌ (numbers_of bs)
  pub within : All (λ n. n < blocks) (numbers_of bs)
  pub pool_is : pool ≡ marked (numbers_of bs) (Used 0) (replicate blocks Free)

-- so many blocks edges need: 32 edges of one source and kind fill one
abbrev pub NeedsBlocks : List Edge → ℕ → Type 0
NeedsBlocks edges needed = (runs : List (List Edge)) × AreRuns edges runs × (length runs ≡ needed)

-- what operations leave needs so many blocks
pub record NeedsFor (limits : LimitsView) (t : OperationTable) (needed : ℕ) : Type 0 where
  pub ops : List NamedOp
  pub taken : AreTaken limits t (length t.sorts) ops
  pub edges : List Edge
  pub are : map_of edges ≡ (after_all ops (empty_graph_in limits)).edges
  pub rising : AreRising edges
  pub needs : NeedsBlocks edges needed

-- why edges don't lie in a pool of so many blocks: they need more, or memory ran out
abbrev pub RefusesEdges : ℕ → List Edge → OpenColumnsError → Type 0
RefusesEdges blocks edges (PoolEmpty needed free) = (free ≡ blocks) × (blocks < needed) × NeedsBlocks edges needed
RefusesEdges blocks edges OutOfMemory = Unit {0}
RefusesEdges blocks edges _ = ⊥

-- why columns aren't an opening in so many blocks, and the place that is told: that of the first row that isn't taken, and else 0
abbrev pub RefusesColumns : LimitsView → ℕ → OperationTable → ℕ → OpenColumnsError → Type 0
RefusesColumns limits blocks t place BadLength = (are_alike t ≡ false) × (place ≡ 0)
RefusesColumns limits blocks t place (PoolEmpty needed free) =
    (place ≡ 0) × (free ≡ blocks) × (blocks < needed) × NeedsFor limits t needed
RefusesColumns limits blocks t place error = RefusesRows limits t place error
