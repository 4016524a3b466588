-- Post: the test that decides it, and what it makes.
use Rattle.std.specs.Prelude.{◌≡◌, ℕ, Bool, true, false, not, ◌&&◌, ◌||◌, ◌==◌, nat_lt, List, [], ◌∷◌, length, ◌+◌, slice_get}
use Rattle.std.specs.{Prelude.IsTrue, Prelude.IsFalse, List.list_any, List.list_all, Ordering.int_eq, FinMap.get, FinMap.len}
use Rattle.std.specs.declared.option.Option.{Option, TheVariants.None, TheVariants.Some}
use Rattle.graph_types.specs.Graph.{Graph, Key, Stamp, key_of, stamp_of, graph_in, IsContentIn}
use Rattle.graph_types.specs.{Step.after_all, Limits.LimitsView, declared.ids.Edge.Edge}
use Rattle.graph_types.specs.{Step.is_within_limits, declared.{batches.NamedOp.NamedOp, contents.Content.Content}}
use Rattle.block_reclamation.specs.{declared.status.BlockStatus.BlockStatus, Status.is_at, Status.is_granted, Status.is_among}
use Rattle.epoch_core.specs.{declared.states.{Version.Version, Opening.Opening}, Blocks.{all_differ, status_after}}
use Rattle.epoch_core.specs.Versions.{graph_at, version_at, blocks_at, edges_of, content_with, IsContentGraph}

-- what the batch leaves of the last version
abbrev pub graph_after : Opening → List Version → List NamedOp → Graph
graph_after opening versions batch = after_all batch (graph_at opening versions (length versions))

-- The test

-- a version may list the granted blocks and those of the last version
abbrev pub is_listable : List BlockStatus → List ℕ → ℕ → Bool
is_listable status last b = is_at is_granted (slice_get status b) || is_among b last

abbrev pub all_listable : List BlockStatus → List ℕ → List ℕ → Bool
all_listable status last blocks = list_all (is_listable status last) blocks

abbrev pub same_key : Key → Key → Bool
same_key a b = (a.kind == b.kind) && (a.source == b.source) && (a.target == b.target)

abbrev pub same_stamp : Stamp → Stamp → Bool
same_stamp a b = int_eq a.weight b.weight && (a.first == b.first) && (a.recent == b.recent)

-- no key stands twice
abbrev pub keys_differ : List Edge → Bool
keys_differ [] = true
keys_differ (e ∷ es) = not (list_any (λ other. same_key (key_of other) (key_of e)) es) && keys_differ es

-- whether this stands at the edge's key
abbrev pub bears : Option Stamp → Stamp → Bool
bears None stamp = false
bears (Some found) stamp = same_stamp found stamp

-- whether the edges are each once the edges of the graph: no key stands twice, each is an edge of the graph,
-- and they are as many as the graph has
abbrev pub are_edges_of : Graph → List Edge → Bool
are_edges_of g edges = keys_differ edges && list_all (λ e. bears (get g.edges (key_of e)) (stamp_of e)) edges
    && (length edges == len g.edges)

abbrev pub can_post : Opening → List (List Edge) → List BlockStatus → List Version → List NamedOp → List ℕ → Bool
can_post opening heap status versions batch blocks =
    nat_lt (length versions) opening.limits.batches && all_listable status (blocks_at opening versions (length versions)) blocks
    && all_differ blocks
    && is_within_limits (graph_after opening versions batch)
    && are_edges_of (graph_after opening versions batch) (edges_of heap blocks)

-- What it makes

-- the version that the batch makes on these blocks
abbrev pub version_by : Opening → List Version → List NamedOp → List ℕ → Version
version_by opening versions batch blocks =
    record {
      batch = batch;
      blocks = blocks;
      names = (graph_after opening versions batch).names;
      kinds = (graph_after opening versions batch).kinds;
    }

-- the content of the last version, as its blocks show it
abbrev pub last_content : Opening → List (List Edge) → List Version → Content
last_content opening heap versions =
    content_with (version_at opening versions (length versions)) (edges_of heap (blocks_at opening versions (length versions)))

-- what a batch leaves of a content; none where it would meet a limit
abbrev pub IsContentAfter : LimitsView → Content → List NamedOp → Option Content → Type 0
IsContentAfter limits content batch None = IsFalse (is_within_limits (after_all batch (graph_in limits content)))
IsContentAfter limits content batch (Some after) =
    IsContentIn limits after × (graph_in limits after ≡ after_all batch (graph_in limits content))

-- what a Post would set: the status of each block and the new version; none where it is skipped
abbrev pub IsPlanOf : Opening → List (List Edge) → List BlockStatus → List Version → List NamedOp → List ℕ
    → Option (List BlockStatus × Version) → Type 0
IsPlanOf opening heap status versions batch blocks None = IsFalse (can_post opening heap status versions batch blocks)
IsPlanOf opening heap status versions batch blocks (Some plan) =
    IsTrue (can_post opening heap status versions batch blocks) × (plan.0 ≡ status_after (length versions + 1) blocks status)
    × (plan.1 ≡ version_by opening versions batch blocks) × IsContentGraph (graph_after opening versions batch)
