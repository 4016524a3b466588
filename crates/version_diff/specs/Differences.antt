-- What became of the edges of a view from an earlier version to a later one.
use Rattle.std.specs.Prelude.{◌≡◌, ◌∷◌, ℕ, zero, suc, pos, ◌+◌, ◌==◌, ◌&&◌, nat_le, List, [], ◌++◌, map, find, filter_map, flat_map, length}
use Rattle.std.specs.Prelude.{Bool, Option, Some, None, if◌then◌else◌}
use Rattle.std.specs.Ordering.{int_eq}
use Rattle.graph_types.specs.{Graph.Stamp, View.takes_kind, declared.ids.Filter.Filter}
use Rattle.edge_block.specs.{Slots.BlockView, Lending.{LentEdge, lent_of}}
use Rattle.graph_version.specs.{Rows.row_of, Shown.shown, Versions.{VersionView, content}}
use Rattle.version_diff.specs.Pairs.{PairView}
use Rattle.version_diff.specs.declared.rows.{EdgeDifference.EdgeDifference, EdgeMarks.EdgeMarks}

-- the edges that a filter lets through: of a block in slot order, of blocks, and of a source in the order of its row
abbrev pub seen_in_block : Filter → BlockView → List LentEdge
seen_in_block f b = map lent_of (shown f b)

abbrev pub seen_in : Filter → List BlockView → List LentEdge
seen_in f blocks = flat_map (seen_in_block f) blocks

abbrev pub seen_from : Filter → VersionView → ℕ → List LentEdge
seen_from f v source = seen_in f (row_of v.rows source)

-- whether a filter lets an edge through: by its kind, and by its recent time, both ends of the window included
abbrev pub sees : Filter → LentEdge → Bool
sees f e = takes_kind f.kind e.kind && nat_le f.lo e.stamp.recent && nat_le e.stamp.recent f.hi

-- whether an edge is one of a kind to a target, and the edge that is, if there is one
abbrev pub is_to : ℕ → ℕ → LentEdge → Bool
is_to kind target e = (e.kind == kind) && (e.target == target)

abbrev pub edge_to : List LentEdge → ℕ → ℕ → Option LentEdge
edge_to edges kind target = find (is_to kind target) edges

-- no edge has the kind and the target of one before it
abbrev pub AreApart : List LentEdge → Type 0
AreApart [] = Unit {0}
AreApart (e ∷ es) = (edge_to es e.kind e.target ≡ None) × AreApart es

-- whether weights and times are the same
abbrev pub bears_same : Stamp → Stamp → Bool
bears_same s t = int_eq s.weight t.weight && (s.first == t.first) && (s.recent == t.recent)

abbrev pub borne_by : Stamp → EdgeMarks
borne_by s = record { weight = s.weight; first = s.first; recent = s.recent }

abbrev pub no_marks : EdgeMarks
no_marks = record { weight = pos 0; first = 0; recent = 0 }

-- an edge of a source that is gone, one that is new, and one that changed
abbrev pub gone_edge : ℕ → LentEdge → EdgeDifference
gone_edge source e =
    record { state = 0; kind = e.kind; source = source; target = e.target; before = borne_by e.stamp; after = no_marks }

abbrev pub new_edge : ℕ → LentEdge → EdgeDifference
new_edge source e =
    record { state = 1; kind = e.kind; source = source; target = e.target; before = no_marks; after = borne_by e.stamp }

abbrev pub changed_edge : ℕ → LentEdge → LentEdge → EdgeDifference
changed_edge source d e =
    record { state = 2; kind = e.kind; source = source; target = e.target; before = borne_by d.stamp; after = borne_by e.stamp }

-- an earlier edge is gone where there is none later
abbrev pub if_gone : ℕ → LentEdge → Option LentEdge → Option EdgeDifference
if_gone source e None = Some (gone_edge source e)
if_gone source e (Some later) = None

-- a later edge is new where there was none earlier, and changed where it bears something else
abbrev pub if_not_same : ℕ → LentEdge → Option LentEdge → Option EdgeDifference
if_not_same source e None = Some (new_edge source e)
if_not_same source e (Some earlier) = if bears_same earlier.stamp e.stamp then None else Some (changed_edge source earlier e)

-- of a source's earlier edges those that are gone, and of its later ones those that are new or changed
abbrev pub gone_among : ℕ → List LentEdge → List LentEdge → List EdgeDifference
gone_among source later edges = filter_map (λ e. if_gone source e (edge_to later e.kind e.target)) edges

abbrev pub not_same_among : ℕ → List LentEdge → List LentEdge → List EdgeDifference
not_same_among source earlier edges = filter_map (λ e. if_not_same source e (edge_to earlier e.kind e.target)) edges

-- what became of a source's edges: first those that are gone, in the order of the earlier row, then those that are new or changed,
-- in the order of the later one
abbrev pub difference_of : ℕ → List LentEdge → List LentEdge → List EdgeDifference
difference_of source earlier later = gone_among source later earlier ++ not_same_among source earlier later

abbrev pub difference_at : Filter → PairView → ℕ → List EdgeDifference
difference_at f p source = difference_of source (seen_from f p.earlier source) (seen_from f p.later source)

-- what became of the edges of so many sources from one on, and of all
abbrev pub differences_from : Filter → PairView → ℕ → ℕ → List EdgeDifference
differences_from f p source zero = []
differences_from f p source (suc n) = difference_at f p source ++ differences_from f p (source + 1) n

abbrev pub difference : Filter → PairView → List EdgeDifference
difference f p = differences_from f p 0 (length (content p.later).names)
