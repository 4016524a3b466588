-- The graph that a list of arcs shows: an edge of the first kind along each arc between its vertices.
use Rattle.std.specs.Prelude.{ℕ, List, [], ◌∷◌, ◌++◌, cond, map, filter, replicate, nat_lt, Bool, ◌&&◌, ◌==◌, pos}
use Rattle.std.specs.declared.option.Option.TheVariants.{None}
use Rattle.graph_types.specs.{Graph.{Graph, map_of}, Limits.standard_limits, declared.ids.{Edge.Edge, Filter.Filter}}

-- the edge along an arc, of weight 0 and time 0
abbrev pub edge_along : ℕ × ℕ → Edge
edge_along arc =
    record {
      kind = record { 0 = 0 };
      source = record { 0 = arc.0 };
      target = record { 0 = arc.1 };
      weight = pos 0;
      first = 0;
      recent = 0;
    }

abbrev pub is_within : ℕ → ℕ × ℕ → Bool
is_within count arc = nat_lt arc.0 count && nat_lt arc.1 count

-- an arc between its vertices that leaves this one
abbrev pub leaves_source : ℕ → ℕ → ℕ × ℕ → Bool
leaves_source count source arc = (arc.0 == source) && is_within count arc

-- the graph of so many vertices with these arcs
abbrev pub along : ℕ → List (ℕ × ℕ) → Graph
along count arcs =
    record {
      names = replicate count [];
      kinds = [];
      edges = map_of (map edge_along (filter (is_within count) arcs));
      limits = standard_limits;
    }

-- all edges of it
abbrev pub all_edges : Filter
all_edges = record { kind = None; lo = 0; hi = 0 }

-- the targets that a pass over the arcs puts after these
abbrev pub put_targets : ℕ → ℕ → List (ℕ × ℕ) → List ℕ → List ℕ
put_targets count source [] targets = targets
put_targets count source (arc ∷ arcs) targets =
    put_targets count source arcs (cond (leaves_source count source arc) (targets ++ arc.1 ∷ []) targets)
