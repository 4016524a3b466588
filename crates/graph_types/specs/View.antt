-- The view: the edges that a filter lets through, and the degrees that are counted over it.
use Rattle.std.specs.{Prelude.{ℕ, ℤ, pos, ◌+ℤ◌, ◌==◌, nat_le, map, filter, count_by, Bool, true, ◌&&◌, fold}, FinMap.entries}
use Rattle.std.specs.declared.option.Option.{Option, TheVariants.{None, Some}}
use Rattle.graph_types.specs.{Graph.{Graph, Key, Stamp}, declared.ids.{Filter.Filter, KindId.KindId}}

-- whether the filter takes edges of this kind
abbrev pub takes_kind : Option KindId → ℕ → Bool
takes_kind None kind = true
takes_kind (Some wanted) kind = wanted.0 == kind

-- whether the filter lets an edge through: by its kind, and by its recent time, both ends of the window included
abbrev pub in_view : Filter → Key × Stamp → Bool
in_view f e = takes_kind f.kind e.0.kind && nat_le f.lo e.1.recent && nat_le e.1.recent f.hi

-- the edges of the view that leave v, and those that enter it: a loop does both
abbrev pub leaves : Filter → ℕ → Key × Stamp → Bool
leaves f v e = in_view f e && (e.0.source == v)

abbrev pub enters : Filter → ℕ → Key × Stamp → Bool
enters f v e = in_view f e && (e.0.target == v)

-- how many leave v, how many enter it, and the sum of the weights of those that leave it
abbrev pub out_degree : Filter → Graph → ℕ → ℕ
out_degree f g v = count_by (leaves f v) (entries g.edges)

abbrev pub in_degree : Filter → Graph → ℕ → ℕ
in_degree f g v = count_by (enters f v) (entries g.edges)

abbrev pub out_weight : Filter → Graph → ℕ → ℤ
out_weight f g v = fold ◌+ℤ◌ (pos 0) (map (λ e. e.1.weight) (filter (leaves f v) (entries g.edges)))
