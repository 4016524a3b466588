-- The degrees that a content shows are those that its list of edges shows.
use Rattle.std.proofs.Common.{◌≡◌, ℕ, ◌+◌, ◌&&◌, ◌+ℤ◌, Bool, cond, eqb, pos, arith}
use Rattle.std.proofs.lemmas.Grind.{common_steps}
use Rattle.graph_types.specs.{Graph.{graph_of, IsContent}, Answer.degree_at}
use Rattle.graph_types.specs.{Degrees.listed_degree, declared.{contents.Content.Content, ids.{Degree.Degree, Edge.Edge}}}
use Rattle.graph_types.{specs.declared.ids.Filter.Filter, proofs.Folds.{count_entries, weight_entries}}

-- what an edge makes of the degrees of v, where b says whether the filter lets it through
abbrev pub with_shown : Bool → Edge → ℕ → Degree → Degree
with_shown b e v d = record {
  outgoing = d.outgoing + cond (b && eqb e.source.0 v) 1 0;
  incoming = d.incoming + cond (b && eqb e.target.0 v) 1 0;
  out_weight = d.out_weight +ℤ cond (b && eqb e.source.0 v) e.weight (pos 0);
}

-- the degrees over the list are those over the graph
pub listed_at : (f : Filter) (c : Content) (v : ℕ) → IsContent c → listed_degree f c.edges v ≡ degree_at f (graph_of c) v
listed_at f c v is = grind (arith, common_steps, count_entries, weight_entries)
