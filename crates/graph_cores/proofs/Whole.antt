-- The edges of all rows: those of the view of the content, each once, and the degrees over them.
use Rattle.std.proofs.Common.{◌≡◌, ◌≢◌, ℕ, zero, suc, ◌+◌, ◌<◌, ◌≤◌, true, eqb, ◌-◌, List, ◌++◌}
use Rattle.std.proofs.Common.{length, get_or, map, pos, ◌+ℤ◌, append_assoc, append-nil, sym, ap, ◌∙◌, subst, arith}
use Rattle.std.proofs.lemmas.Grind.{flat_map-append, common_steps}
use Rattle.std.proofs.lemmas.List.Elements.{filter-append, filter_passes, All-filter}
use Rattle.std.proofs.lemmas.List.{FromFn.fill_by_all, Kept.AllPairs-filter}
use Rattle.std.specs.{Prelude.{filter, fold}, Option.is_some, FinMap.get}
use Rattle.graph_types.specs.{Graph.key_of, Degrees.listed_degree, Answer.{degree_at, degree_table}}
use Rattle.graph_types.{specs.declared.ids.{Degree.Degree, Edge.Edge, Filter.Filter}, proofs.Keys.get_listed}
use Rattle.graph_types.{specs.Limits.IsWeightIn, proofs.{LimitsKept.{places_few, sums_within}, WeightsKept.weights_of}}
use Rattle.graph_types.proofs.DegreeTables.{counted_twice, filter_twice}
use Rattle.edge_block.specs.Slots.{BlockView}
use Rattle.graph_version.specs.{Rows.{row_of, blocks_of}, Versions.{VersionView, content, IsVersion}}
use Rattle.graph_version.{specs.Edges.edges_in_blocks, proofs.Shown.rows_each_once}
use Rattle.graph_version.proofs.NumbersIn.{content_degree}
use Rattle.graph_version.proofs.RowBlocks.{blocks_below, below_more, all_below}
use Rattle.graph_cores.{specs.Tallies.{passes, shown_edges, IsCounted, AreViewEdges}, proofs.Parts.first_edges}

-- Degrees over the edges shown are those over the content

shown_degree : (f : Filter) (es : List Edge) (v : ℕ) → listed_degree f (filter (passes f) es) v ≡ listed_degree f es v
shown_degree f es v =
    let outgoing = counted_twice (passes f) (λ e. eqb e.source.0 v) es in
    let incoming = counted_twice (passes f) (λ e. eqb e.target.0 v) es in
    let weights = ap (λ (xs : List Edge). fold ◌+ℤ◌ (pos 0) (map (λ (e : Edge). e.weight) xs))
    (filter_twice (passes f) (λ e. eqb e.source.0 v) es) in
    λ i. record { outgoing = outgoing i; incoming = incoming i; out_weight = weights i }

-- Rows by source

pub shown_append : (f : Filter) (xs ys : List BlockView) → shown_edges f (xs ++ ys) ≡ shown_edges f xs ++ shown_edges f ys
shown_append f xs ys = grind (arith, common_steps, flat_map-append, filter-append)

-- the edges of one source more
pub shown_more : (f : Filter) (rows : List (List BlockView)) (n : ℕ)
    → shown_edges f (blocks_below rows (n + 1)) ≡ shown_edges f (blocks_below rows n) ++ shown_edges f (row_of rows n)
shown_more f rows n = ap (shown_edges f) (below_more rows n) ∙ shown_append f (blocks_below rows n) (row_of rows n)

-- those of the first sources are those of all to some source, but for the last of them
first_below : (f : Filter) (rows : List (List BlockView)) (k j : ℕ)
    → (rest : List Edge) × (shown_edges f (blocks_below rows (k + j)) ≡ shown_edges f (blocks_below rows k) ++ rest)
first_below f rows k zero = grind (arith, common_steps, append-nil)
first_below f rows k (suc j) =
    let r = first_below f rows k j in
    let more : k + suc j ≡ (k + j) + 1 = omega arith in (
      r.0 ++ shown_edges f (row_of rows (k + j)),
      ap (λ n. shown_edges f (blocks_below rows n)) more ∙ shown_more f rows (k + j)
          ∙ ap (λ es. es ++ shown_edges f (row_of rows (k + j))) r.1
          ∙ append_assoc (shown_edges f (blocks_below rows k)) r.0 (shown_edges f (row_of rows (k + j))),
    )

module _ (v : VersionView) (is : IsVersion v) where
  all_within : (f : Filter) → AreViewEdges f (length (content v).names) (shown_edges f (blocks_of v.rows))
  all_within f =
      let es : List Edge = edges_in_blocks (blocks_of v.rows) in
      let each = rows_each_once (content v) v.rows is.rows in
      let there : (j : ℕ) (d : Edge) → j < length es → is_some (get (content v).edges (key_of (get_or es j d))) ≡ true = λ j d lt.
      ap (λ m. is_some (get m (key_of (get_or es j d)))) (sym each.same) ∙ ap is_some (get_listed es each.once j d lt) in
      record {
        kind_count = length (content v).kinds;
        few = places_few (length (content v).names) (length (content v).kinds) (omega (arith, is.small.names, is.small.limits.names))
            (omega (arith, is.small.kinds, is.small.limits.kinds));
        most_weight = (content v).limits.weight;
        weights = All-filter (passes f) (λ e. IsWeightIn (content v).limits.weight e.weight) es
            (weights_of (content v) es each.once each.same is.small.weights);
        sums = sums_within (content v).limits (length (content v).names) (length (content v).kinds) is.small.limits is.small.names
            is.small.kinds;
        once = AllPairs-filter (λ a b. key_of a ≢ key_of b) (passes f) es each.once;
        kinds = All-filter (passes f) (λ e. e.kind.0 < length (content v).kinds) es
            (λ j d lt. (is.within (key_of (get_or es j d)) (there j d lt)).0);
        sources = All-filter (passes f) (λ e. e.source.0 < length (content v).names) es
            (λ j d lt. (is.within (key_of (get_or es j d)) (there j d lt)).1);
        targets = All-filter (passes f) (λ e. e.target.0 < length (content v).names) es
            (λ j d lt. (is.within (key_of (get_or es j d)) (there j d lt)).2);
        seen = filter_passes (passes f) es;
      }

  -- the edges of the first sources are edges of the view
  pub below_within : (f : Filter) (k : ℕ) → k ≤ length (content v).names
      → AreViewEdges f (length (content v).names) (shown_edges f (blocks_below v.rows k))
  below_within f k le =
      let n = length (content v).names in
      let r = first_below f v.rows k (n - k) in
      let top : k + (n - k) ≡ n = omega arith in
      let whole : shown_edges f (blocks_of v.rows) ≡ shown_edges f (blocks_below v.rows k) ++ r.0 =
      ap (shown_edges f) (sym (all_below v is)) ∙ ap (λ m. shown_edges f (blocks_below v.rows m)) (sym top) ∙ r.1 in
      first_edges f n (shown_edges f (blocks_below v.rows k)) r.0 (subst (AreViewEdges f n) whole (all_within f))

  -- a table of the degrees over all rows is the table of degrees
  pub table_is : (f : Filter) (k : ℕ) (table : List Degree) → length table ≡ length (content v).names
      → k ≡ length (content v).names → IsCounted f (shown_edges f (blocks_below v.rows k)) table
      → table ≡ degree_table f (content v)
  table_is f k table long end counted =
      let n = length (content v).names in
      let each = rows_each_once (content v) v.rows is.rows in
      let edges : shown_edges f (blocks_below v.rows k) ≡ shown_edges f (blocks_of v.rows) =
      ap (λ m. shown_edges f (blocks_below v.rows m)) end ∙ ap (shown_edges f) (all_below v is) in
      let d = degree_at f (content v) 0 in
      fill_by_all (degree_at f (content v)) table n d long
      (λ w h. counted.tally.at w d (omega arith) ∙ ap (λ (es : List Edge). listed_degree f es w) edges
      ∙ shown_degree f (edges_in_blocks (blocks_of v.rows)) w
      ∙ content_degree f (content v) (edges_in_blocks (blocks_of v.rows)) w each)
