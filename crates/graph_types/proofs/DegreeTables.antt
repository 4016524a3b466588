-- A table of degrees, one edge after another, and what it is at the end.
use Rattle.std.proofs.Common.{◌≡◌, ℕ, ◌+◌, ◌*◌, ◌<◌, ◌≤◌, Bool, true, false, cond, ◌&&◌, List, [], ◌∷◌, ◌++◌, map, length, get_or}
use Rattle.std.proofs.Common.{take, replicate, ℤ, pos, ◌+ℤ◌, nat_abs, refl, sym, ap, ◌∙◌, arith}
use Rattle.std.proofs.lemmas.{Grind.common_steps, Int.ints, List.{length-take, get_or-take, take_all, map-append}}
use Rattle.std.proofs.lemmas.List.{Elements.{All-take, filter-append}, FromFn.{fill_by_all, length-map-range_with_len}}
use Rattle.std.proofs.lemmas.List.Sums.{fold-append, length-filter}
use Rattle.std.specs.Prelude.{fold, filter, All, count_by}
use Rattle.graph_types.specs.{Answer.{degree_table, degree_at}, Degrees.{listed_degree, IsTally, CountsEdge, HasDegreeRoom}}
use Rattle.graph_types.specs.Graph.{entry_of, IsContent, key_of, IsEdgeWithin, graph_of, Graph}
use Rattle.graph_types.specs.{Limits.{SumsFit, IsWeightIn}, View.in_view, declared.{contents.Content.Content, ids.Degree.Degree}}
use Rattle.graph_types.specs.declared.ids.{Edge.Edge, Filter.Filter}
use Rattle.graph_types.proofs.{DegreeBounds.degree_within, Keys.HasKeysOnce, LimitsKept.{most_fits, places_few}}
use Rattle.graph_types.proofs.ListedDegrees.{with_shown, listed_at}

weights_push : (p : Edge → Bool) (es : List Edge) (e : Edge)
    → fold ◌+ℤ◌ (pos 0) (map (λ x. x.weight) (filter p (es ++ e ∷ [])))
    ≡ fold ◌+ℤ◌ (pos 0) (map (λ x. x.weight) (filter p es)) +ℤ cond (p e) e.weight (pos 0)
weights_push p es e = grind (arith, common_steps)

listed_push : (f : Filter) (es : List Edge) (e : Edge) (v : ℕ)
    → listed_degree f (es ++ e ∷ []) v ≡ with_shown (in_view f (entry_of e)) e v (listed_degree f es v)
listed_push f es e v = grind (arith, common_steps)

-- no edge yet
pub tally_none : (f : Filter) (n m : ℕ) (table : List Degree) → m ≡ n
    → table ≡ replicate m (record { outgoing = 0; incoming = 0; out_weight = pos 0 }) → IsTally f [] n table
tally_none f n m table same is = grind (arith, common_steps)

-- one edge more, which the filter lets through
pub tally_shown : (f : Filter) (edges : List Edge) (i n : ℕ) (x : Edge) (old new : List Degree) → IsTally f (take i edges) n old
    → i < length edges → in_view f (entry_of (get_or edges i x)) ≡ true → CountsEdge (get_or edges i x) old new
    → IsTally f (take (i + 1) edges) n new
tally_shown f edges i n x old new tally within shown counts = grind (arith, common_steps)

-- one edge more, which the filter keeps back
pub tally_hidden : (f : Filter) (edges : List Edge) (i n : ℕ) (x : Edge) (table : List Degree) → IsTally f (take i edges) n table
    → i < length edges → in_view f (entry_of (get_or edges i x)) ≡ false → IsTally f (take (i + 1) edges) n table
tally_hidden f edges i n x table tally within hidden = grind (arith, common_steps)

-- the table after the first edges of a content has room for one more
pub tally_within : (f : Filter) (c : Content) → IsContent c → (edges : List Edge) (k : ℕ) (e : Edge) (table : List Degree)
    → edges ≡ c.edges → k < length edges → IsTally f (take k edges) (length c.names) table → (v : ℕ) (d : Degree)
    → v < length table → HasDegreeRoom (nat_abs (get_or edges k e).weight) (get_or table v d)
tally_within f c is edges k e table listed low tally v d h =
    let n = length c.names in
    let m = length c.kinds in
    let fit : All (λ (x : Edge). SumsFit (n * m) (nat_abs x.weight)) edges = rw listed is.sums_fit in
    let (most, weights, sums) = most_fits (n * m) edges fit in
    let all_once : HasKeysOnce edges = rw listed is.keys_distinct in
    let once : HasKeysOnce (take k edges) = λ i j x low high.
    let short = length-take k edges in
    let first = get_or-take k edges i x (omega arith) in
    let second = get_or-take k edges j x (omega arith) in
    λ same. all_once i j x low (omega arith) (ap key_of (sym first) ∙ same ∙ ap key_of second)
    in
    let within = All-take (IsEdgeWithin (length c.names) (length c.kinds)) k edges
    (rw listed is.edges_within) in
    rw (tally.at v d (omega (arith, tally.size)))
    (degree_within f (take k edges) n m v most (nat_abs (get_or edges k e).weight)
    (places_few n m is.names_few is.kinds_few) sums (weights k e low) once (λ j x g. (within j x g).kind)
    (λ j x g. (within j x g).source) (λ j x g. (within j x g).target)
    (All-take (λ (x : Edge). IsWeightIn most x.weight) k edges weights))

-- the table after all edges
pub tally_all : (f : Filter) (c : Content) → IsContent c → (edges : List Edge) (i : ℕ) (table : List Degree) → edges ≡ c.edges
    → length edges ≤ i → IsTally f (take i edges) (length c.names) table → table ≡ degree_table f (graph_of c)
tally_all f c is edges i table listed whole tally =
    let all : take i edges ≡ c.edges = take_all i edges whole ∙ listed in
    let d = degree_at f (graph_of c) 0 in
    fill_by_all (degree_at f (graph_of c)) table (length c.names) d tally.size
    (λ v h. tally.at v d h ∙ ap (λ (es : List Edge). listed_degree f es v) all ∙ listed_at f c v is)

-- the sum of the weights of listed edges
abbrev weight_sum : List Edge → ℤ
weight_sum es = fold ◌+ℤ◌ (pos 0) (map (λ e. e.weight) es)

pub weight_sum_push : (p : Edge → Bool) (es : List Edge) (e : Edge)
    → weight_sum (filter p (es ++ e ∷ [])) ≡ weight_sum (filter p es) +ℤ cond (p e) e.weight (pos 0)
weight_sum_push p es e = grind (arith, common_steps, filter-append, map-append, fold-append, ints)

pub filter_twice : (p q : Edge → Bool) (es : List Edge) → filter (λ e. p e && q e) (filter p es) ≡ filter (λ e. p e && q e) es
filter_twice p q [] = refl
filter_twice p q (e ∷ es) = grind (arith, common_steps, filter_twice p q es)

pub counted_twice : (p q : Edge → Bool) (es : List Edge)
    → count_by (λ e. p e && q e) (filter p es) ≡ count_by (λ e. p e && q e) es
counted_twice p q es =
    sym (length-filter (λ (e : Edge). p e && q e) (filter p es)) ∙ ap length (filter_twice p q es)
    ∙ length-filter (λ (e : Edge). p e && q e) es

-- one degree for each vertex
pub degrees_long : (f : Filter) (g : Graph) → length (degree_table f g) ≡ length g.names
degrees_long f g = length-map-range_with_len (degree_at f g) 0 (length g.names)
