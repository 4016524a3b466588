-- Sums of weights by targets: what is added so far, and that there is room for each weight more.
use Rattle.std.proofs.Common.{◌≡◌, ℕ, ◌+◌, ◌<◌, ◌^◌, ◌==◌, true, false, cond, ◌&&◌, List, [], ◌∷◌, ◌++◌, map, filter, length}
use Rattle.std.proofs.Common.{get_or, set, replicate, ℤ, pos, ◌+ℤ◌, nat_abs, refl, sym, ap, ◌∙◌, subst, arith, rules, w64, inl, inr, append_assoc, append-nil}
use Rattle.std.proofs.lemmas.{Bool.{cases_eq, eq-eqb, ne_eqb}, Int.ints}
use Rattle.std.proofs.lemmas.List.{length-map, length-set, length-replicate, get_or-map, get_or-replicate, get_or-set_same, get_or-set_other}
use Rattle.std.proofs.lemmas.List.{Elements.{All-head, All-map, filter-append}, FromFn.fill_by_all}
use Rattle.std.specs.{Prelude.{fold, FitsSigned}, FinMap.entries}
use Rattle.graph_types.specs.{Graph.{Graph, Key, key_of, entry_of}, Limits.IsWeightIn, View.{in_view, enters, leaves}}
use Rattle.graph_types.specs.declared.ids.{Edge.Edge, Filter.Filter}
use Rattle.graph_types.proofs.{DegreeBounds.degree_within, DegreeTables.{filter_twice, weight_sum_push}, Folds.{weight_entries, weight_of}}
use Rattle.graph_types.proofs.{Elements.{all_left, all_right}, Keys.HasKeysOnce}
use Rattle.graph_version.specs.{Edges.AreEachOnce, Rows.blocks_of, Versions.{VersionView, IsVersion, content}}
use Rattle.graph_version.proofs.RowBlocks.{all_below}
use Rattle.graph_walks.specs.ByTarget.{edges_of_version}
use Rattle.graph_cores.{specs.Tallies.{passes, shown_edges, AreViewEdges}, proofs.{Parts.first_edges, Whole.below_within}}
use Rattle.version_columns.specs.Tables.{in_weight, in_weights}

-- the sum of the weights of those listed edges of the view that enter v
abbrev pub listed_in_weight : Filter → List Edge → ℕ → ℤ
listed_in_weight f es v = fold ◌+ℤ◌ (pos 0) (map (λ e. e.weight) (filter (λ e. enters f v (entry_of e)) es))

-- Room: sums over edges that enter are sums over edges that leave, once each edge goes the other way

abbrev other_way : Edge → Edge
other_way e = record {
  kind = e.kind;
  source = e.target;
  target = e.source;
  weight = e.weight;
  first = e.first;
  recent = e.recent;
}

abbrev other_key : Key → Key
other_key k = record { kind = k.kind; source = k.target; target = k.source }

other_weights : (f : Filter) (v : ℕ) (es : List Edge)
    → map (λ e. e.weight) (filter (λ e. leaves f v (entry_of e)) (map other_way es))
    ≡ map (λ e. e.weight) (filter (λ e. enters f v (entry_of e)) es)
other_weights f v [] = refl
other_weights f v (e ∷ es) =
    elim (enters f v (entry_of e)) as (λ b. map (λ x. x.weight)
    (cond b (other_way e ∷ filter (λ x. leaves f v (entry_of x)) (map other_way es)) (filter (λ x. leaves f v (entry_of x)) (map other_way es)))
    ≡ map (λ x. x.weight) (cond b (e ∷ filter (λ x. enters f v (entry_of x)) es) (filter (λ x. enters f v (entry_of x)) es))) [
      | true ↦ ap (λ zs. e.weight ∷ zs) (other_weights f v es)
      | false ↦ other_weights f v es
    ]

other_once : (es : List Edge) → HasKeysOnce es → HasKeysOnce (map other_way es)
other_once es once = λ i j d low high same.
    let long : length (map other_way es) ≡ length es = length-map es other_way in
    let first = get_or-map other_way es i d d (omega arith) in
    let second = get_or-map other_way es j d d (omega arith) in
    once i j d low (omega arith) (ap other_key (ap key_of (sym first) ∙ same ∙ ap key_of second))

room_at : (f : Filter) (n : ℕ) (before : List Edge) (e : Edge) (rest : List Edge) (v : ℕ) → AreViewEdges f n (before ++ e ∷ rest)
    → (nat_abs (listed_in_weight f before v) + nat_abs e.weight < 2 ^ 63)
room_at f n before e rest v are =
    let firsts = first_edges f n before (e ∷ rest) are in
    let most = are.most_weight in
    let light : IsWeightIn most e.weight =
    All-head (λ (x : Edge). IsWeightIn most x.weight) e rest (all_right (λ (x : Edge). IsWeightIn most x.weight) before (e ∷ rest) are.weights) in
    let room = degree_within f (map other_way before) n are.kind_count v most (nat_abs e.weight) are.few are.sums light
    (other_once before firsts.once)
    (All-map (λ (x : Edge). x.kind.0 < are.kind_count) other_way before
    (all_left (λ (x : Edge). x.kind.0 < are.kind_count) before (e ∷ rest) are.kinds))
    (All-map (λ (x : Edge). x.source.0 < n) other_way before firsts.targets)
    (All-map (λ (x : Edge). x.target.0 < n) other_way before firsts.sources)
    (All-map (λ (x : Edge). IsWeightIn most x.weight) other_way before
    (all_left (λ (x : Edge). IsWeightIn most x.weight) before (e ∷ rest) are.weights)) in
    subst (λ (z : ℤ). nat_abs z + nat_abs e.weight < 2 ^ 63) (ap (fold ◌+ℤ◌ (pos 0)) (other_weights f v before)) room.out_weight

-- What is added so far

-- of all edges those left are still to be added, and each sum has those before them
pub record AreAdded (f : Filter) (all left : List Edge) (weights : List ℤ) : Type 0 where
  pub done : List Edge
  pub split : done ++ left ≡ all
  pub sums : (v : ℕ) (d : ℤ) → v < length weights → get_or weights v d ≡ listed_in_weight f done v

pub none_added : (f : Filter) (all left : List Edge) (n : ℕ) (weights : List ℤ) → left ≡ all → weights ≡ replicate n (pos 0)
    → AreAdded f all left weights
none_added f all left n weights same none = record {
  done = [];
  split = same;
  sums = λ v d h. (let long : length weights ≡ n = ap length none ∙ length-replicate n (pos 0) in
      ap (λ (ws : List ℤ). get_or ws v d) none ∙ get_or-replicate n v (pos 0) d (omega arith));
}

one_behind : (all left rest done : List Edge) (e : Edge) → left ≡ e ∷ rest → done ++ left ≡ all → (done ++ e ∷ []) ++ rest ≡ all
one_behind all left rest done e next split = append_assoc done (e ∷ []) rest ∙ ap (λ es. done ++ es) (sym next) ∙ split

-- an edge that the view keeps back changes no sum
pub none_more : (f : Filter) (all left rest : List Edge) (e : Edge) (weights : List ℤ) → left ≡ e ∷ rest
    → in_view f (entry_of e) ≡ false → AreAdded f all left weights → AreAdded f all rest weights
none_more f all left rest e weights next hidden so_far = record {
  done = so_far.done ++ e ∷ [];
  split = one_behind all left rest so_far.done e next so_far.split;
  sums = λ v d h.
      let sum = listed_in_weight f so_far.done v in
      let same : sum +ℤ pos 0 ≡ sum = omega (arith, ints) in
      so_far.sums v d h ∙ sym same ∙ ap (λ b. sum +ℤ cond (b && (e.target.0 == v)) e.weight (pos 0)) (sym hidden)
      ∙ sym (weight_sum_push (λ (x : Edge). enters f v (entry_of x)) so_far.done e);
}

-- one that it lets through is added to the sum of its target
pub one_more : (f : Filter) (all left rest : List Edge) (e : Edge) (weights new : List ℤ) → left ≡ e ∷ rest
    → in_view f (entry_of e) ≡ true → e.target.0 < length weights
    → new ≡ set weights e.target.0 (get_or weights e.target.0 (pos 0) +ℤ e.weight) → AreAdded f all left weights
    → AreAdded f all rest new
one_more f all left rest e weights new next shown there is so_far = record {
  done = so_far.done ++ e ∷ [];
  split = one_behind all left rest so_far.done e next so_far.split;
  sums = λ v d h.
      let t = e.target.0 in
      let x : ℤ = get_or weights t (pos 0) +ℤ e.weight in
      let long : length new ≡ length weights = ap length is ∙ length-set weights t x in
      let sum = listed_in_weight f so_far.done v in
      let pushed : listed_in_weight f (so_far.done ++ e ∷ []) v ≡ sum +ℤ cond (t == v) e.weight (pos 0) =
      weight_sum_push (λ (y : Edge). enters f v (entry_of y)) so_far.done e
      ∙ ap (λ b. sum +ℤ cond (b && (t == v)) e.weight (pos 0)) shown in
      elim (cases_eq v t) [
        | inl same ↦
            ap (λ (ws : List ℤ). get_or ws v d) is ∙ ap (λ k. get_or (set weights t x) k d) same ∙ get_or-set_same weights t x d there
            ∙ ap (λ z. z +ℤ e.weight) (so_far.sums t (pos 0) there ∙ ap (listed_in_weight f so_far.done) (sym same))
            ∙ ap (λ b. sum +ℤ cond b e.weight (pos 0)) (sym (eq-eqb t v (sym same))) ∙ sym pushed
        | inr other ↦
            let alone : sum +ℤ pos 0 ≡ sum = omega (arith, ints) in
            ap (λ (ws : List ℤ). get_or ws v d) is ∙ get_or-set_other weights t v x d other ∙ so_far.sums v d (omega arith) ∙ sym alone
            ∙ ap (λ b. sum +ℤ cond b e.weight (pos 0)) (sym (ne_eqb t v (λ s. other (sym s)))) ∙ sym pushed
      ];
}

small_fits : (z : ℤ) → nat_abs z < 2 ^ 63 → FitsSigned w64 z
small_fits z h = search rules

shown_before : (f : Filter) (es : List Edge) (v : ℕ) → listed_in_weight f (filter (passes f) es) v ≡ listed_in_weight f es v
shown_before f es v =
    ap (λ (xs : List Edge). fold ◌+ℤ◌ (pos 0) (map (λ (x : Edge). x.weight) xs)) (filter_twice (passes f) (λ (e : Edge). e.target.0 == v) es)

-- where an edge that it lets through is next, its target is a vertex, its weight has a word, and there is room for it
pub record HasRoom (n : ℕ) (e : Edge) (weights : List ℤ) : Type 0 where
  pub there : e.target.0 < n
  pub word : FitsSigned w64 e.weight
  pub room : nat_abs (get_or weights e.target.0 (pos 0)) + nat_abs e.weight < 2 ^ 63

module _ (v : VersionView) (is : IsVersion v) (f : Filter) where
  pub has_room : (left rest : List Edge) (e : Edge) (weights : List ℤ) → left ≡ e ∷ rest → in_view f (entry_of e) ≡ true
      → length weights ≡ length (content v).names → AreAdded f (edges_of_version v) left weights
      → HasRoom (length (content v).names) e weights
  has_room left rest e weights next shown long so_far =
      let n = length (content v).names in
      let done = so_far.done in
      let whole : filter (passes f) (edges_of_version v) ≡ filter (passes f) done ++ e ∷ filter (passes f) rest =
      ap (filter (passes f)) (sym so_far.split ∙ ap (λ es. done ++ es) next) ∙ filter-append (passes f) done (e ∷ rest)
      ∙ ap (λ b. filter (passes f) done ++ cond b (e ∷ filter (passes f) rest) (filter (passes f) rest)) shown in
      let all : AreViewEdges f n (shown_edges f (blocks_of v.rows)) =
      subst (AreViewEdges f n) (ap (shown_edges f) (all_below v is)) (below_within v is f n (omega arith)) in
      let are : AreViewEdges f n (filter (passes f) done ++ e ∷ filter (passes f) rest) = subst (AreViewEdges f n) whole all in
      let there : e.target.0 < n = All-head (λ (x : Edge). x.target.0 < n) e (filter (passes f) rest)
      (all_right (λ (x : Edge). x.target.0 < n) (filter (passes f) done) (e ∷ filter (passes f) rest) are.targets) in
      let sum : listed_in_weight f (filter (passes f) done) e.target.0 ≡ get_or weights e.target.0 (pos 0) =
      shown_before f done e.target.0 ∙ sym (so_far.sums e.target.0 (pos 0) (omega arith)) in
      let room : nat_abs (get_or weights e.target.0 (pos 0)) + nat_abs e.weight < 2 ^ 63 =
      subst (λ (z : ℤ). nat_abs z + nat_abs e.weight < 2 ^ 63) sum
      (room_at f n (filter (passes f) done) e (filter (passes f) rest) e.target.0 are) in
      record { there = there; word = small_fits e.weight (omega arith); room = room }

-- all are added
pub all_added : (f : Filter) (g : Graph) (all left : List Edge) (weights : List ℤ) → AreEachOnce all g
    → length weights ≡ length g.names → left ≡ [] → AreAdded f all left weights → weights ≡ in_weights f g
all_added f g all left weights each long none so_far =
    let whole : so_far.done ≡ all = sym (append-nil so_far.done) ∙ ap (λ es. so_far.done ++ es) (sym none) ∙ so_far.split in
    fill_by_all (in_weight f g) weights (length g.names) (pos 0) long
    (λ v h. so_far.sums v (pos 0) (omega arith) ∙ ap (λ (es : List Edge). listed_in_weight f es v) whole
    ∙ sym (weight_entries (enters f v) all each.once)
    ∙ ap (λ m. weight_of (enters f v) (entries m)) each.same)
