-- The edges of rows are in range, and a row has at most one of each kind to each vertex.
use Rattle.std.proofs.Common.{◌≡◌, ℕ, zero, suc, ◌*◌, ◌<◌, ◌≤◌, Bool, true, cond, ◌&&◌, eqb, List, [], ◌∷◌, ◌++◌, map, length}
use Rattle.std.proofs.Common.{get_or, All, count_by, refl, sym, ap, ap₂, ◌∙◌, subst, arith}
use Rattle.std.proofs.lemmas.{Bool.{and_parts, eqb-true, eq-eqb}, Grind.{common_steps, flat_map-append}}
use Rattle.std.proofs.lemmas.List.{length-map, map-append, Sums.{sum_by-cons, sum_by-le-sum_by}}
use Rattle.std.proofs.lemmas.List.Elements.{All-nil, All-head, All-tail, All-append, All-map}
use Rattle.std.specs.{Option.is_some, FinMap.get}
use Rattle.graph_types.specs.{Graph.{Key, Stamp, key_of, stamp_of}, Limits.IsWeightIn, declared.ids.Edge.Edge}
use Rattle.graph_types.proofs.{DegreeBounds.{one_where, crowd_of_edges}, Elements.{all_left, all_right}, Sums.count_by-append}
use Rattle.graph_types.proofs.{Keys.{HasKeysOnce, is_key_of, is_key_of_at, count_key, get_listed}, WeightsKept.weights_of}
use Rattle.edge_block.specs.{Slots.{BlockView, IsBlock, IsStamp, edges_in, entry_in, entries_of}, Lending.{LentEdge, lent_of}}
use Rattle.edge_block.proofs.Ranges.{edges_in_range}
use Rattle.graph_version.specs.Rows.{row_of, blocks_of}
use Rattle.graph_version.specs.{Versions.{VersionView, content, IsVersion, IsBlockOf}, Lending.lent_in_blocks}
use Rattle.graph_version.specs.Edges.{edge_from, edges_in_block, edges_in_blocks}
use Rattle.graph_version.proofs.Shown.{rows_each_once}

-- Edges by value, as they are lent

lent_from : Edge → LentEdge
lent_from e = record { kind = e.kind.0; target = e.target.0; stamp = stamp_of e }

lent_entries : (es : List (Key × Stamp)) → map lent_of es ≡ map lent_from (map edge_from es)
unfolding lent_from
lent_entries [] = refl
lent_entries (e ∷ es) = ap (λ l. lent_of e ∷ l) (lent_entries es)

lent_blocks : (blocks : List BlockView) → lent_in_blocks blocks ≡ map lent_from (edges_in_blocks blocks)
lent_blocks [] = refl
lent_blocks (b ∷ blocks) =
    ap₂ (λ (xs ys : List LentEdge). xs ++ ys) (lent_entries (entries_of b)) (lent_blocks blocks)
    ∙ sym (map-append lent_from (edges_in_block b) (edges_in_blocks blocks))

-- Weights and times

-- those of each edge in blocks
pub edges_stamped : (blocks : List BlockView) → All IsBlock blocks → All (λ e. IsStamp (stamp_of e)) (edges_in_blocks blocks)
edges_stamped [] all = All-nil (λ (e : Edge). IsStamp (stamp_of e))
edges_stamped (b ∷ blocks) all =
    let P : Edge → Type 0 = λ e. IsStamp (stamp_of e) in
    let slots = edges_in_range b.slots (All-head IsBlock b blocks all).stamped in
    All-append P (edges_in_block b) (edges_in_blocks blocks)
    (All-map P edge_from (entries_of b) (All-map (λ (e : Key × Stamp). P (edge_from e)) (entry_in b) (edges_in b.slots) slots))
    (edges_stamped blocks (All-tail IsBlock b blocks all))

pub lent_stamped : (blocks : List BlockView) → All IsBlock blocks → All (λ e. IsStamp e.stamp) (lent_in_blocks blocks)
unfolding lent_from
lent_stamped blocks all =
    let P : LentEdge → Type 0 = λ e. IsStamp e.stamp in
    subst (All P) (sym (lent_blocks blocks)) (All-map P lent_from (edges_in_blocks blocks) (edges_stamped blocks all))

-- what is true of the edges of all rows is true of those of each
in_row : (P : Edge → Type 0) (rows : List (List BlockView)) (source : ℕ) → All P (edges_in_blocks (blocks_of rows))
    → All P (edges_in_blocks (row_of rows source))
in_row P [] source all = All-nil P
in_row P (row ∷ rows) zero all =
    all_left P (edges_in_blocks row) (edges_in_blocks (blocks_of rows))
    (subst (All P) (flat_map-append edges_in_block row (blocks_of rows)) all)
in_row P (row ∷ rows) (suc source) all =
    in_row P rows source (all_right P (edges_in_blocks row) (edges_in_blocks (blocks_of rows))
    (subst (All P) (flat_map-append edges_in_block row (blocks_of rows)) all))

module _ (v : VersionView) (is : IsVersion v) where
  abbrev IsLight : Edge → Type 0
  IsLight e = IsWeightIn (content v).limits.weight e.weight

  pub edges_light : All IsLight (edges_in_blocks (blocks_of v.rows))
  edges_light =
      let each = rows_each_once (content v) v.rows is.rows in
      weights_of (content v) (edges_in_blocks (blocks_of v.rows)) each.once each.same is.small.weights

  pub row_light : (source : ℕ) → All IsLight (edges_in_blocks (row_of v.rows source))
  row_light source = in_row IsLight v.rows source edges_light

  pub lent_light : (source : ℕ) → All (λ e. IsWeightIn (content v).limits.weight e.stamp.weight)
      (lent_in_blocks (row_of v.rows source))
  unfolding lent_from
  lent_light source =
      let P : LentEdge → Type 0 = λ e. IsWeightIn (content v).limits.weight e.stamp.weight in
      let es : List Edge = edges_in_blocks (row_of v.rows source) in
      subst (All P) (sym (lent_blocks (row_of v.rows source))) (All-map P lent_from es (row_light source))

-- How many edges a row has

leaves : ℕ → Edge → Bool
leaves source e = eqb e.source.0 source

count_all : (p : Edge → Bool) (es : List Edge) → All (λ e. p e ≡ true) es → count_by p es ≡ length es
count_all p [] all = refl
count_all p (e ∷ es) all =
    let P : Edge → Type 0 = λ e. p e ≡ true in
    let one = ap (λ b. let n : ℕ = cond b 1 0 in n) (All-head P e es all) in
    omega (arith, sum_by-cons (λ (x : Edge). cond (p x) 1 0) e es, one, count_all p es (All-tail P e es all))

-- the edges of a source's blocks leave it
row_leaves : (source : ℕ) (row : List BlockView) → All (IsBlockOf source) row
    → All (λ e. leaves source e ≡ true) (edges_in_blocks row)
unfolding leaves
row_leaves source [] all = All-nil (λ (e : Edge). leaves source e ≡ true)
row_leaves source (b ∷ row) all =
    let P : Edge → Type 0 = λ e. leaves source e ≡ true in
    let here = eq-eqb b.source source (All-head (IsBlockOf source) b row all).source_is in
    All-append P (edges_in_block b) (edges_in_blocks row)
    (All-map P edge_from (entries_of b) (All-map (λ (e : Key × Stamp). P (edge_from e)) (entry_in b) (edges_in b.slots)
    (λ k d lt. here)))
    (row_leaves source row (All-tail (IsBlockOf source) b row all))

count_in_row : (p : Edge → Bool) (rows : List (List BlockView)) (source : ℕ)
    → count_by p (edges_in_blocks (row_of rows source)) ≤ count_by p (edges_in_blocks (blocks_of rows))
count_in_row p [] source = omega arith
count_in_row p (row ∷ rows) zero =
    let parts = ap (count_by p) (flat_map-append edges_in_block row (blocks_of rows)) in
    omega (arith, parts, count_by-append p (edges_in_blocks row) (edges_in_blocks (blocks_of rows)))
count_in_row p (row ∷ rows) (suc source) =
    let parts = ap (count_by p) (flat_map-append edges_in_block row (blocks_of rows)) in
    omega (arith, parts, count_by-append p (edges_in_blocks row) (edges_in_blocks (blocks_of rows)), count_in_row p rows source)

has_key : (k s t : ℕ) (e : Edge) → ((leaves s e && eqb e.kind.0 k) && eqb e.target.0 t) ≡ true
    → is_key_of (record { kind = k; source = s; target = t }) e ≡ true
unfolding leaves
has_key k s t e passes = grind (arith, common_steps, and_parts, is_key_of_at, eqb-true)

at_key : (es : List Edge) → HasKeysOnce es → (k s t : ℕ)
    → count_by (λ e. (leaves s e && eqb e.kind.0 k) && eqb e.target.0 t) es ≤ 1
at_key es once k s t =
    let key : Key = record { kind = k; source = s; target = t } in
    let fewer = sum_by-le-sum_by (λ (e : Edge). cond ((leaves s e && eqb e.kind.0 k) && eqb e.target.0 t) 1 0)
    (λ e. cond (is_key_of key e) 1 0) es (λ e. one_where _ _ (has_key k s t e)) in
    omega (arith, fewer, count_key key es once)

pub few_edges_in_row : (v : VersionView) (source : ℕ) → IsVersion v
    → length (edges_in_blocks (row_of v.rows source)) ≤ length (content v).names * length (content v).kinds
few_edges_in_row v source is =
    let es : List Edge = edges_in_blocks (blocks_of v.rows) in
    let each = rows_each_once (content v) v.rows is.rows in
    let there : (j : ℕ) (d : Edge) → j < length es → is_some (get (content v).edges (key_of (get_or es j d))) ≡ true = λ j d lt.
    ap (λ m. is_some (get m (key_of (get_or es j d)))) (sym each.same) ∙ ap is_some (get_listed es each.once j d lt) in
    let leaving = crowd_of_edges (leaves source) (λ e. e.target.0) (length (content v).names) (length (content v).kinds) es
    (λ k t. at_key es each.once k source t)
    (λ j d lt. (is.within (key_of (get_or es j d)) (there j d lt)).0)
    (λ j d lt. (is.within (key_of (get_or es j d)) (there j d lt)).2) in
    let own = count_all (leaves source) (edges_in_blocks (row_of v.rows source))
    (row_leaves source (row_of v.rows source) (is.rows.blocks source)) in
    omega (arith, leaving, own, count_in_row (leaves source) v.rows source)

pub few_lent : (v : VersionView) (source : ℕ) → IsVersion v
    → length (lent_in_blocks (row_of v.rows source)) ≤ length (content v).names * length (content v).kinds
few_lent v source is =
    let row = row_of v.rows source in
    let same = ap length (lent_blocks row) ∙ length-map (edges_in_blocks row) lent_from in
    omega (arith, same, few_edges_in_row v source is)
