-- Links as lists of neighbors, and the rounds that lower numbers by want of support.
use Rattle.std.proofs.Common.{◌≡◌, ◌≢◌, ℕ, suc, ◌<◌, ◌≤◌, arith, refl, sym, ap, ◌∙◌, subst, ◌⊎◌, inl, inr, List, []}
use Rattle.std.proofs.Common.{◌∷◌, length, get_or, map, cond, true, false, Bool, ◌&&◌, not}
use Rattle.std.proofs.lemmas.{Option.slice_get-get_or, List.FromFn.length-range_with_len, List.FromFn.get_or-range_with_len}
use Rattle.std.proofs.lemmas.Bool.{cases_Bool, eqb-true, Decides.Decides-eqb}
use Rattle.std.proofs.lemmas.List.{get_or_default, Sorted.Contains-permutation, Sorted.IsPermutation-sym}
use Rattle.std.proofs.lemmas.List.Elements.{All-contains, Contains-get_or}
use Rattle.std.proofs.lemmas.List.Kept.{AllPairs-cons, IsStrictlySortedBy-dedup, Contains-dedup, Contains-from_dedup}
use Rattle.std.specs.{Prelude.{All, AllPairs, ◌==◌, nat_le, count_by, filter, replicate, IsPermutation, IsTrue}, List.Contains}
use Rattle.std.specs.List.{range_with_len, dedup, Sorted.IsSorted}
use Rattle.graph_types.specs.Limits.{most_names}
use Rattle.graph_types.specs.{Graph.{Graph, graph_of, IsContent}, Analyses.{Joins, IsCoreNumber, IsTable}, Arcs.{Arc, arcs_of}}
use Rattle.graph_types.specs.{Arcs.{two_way, AreWithin, at, AreNeighbors, support, AreUpper}, declared.contents.Content.Content}
use Rattle.graph_types.{specs.declared.ids.Filter.Filter, proofs.Counts.{apart_tail, apart_head, count_yes, count_no, sub_length}}
use Rattle.graph_types.proofs.{Counts.{contains_filter, filter_contains}, Arcs.{contains_map, map_contains, arc_joins, joins_arc}}
use Rattle.graph_types.proofs.{Arcs.two_way_within, Cores.{upper_first, upper_more, settled_cores}}
use Rattle.graph_types.proofs.ArcTables.{all_zero}
use Rattle.graph_types.proofs.PairOrder.{is_proper, same_place, pair_cmp, pairs_equiv, pair_same, sorted_apart, pairs_total}
use Rattle.graph_types.proofs.PairOrder.{pair_ties}
use Rattle.graph_model.specs.Links.{AreLinks, ends, supports}

-- what links lead to from v are its ends, and back
ends_link : (links : List (ℕ × ℕ)) (v w : ℕ) → Contains (ends links v) w → Contains links (v, w)
ends_link links v w c =
    let r = map_contains (λ (link : ℕ × ℕ). link.1) (filter (λ link. link.0 == v) links) w c in
    let kept = filter_contains (λ (link : ℕ × ℕ). link.0 == v) links r.0 r.1 in
    let first = eqb-true r.0.0 v kept.1 in
    let same : ◌≡◌ {A = ℕ × ℕ} r.0 (v, w) = λ i. (first i, r.2 i) in
    subst (Contains links) same kept.0

link_ends : (links : List (ℕ × ℕ)) (v w : ℕ) → Contains links (v, w) → Contains (ends links v) w
link_ends links v w c = contains_map (λ (link : ℕ × ℕ). link.1) (filter (λ link. link.0 == v) links) (v, w)
    (contains_filter (λ (link : ℕ × ℕ). link.0 == v) links (v, w) ((Decides-eqb v v).1 refl) c)

ends_apart : (links : List (ℕ × ℕ)) (v : ℕ) → AllPairs (λ a b. a ≢ b) links → AllPairs (λ a b. a ≢ b) (ends links v)
ends_apart [] v h = λ i j d lt l. absurd (omega arith)
ends_apart (e ∷ links) v h =
    let rest = ends_apart links v (apart_tail e links h) in
    elim (e.0 == v) as (λ b. (e.0 == v) ≡ b → AllPairs (λ a b. a ≢ b)
    (map (λ (link : ℕ × ℕ). link.1) (cond b (e ∷ filter (λ link. link.0 == v) links) (filter (λ link. link.0 == v) links)))) [
      | true ↦ λ t. AllPairs-cons (λ a b. a ≢ b) e.1 (ends links v) (λ k d l same.
          let first = eqb-true e.0 v t in
          let w = get_or (ends links v) k d in
          let there = ends_link links v w (k, l, get_or_default (ends links v) k w d l) in
          let here : ◌≡◌ {A = ℕ × ℕ} e (v, w) = λ i. (first i, same i) in
          apart_head e links (v, w) h there here) rest
      | false ↦ λ t. rest
    ] refl

count_ends : (numbers : List ℕ) (v : ℕ) (links : List (ℕ × ℕ))
    → count_by (supports numbers v) links ≡ support (ends links) numbers v
count_ends numbers v [] = refl
count_ends numbers v (e ∷ links) =
    let rest = count_ends numbers v links in
    let test : ℕ → Bool = λ w. nat_le (at numbers v) (at numbers w) in
    elim (e.0 == v) as (λ b. (e.0 == v) ≡ b → count_by (supports numbers v) (e ∷ links)
    ≡ count_by test (map (λ (link : ℕ × ℕ). link.1)
    (cond b (e ∷ filter (λ link. link.0 == v) links) (filter (λ link. link.0 == v) links)))) [
      | true ↦ λ t.
          let first = eqb-true e.0 v t in
          let same : supports numbers v e ≡ test e.1 =
          ap (λ b. b && nat_le (at numbers e.0) (at numbers e.1)) t ∙ ap (λ x. nat_le (at numbers x) (at numbers e.1)) first in
          elim (cases_Bool (test e.1)) [
            | inl on ↦ let a = count_yes (supports numbers v) e links (same ∙ on) in let b =
                count_yes test e.1 (ends links v) on in omega arith
            | inr off ↦ let a = count_no (supports numbers v) e links (same ∙ off) in let b =
                count_no test e.1 (ends links v) off in omega arith
          ]
      | false ↦ λ t. count_no (supports numbers v) e links (ap (λ b. b && nat_le (at numbers e.0) (at numbers e.1)) t) ∙ rest
    ] refl

module _ (f : Filter) (g : Graph) (n : ℕ) (links : List (ℕ × ℕ)) (are : AreLinks f g links) (within : (v w : ℕ) → Joins f g v w
    → w < n) where
  are_neighbors : AreNeighbors f g (ends links)
  are_neighbors = record {
    apart = λ v. ends_apart links v are.apart;
    exact = λ v w. ((λ c. (are.exact v w).0 (ends_link links v w c)), (λ j. link_ends links v w ((are.exact v w).1 j)));
  }

  -- the numbers of neighbors, as counts where all numbers are 0
  pub first_upper : (zeros numbers : List ℕ) → zeros ≡ replicate n 0
      → ((v : ℕ) → at numbers v ≡ count_by (supports zeros v) links) → AreUpper f g n numbers
  first_upper zeros numbers blank counted = upper_first f g n (ends links) are_neighbors within numbers (λ v lt.
      counted v ∙ count_ends zeros v links ∙ all_zero n zeros blank v (ends links v))

  -- a round keeps that no core number is greater
  pub more_upper : (old enough new : List ℕ) → AreUpper f g n old → ((v : ℕ) → at enough v ≡ count_by (supports old v) links)
      → ((v : ℕ) → (at new v ≡ at old v) ⊎ ((suc (at new v) ≡ at old v) × (at enough v < at old v))) → AreUpper f g n new
  more_upper old enough new upper counted each =
      upper_more f g n (ends links) are_neighbors within old new upper (λ v lt. elim (each v) [
        | inl same ↦ inl same
        | inr less ↦ inr (less.0, (let e = counted v ∙ count_ends old v links in let h = less.1 in omega arith))
      ])

  -- and where each has enough support they are the core numbers
  pub cores_done : (numbers enough : List ℕ) → length numbers ≡ n → AreUpper f g n numbers
      → ((v : ℕ) → at enough v ≡ count_by (supports numbers v) links) → ((v : ℕ) → at numbers v ≤ at enough v)
      → IsTable n (IsCoreNumber f g) numbers
  cores_done numbers enough long upper counted supported =
      settled_cores f g n (ends links) are_neighbors within numbers long upper (λ v lt.
      let e = counted v ∙ count_ends numbers v links in let h = supported v in omega arith)

  -- a core number is at most the number of vertices
  pub cores_few : (numbers : List ℕ) → n ≤ most_names → IsTable n (IsCoreNumber f g) numbers → All (λ number. number ≤ most_names) numbers
  cores_few numbers few table k d h =
      let core = (table.each k (get_or numbers k d) (slice_get-get_or numbers k d h)).0 in
      let has = core.2 k core.1 in
      let many = has.1 in
      let long = length-range_with_len 0 n in
      let short = sub_length has.0 (range_with_len 0 n) has.2 (λ w c.
      let r = All-contains (λ (x : ℕ). (x ≢ k) × IsTrue (core.0 x) × Joins f g k x) has.0 w has.3 c in
      let lt = within k w r.2 in
      (w, omega arith, (let x = get_or-range_with_len 0 n w w lt in omega arith))) in
      omega arith

module _ (f : Filter) (c : Content) (is : IsContent c) (both kept sorted links : List (ℕ × ℕ))
    (arcs : both ≡ two_way (arcs_of f c.edges)) (proper : kept ≡ filter is_proper both)
    (moved : IsPermutation kept sorted) (order : IsSorted pair_cmp sorted) (once : links ≡ dedup same_place sorted) where
  from_links : (v w : ℕ) → Contains links (v, w) → Arc (two_way (arcs_of f c.edges)) v w × (is_proper (v, w) ≡ true)
  from_links v w l =
      let s = Contains-from_dedup same_place sorted (v, w) (rw once at l) in
      let k = Contains-permutation sorted kept (v, w) (IsPermutation-sym kept sorted moved) s in
      let r = filter_contains is_proper both (v, w) (rw proper at k) in (rw arcs at r.0, r.1)

  to_links : (v w : ℕ) → Arc (two_way (arcs_of f c.edges)) v w → is_proper (v, w) ≡ true → Contains links (v, w)
  to_links v w a p =
      let k = contains_filter is_proper both (v, w) p (rw arcs a) in
      let s = Contains-permutation kept sorted (v, w) moved (rw proper k) in
      rw once (Contains-dedup pairs_equiv pair_same sorted (v, w) s)

  links_made : AreLinks f (graph_of c) links
  links_made = record {
    apart = rw once
        (sorted_apart (dedup same_place sorted) (IsStrictlySortedBy-dedup pairs_total pair_ties sorted order));
    exact = λ v w. (
      (λ l.
          let r = from_links v w l in
          (λ e. let t = (Decides-eqb v w).1 (sym e) in let u = sym r.1 ∙ ap not t in cc, arc_joins f c is v w r.0)),
      (λ j.
          let apart : is_proper (v, w) ≡ true =
          elim (cases_Bool (v == w)) [ inl t ↦ absurd (j.0 (sym ((Decides-eqb v w).0 t))) | inr t ↦ ap not t ] in
          to_links v w (joins_arc f c is v w j.1) apart),
    );
  }

  links_within : AreWithin (length c.names) links
  links_within k d h =
      let link = get_or links k d in
      let r = from_links link.0 link.1 (Contains-get_or links k d h) in
      All-contains (λ (e : ℕ × ℕ). (e.0 < length c.names) × (e.1 < length c.names)) (two_way (arcs_of f c.edges)) link
      (two_way_within f c is) r.0

  pub links_done : AreLinks f (graph_of c) links × AreWithin (length c.names) links
  links_done = (links_made, links_within)
