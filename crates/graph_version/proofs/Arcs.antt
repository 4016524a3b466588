-- Edges along arcs lead where the arcs do.
use Rattle.std.proofs.Common.{◌≡◌, ℕ, zero, suc, ◌<◌, arith, refl, sym, ap, ◌∙◌, subst, List, [], ◌∷◌, ◌++◌, length, map}
use Rattle.std.proofs.{Common.{append-nil, Some, true}, lemmas.Bool.{and_parts, eqb-true, Decides.nat_tests}}
use Rattle.std.{proofs.lemmas.{Bool.Decides.Decides-eqb, List.length-replicate}, specs.Prelude.{filter, nat_lt, ◌&&◌, ◌==◌, ◌↔◌}}
use Rattle.std.{specs.{List.Contains, FinMap.find}, proofs.lemmas.Grind.common_steps}
use Rattle.graph_types.specs.Graph.{Key, key_cmp, key_of, stamp_of, entry_of}
use Rattle.graph_types.{specs.Analyses.LeadsTo, proofs.Arcs.contains_map, proofs.Arcs.map_contains, proofs.Counts.contains_filter}
use Rattle.graph_types.proofs.{Counts.filter_contains, Keys.get_is, Keys.find_listed, Keys.is_key_of, Keys.is_key_of_at}
use Rattle.graph_types.proofs.PickedStamps.{picked_either}
use Rattle.graph_version.specs.Listed.{edge_along, is_within, leaves_source, along, all_edges, put_targets}

present : (key : Key) (arcs : List (ℕ × ℕ)) (x : ℕ × ℕ) → Contains arcs x → key ≡ key_of (edge_along x)
    → find key_cmp key (map entry_of (map edge_along arcs)) ≡ Some (stamp_of (edge_along (0, 0)))
present key [] x c same = let l = c.1 in absurd (omega arith)
present key (y ∷ ys) x (zero, l, e) same = grind (arith, common_steps, is_key_of_at)
present key (y ∷ ys) x (suc k, l, e) same =
    picked_either (is_key_of key (edge_along y)) _ _ (present key ys x (k, omega arith, e) same)

module _ (count : ℕ) (arcs : List (ℕ × ℕ)) where
  pub arc_along : (a b : ℕ) → LeadsTo all_edges (along count arcs) a b → Contains (filter (is_within count) arcs) (a, b)
  arc_along a b l = grind (arith, common_steps, find_listed, get_is, map_contains)

  pub along_arc : (a b : ℕ) → Contains (filter (is_within count) arcs) (a, b) → LeadsTo all_edges (along count arcs) a b
  along_arc a b c =
      let ws = filter (is_within count) arcs in
      let key : Key = record { kind = 0; source = a; target = b } in
      (0, stamp_of (edge_along (0, 0)), get_is key (map edge_along ws) ∙ present key ws (a, b) c refl, refl)

  pub ends_within : (a b : ℕ) → LeadsTo all_edges (along count arcs) a b
      → (a < length (along count arcs).names) × (b < length (along count arcs).names)
  ends_within a b l =
      let passed = (filter_contains (is_within count) arcs (a, b) (arc_along a b l)).1 in
      let both = and_parts (nat_lt a count) (nat_lt b count) passed in
      let long : length (along count arcs).names ≡ count = length-replicate {A = List ℕ} count [] in
      let first : a < count = grind (arith, nat_tests) in
      let second : b < count = grind (arith, nat_tests) in
      (omega (arith, long, first), omega (arith, long, second))

  pub listed : (source b : ℕ) → Contains (map (λ (arc : ℕ × ℕ). arc.1) (filter (leaves_source count source) arcs)) b ↔ LeadsTo all_edges
      (along count arcs) source b
  listed source b = (
    (λ c.
        let r = map_contains (λ (arc : ℕ × ℕ). arc.1) (filter (leaves_source count source) arcs) b c in
        let kept = filter_contains (leaves_source count source) arcs r.0 r.1 in
        let parts = and_parts (r.0.0 == source) (is_within count r.0) kept.1 in
        let first = eqb-true r.0.0 source parts.0 in
        let same : ◌≡◌ {A = ℕ × ℕ} r.0 (source, b) = λ i. (first i, r.2 i) in
        along_arc source b (subst (Contains (filter (is_within count) arcs)) same
        (contains_filter (is_within count) arcs r.0 parts.1 kept.0))),
    (λ l.
        let kept = filter_contains (is_within count) arcs (source, b) (arc_along source b l) in
        let passes : leaves_source count source (source, b) ≡ true =
        ap (λ t. t && is_within count (source, b)) ((Decides-eqb source source).1 refl) ∙ kept.1 in
        contains_map (λ (arc : ℕ × ℕ). arc.1) (filter (leaves_source count source) arcs) (source, b)
        (contains_filter (leaves_source count source) arcs (source, b) passes kept.0)),
  )

pub put_is : (count source : ℕ) (arcs : List (ℕ × ℕ)) (targets : List ℕ)
    → put_targets count source arcs targets ≡ targets ++ map (λ (arc : ℕ × ℕ). arc.1) (filter (leaves_source count source) arcs)
put_is count source [] targets = sym (append-nil targets)
put_is count source (arc ∷ arcs) targets =
    grind (arith, common_steps, put_is count source arcs (targets ++ arc.1 ∷ []), put_is count source arcs targets)
