-- The arcs of a view are its edges.
use Rattle.std.proofs.Common.{◌≡◌, ℕ, zero, suc, ◌<◌, arith, refl, sym, ap, ◌∙◌, subst, inl, inr, List, [], ◌∷◌, length, map}
use Rattle.std.proofs.{Common.{Some, true, Bool}, lemmas.List.{get_or-map, length-map, Elements.{All-contains, All-append}}}
use Rattle.std.proofs.lemmas.List.Elements.{All-map, All-filter, Contains-append_left, Contains-append_right}
use Rattle.std.{proofs.lemmas.List.Elements.Contains-append_cases, specs.{Prelude.{filter, IsTrue}, List.Contains, FinMap.get}}
use Rattle.graph_types.specs.{Graph.{Key, Stamp, graph_of, map_of, key_of, stamp_of, IsContent}, View.in_view, Analyses.LeadsTo}
use Rattle.graph_types.specs.{Analyses.Joins, Arcs.{Arc, AreWithin, arcs_of, two_way}, declared.contents.Content.Content}
use Rattle.graph_types.specs.declared.ids.{Edge.Edge, Filter.Filter}
use Rattle.graph_types.proofs.{Keys.get_is, Keys.get_listed, Keys.find_listed, Counts.contains_filter, Counts.filter_contains}

module _ {X Y : Type 0} (h : X → Y) where
  pub contains_map : (xs : List X) (x : X) → Contains xs x → Contains (map h xs) (h x)
  contains_map xs x c = (c.0, (let e = length-map xs h in let l = c.1 in omega arith), get_or-map h xs c.0 x (h x) c.1 ∙ ap h c.2)

  pub map_contains : (xs : List X) (y : Y) → Contains (map h xs) y → (x : X) × Contains xs x × (h x ≡ y)
  map_contains [] y c = let l = c.1 in absurd (omega arith)
  map_contains (x ∷ xs) y (zero, l, e) = (x, (0, omega arith, refl), e)
  map_contains (x ∷ xs) y (suc k, l, e) =
      let r = map_contains xs y (k, omega arith, e) in
      (r.0, (suc r.1.0, (let m = r.1.1 in omega arith), r.1.2), r.2)

module _ (f : Filter) (c : Content) (is : IsContent c) where
  pub arc_leads : (a b : ℕ) → Arc (arcs_of f c.edges) a b → LeadsTo f (graph_of c) a b
  arc_leads a b arc =
      let passes : Edge → Bool = λ e. in_view f (key_of e, stamp_of e) in
      let r = map_contains (λ (e : Edge). (e.source.0, e.target.0)) (filter passes c.edges) (a, b) arc in
      let e = r.0 in
      let kept = filter_contains passes c.edges e r.1 in
      let found = All-contains (λ (x : Edge). get (map_of c.edges) (key_of x) ≡ Some (stamp_of x)) c.edges e
      (get_listed c.edges is.keys_distinct) kept.0 in
      let key : ◌≡◌ {A = Key} (key_of e) (record { kind = e.kind.0; source = a; target = b }) =
      λ i. record { kind = e.kind.0; source = (r.2 i).0; target = (r.2 i).1 } in (
        e.kind.0,
        stamp_of e,
        subst (λ k. get (map_of c.edges) k ≡ Some (stamp_of e)) key found,
        subst (λ k. IsTrue (in_view f (k, stamp_of e))) key kept.1,
      )

  pub leads_arc : (a b : ℕ) → LeadsTo f (graph_of c) a b → Arc (arcs_of f c.edges) a b
  leads_arc a b l =
      let passes : Edge → Bool = λ e. in_view f (key_of e, stamp_of e) in
      let key : Key = record { kind = l.0; source = a; target = b } in
      let r = find_listed key c.edges l.1 (sym (get_is key c.edges) ∙ l.2) in
      let e = r.0 in
      let here = r.1.1 in
      let shown : passes e ≡ true = ap (λ (k : Key). in_view f (k, stamp_of e)) (sym here)
      ∙ ap (λ (s : Stamp). in_view f (key, s)) r.1.2 ∙ l.3 in
      let ends : ◌≡◌ {A = ℕ × ℕ} (e.source.0, e.target.0) (a, b) = λ i. ((sym here i).source, (sym here i).target) in
      subst (Contains (arcs_of f c.edges)) ends
      (contains_map (λ (x : Edge). (x.source.0, x.target.0)) (filter passes c.edges) e
      (contains_filter passes c.edges e shown r.1.0))

  pub arcs_within : AreWithin (length c.names) (arcs_of f c.edges)
  arcs_within =
      let P : ℕ × ℕ → Type 0 = λ arc. (arc.0 < length c.names) × (arc.1 < length c.names) in
      All-map P (λ (e : Edge). (e.source.0, e.target.0)) (filter (λ e. in_view f (key_of e, stamp_of e)) c.edges)
      (All-filter (λ e. in_view f (key_of e, stamp_of e)) (λ e. P (e.source.0, e.target.0)) c.edges
      (λ k d h. let w = is.edges_within k d h in (w.source, w.target)))

  pub arc_joins : (a b : ℕ) → Arc (two_way (arcs_of f c.edges)) a b → Joins f (graph_of c) a b
  arc_joins a b arc = elim (Contains-append_cases (arcs_of f c.edges) (map (λ e. (e.1, e.0)) (arcs_of f c.edges)) (a, b) arc) [
    | inl one ↦ inl (arc_leads a b one)
    | inr other ↦
        let r = map_contains (λ (e : ℕ × ℕ). (e.1, e.0)) (arcs_of f c.edges) (a, b) other in
        let turned : ◌≡◌ {A = ℕ × ℕ} r.0 (b, a) = λ i. ((r.2 i).1, (r.2 i).0) in
        inr (arc_leads b a (subst (Contains (arcs_of f c.edges)) turned r.1))
  ]

  pub joins_arc : (a b : ℕ) → Joins f (graph_of c) a b → Arc (two_way (arcs_of f c.edges)) a b
  joins_arc a b j = elim j [
    | inl one ↦ Contains-append_left (arcs_of f c.edges) (map (λ e. (e.1, e.0)) (arcs_of f c.edges)) (a, b) (leads_arc a b one)
    | inr other ↦ Contains-append_right (arcs_of f c.edges) (map (λ e. (e.1, e.0)) (arcs_of f c.edges)) (a, b)
        (contains_map (λ (e : ℕ × ℕ). (e.1, e.0)) (arcs_of f c.edges) (b, a) (leads_arc b a other))
  ]

  pub two_way_within : AreWithin (length c.names) (two_way (arcs_of f c.edges))
  two_way_within =
      let P : ℕ × ℕ → Type 0 = λ arc. (arc.0 < length c.names) × (arc.1 < length c.names) in
      All-append P (arcs_of f c.edges) (map (λ e. (e.1, e.0)) (arcs_of f c.edges)) arcs_within
      (All-map P (λ (e : ℕ × ℕ). (e.1, e.0)) (arcs_of f c.edges) (λ k d h. let w = arcs_within k d h in (w.1, w.0)))
