-- The sources of the edges that lead to a vertex.
use Rattle.std.proofs.Common.{◌≡◌, ◌==◌, ℕ, List, [], ◌∷◌, ◌++◌, Some, true, sym, ap, ◌∙◌, subst, inl, inr, arith, Bool}
use Rattle.std.proofs.lemmas.{Bool.{eq-eqb, Decides.nat_tests}, List.Elements.{All-contains, Contains-append_left, Contains-append_right, Contains-append_cases}}
use Rattle.std.specs.{Prelude.{IsTrue, ◌↔◌, ◌⊎◌, filter}, List.Contains, FinMap.get}
use Rattle.graph_types.specs.{Graph.{Graph, Key, Stamp, entry_of, key_of, stamp_of, map_of}, View.in_view, Analyses.{Joins, LeadsTo}}
use Rattle.graph_types.{specs.declared.ids.{Edge.Edge, Filter.Filter}, proofs.Arcs.{contains_map, map_contains}}
use Rattle.graph_types.proofs.{Counts.{contains_filter, filter_contains}, Keys.{get_is, get_listed, find_listed}}
use Rattle.graph_version.specs.{Edges.AreEachOnce, InEdges.{edges_into, leads_into}}
use Rattle.graph_walks.specs.ByTarget.{sources_shown}

-- whether a filter lets an edge through
abbrev is_shown : Filter → Edge → Bool
is_shown f e = in_view f (entry_of e)

same_number : (a b : ℕ) → (a == b) ≡ true → a ≡ b
same_number a b is = grind (arith, nat_tests)

module _ (g : Graph) (f : Filter) (all : List Edge) (once : AreEachOnce all g) where
  source_leads : (target b : ℕ) → Contains (sources_shown f (edges_into target all)) b → LeadsTo f g b target
  source_leads target b c =
      let found = map_contains (λ (e : Edge). e.source.0) (filter (is_shown f) (edges_into target all)) b c in
      let e = found.0 in
      let kept = filter_contains (is_shown f) (edges_into target all) e found.1 in
      let there = filter_contains (leads_into target) all e kept.0 in
      let to : e.target.0 ≡ target = same_number e.target.0 target there.1 in
      let key : ◌≡◌ {A = Key} (key_of e) (record { kind = e.kind.0; source = b; target = target }) =
      λ i. record { kind = e.kind.0; source = found.2 i; target = to i } in
      let stands : get g.edges (key_of e) ≡ Some (stamp_of e) =
      ap (λ m. get m (key_of e)) (sym once.same)
      ∙ All-contains (λ (x : Edge). get (map_of all) (key_of x) ≡ Some (stamp_of x)) all e (get_listed all once.once) there.0 in (
        e.kind.0,
        stamp_of e,
        subst (λ k. get g.edges k ≡ Some (stamp_of e)) key stands,
        subst (λ k. IsTrue (in_view f (k, stamp_of e))) key kept.1,
      )

  leads_source : (target b : ℕ) → LeadsTo f g b target → Contains (sources_shown f (edges_into target all)) b
  leads_source target b l =
      let key : Key = record { kind = l.0; source = b; target = target } in
      let r = find_listed key all l.1 (sym (get_is key all) ∙ ap (λ m. get m key) once.same ∙ l.2) in
      let e = r.0 in
      let to : e.target.0 ≡ target = ap (λ (k : Key). k.target) (sym r.1.1) in
      let there : Contains (edges_into target all) e = contains_filter (leads_into target) all e (eq-eqb e.target.0 target to) r.1.0 in
      let through : is_shown f e ≡ true = ap (in_view f) (λ i. (sym r.1.1 i, r.1.2 i)) ∙ l.3 in
      subst (Contains (sources_shown f (edges_into target all))) (ap (λ (k : Key). k.source) (sym r.1.1))
      (contains_map (λ (x : Edge). x.source.0) (filter (is_shown f) (edges_into target all)) e
      (contains_filter (is_shown f) (edges_into target all) e through there))

  -- these sources are those from which the view leads to the target
  pub sources_lead : (target b : ℕ) → Contains (sources_shown f (edges_into target all)) b ↔ LeadsTo f g b target
  sources_lead target b = (source_leads target b, leads_source target b)

  -- with the targets of its own edges they are what an edge joins to a vertex
  pub both_join : (v : ℕ) (targets : List ℕ) → ((b : ℕ) → Contains targets b ↔ LeadsTo f g v b)
      → (b : ℕ) → Contains (targets ++ sources_shown f (edges_into v all)) b ↔ Joins f g v b
  both_join v targets lead b = (
    λ c. elim (Contains-append_cases targets (sources_shown f (edges_into v all)) b c) [
      | inl out ↦ inl ((lead b).0 out)
      | inr into ↦ inr (source_leads v b into)
    ],
    λ joins. elim joins [
      | inl out ↦ Contains-append_left targets (sources_shown f (edges_into v all)) b ((lead b).1 out)
      | inr into ↦ Contains-append_right targets (sources_shown f (edges_into v all)) b (leads_source v b into)
    ],
  )
