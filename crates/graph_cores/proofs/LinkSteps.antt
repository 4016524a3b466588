-- Links from one source, and from all sources so far.
use Rattle.std.proofs.Common.{◌≡◌, ◌≢◌, ℕ, ◌+◌, ◌<◌, ◌≤◌, arith, sym, ap, ◌∙◌, subst, ◌⊎◌, inl, inr, List, [], ◌∷◌, ◌++◌, length}
use Rattle.std.proofs.{Common.get_or, Common.take, lemmas.Bool.cases_eq, lemmas.List.take_more}
use Rattle.std.proofs.lemmas.List.Elements.{Contains-push, Contains-push_cases, Contains-append_left, Contains-get_or}
use Rattle.std.{specs.{Prelude.◌↔◌, List.Contains}, proofs.lemmas.Grind.{flat_map-append, common_steps}}
use Rattle.graph_types.specs.{Graph.Graph, Analyses.LeadsTo, Arcs.AreWithin, declared.ids.Filter.Filter}
use Rattle.graph_types.proofs.Elements.{added}
use Rattle.graph_cores.specs.Peel.{both_ways, AreAllLinks, IsLinked}

-- a link more, both ways
pub both_push : (xs : List (ℕ × ℕ)) (a b : ℕ) → both_ways (xs ++ (a, b) ∷ []) ≡ (both_ways xs ++ (a, b) ∷ []) ++ (b, a) ∷ []
both_push xs a b = grind (arith, common_steps, flat_map-append)

-- one more target
more : (s : ℕ) (ts : List ℕ) (i t : ℕ) → take (i + 1) ts ≡ take i ts ++ t ∷ [] → (v w : ℕ)
    → IsLinked s (take (i + 1) ts) v w ↔ (IsLinked s (take i ts) v w ⊎ ((w ≢ v) × (((v ≡ s) × (w ≡ t)) ⊎ ((w ≡ s) × (v ≡ t)))))
more s ts i t e v w =
    let cut : (x : ℕ) → Contains (take (i + 1) ts) x → Contains (take i ts) x ⊎ (t ≡ x) =
    λ x c. Contains-push_cases (take i ts) t x (subst (λ xs. Contains xs x) e c) in
    let keep : (x : ℕ) → Contains (take i ts) x → Contains (take (i + 1) ts) x =
    λ x c. subst (λ xs. Contains xs x) (sym e) (Contains-append_left (take i ts) (t ∷ []) x c) in
    let last : (x : ℕ) → x ≡ t → Contains (take (i + 1) ts) x =
    λ x same. subst (λ xs. Contains xs x) (sym e) (subst (Contains (take i ts ++ t ∷ [])) (sym same)
    (Contains-push (take i ts) t)) in (
      (λ l. elim l.1 [
        | inl a ↦ elim (cut w a.1) [ inl c ↦ inl (l.0, inl (a.0, c)) | inr same ↦ inr (l.0, inl (a.0, sym same)) ]
        | inr b ↦ elim (cut v b.1) [ inl c ↦ inl (l.0, inr (b.0, c)) | inr same ↦ inr (l.0, inr (b.0, sym same)) ]
      ]),
      (λ l. elim l [
        | inl a ↦ (a.0, elim a.1 [ inl x ↦ inl (x.0, keep w x.1) | inr y ↦ inr (y.0, keep v y.1) ])
        | inr b ↦ (b.0, elim b.1 [ inl x ↦ inl (x.0, last w x.1) | inr y ↦ inr (y.0, last v y.1) ])
      ]),
    )

-- what a pass over the first targets has made of a list of links
abbrev pub LinkedSoFar : List (ℕ × ℕ) → ℕ → List ℕ → List (ℕ × ℕ) → Type 0
LinkedSoFar start s ts links = (v w : ℕ) → Contains links (v, w) ↔ (Contains start (v, w) ⊎ IsLinked s ts v w)

module _ (start before : List (ℕ × ℕ)) (s : ℕ) (ts : List ℕ) (i : ℕ) (lt : i < length ts)
    (so_far : LinkedSoFar start s (take i ts) before) where
  -- a target that is another vertex
  pub linked : (t : ℕ) → t ≡ get_or ts i 0 → (t ≡ s → ⊥)
      → LinkedSoFar start s (take (i + 1) ts) ((before ++ (s, t) ∷ []) ++ (t, s) ∷ [])
  linked t is ne v w =
      let one = added before s t v w in
      let two = added (before ++ (s, t) ∷ []) t s v w in
      let m = more s ts i t (take_more ts i 0 lt ∙ ap (λ x. take i ts ++ x ∷ []) (sym is)) v w in
      let old = so_far v w in (
        (λ h. elim (two.0 h) [
          | inl x ↦ elim (one.0 x) [
            | inl y ↦ elim (old.0 y) [ inl z ↦ inl z | inr z ↦ inr (m.1 (inl z)) ]
            | inr y ↦ inr (m.1 (inr ((λ e. ne (sym y.1 ∙ e ∙ y.0)), inl y)))
          ]
          | inr x ↦ inr (m.1 (inr ((λ e. ne (sym x.0 ∙ sym e ∙ x.1)), inr (x.1, x.0))))
        ]),
        (λ h. elim h [
          | inl z ↦ two.1 (inl (one.1 (inl (old.1 (inl z)))))
          | inr z ↦ elim (m.0 z) [
            | inl y ↦ two.1 (inl (one.1 (inl (old.1 (inr y)))))
            | inr y ↦ elim y.1 [
              | inl p ↦ two.1 (inl (one.1 (inr p)))
              | inr p ↦ two.1 (inr (p.1, p.0))
            ]
          ]
        ]),
      )

  -- a loop
  pub not_linked : (t : ℕ) → t ≡ get_or ts i 0 → t ≡ s → LinkedSoFar start s (take (i + 1) ts) before
  not_linked t is loop v w =
      let m = more s ts i t (take_more ts i 0 lt ∙ ap (λ x. take i ts ++ x ∷ []) (sym is)) v w in
      let old = so_far v w in (
        (λ h. elim (old.0 h) [ inl z ↦ inl z | inr z ↦ inr (m.1 (inl z)) ]),
        (λ h. elim h [
          | inl z ↦ old.1 (inl z)
          | inr z ↦ elim (m.0 z) [
            | inl y ↦ old.1 (inr y)
            | inr y ↦ elim y.1 [
              | inl p ↦ absurd (y.0 (p.1 ∙ loop ∙ sym p.0))
              | inr p ↦ absurd (y.0 (p.0 ∙ sym loop ∙ sym p.1))
            ]
          ]
        ]),
      )

module _ (f : Filter) (g : Graph) where
  -- the links by edges out of the vertices below i
  abbrev pub LinksBelow : ℕ → List (ℕ × ℕ) → Type 0
  LinksBelow i links = (v w : ℕ) → Contains links (v, w) ↔ ((w ≢ v) × (((v < i) × LeadsTo f g v w) ⊎ ((w < i) × LeadsTo f g w v)))

  pub links_more : (i : ℕ) (old new : List (ℕ × ℕ)) (ts : List ℕ) → LinksBelow i old
      → ((b : ℕ) → Contains ts b ↔ LeadsTo f g i b) → LinkedSoFar old i ts new → LinksBelow (i + 1) new
  links_more i old new ts below told linked v w = (
    (λ c. elim ((linked v w).0 c) [
      | inl o ↦
          let r = (below v w).0 o in
          (r.0, elim r.1 [ inl x ↦ inl ((let lt = x.0 in omega arith), x.1) | inr x ↦ inr ((let lt = x.0 in omega arith), x.1) ])
      | inr l ↦ (
        l.0,
        elim l.1 [
          | inl x ↦ inl ((let e = x.0 in omega arith), subst (λ y. LeadsTo f g y w) (sym x.0) ((told w).0 x.1))
          | inr x ↦ inr ((let e = x.0 in omega arith), subst (λ y. LeadsTo f g y v) (sym x.0) ((told v).0 x.1))
        ],
      )
    ]),
    (λ h. (linked v w).1 (elim h.1 [
      | inl x ↦ elim (cases_eq v i) [
        | inl e ↦ inr (h.0, inl (e, (told w).1 (subst (λ y. LeadsTo f g y w) e x.1)))
        | inr ne ↦ inl ((below v w).1 (h.0, inl ((let lt = x.0 in omega arith), x.1)))
      ]
      | inr x ↦ elim (cases_eq w i) [
        | inl e ↦ inr (h.0, inr (e, (told v).1 (subst (λ y. LeadsTo f g y v) e x.1)))
        | inr ne ↦ inl ((below v w).1 (h.0, inr ((let lt = x.0 in omega arith), x.1)))
      ]
    ])),
  )

  module _ (n : ℕ) (links : List (ℕ × ℕ)) (within : (a b : ℕ) → LeadsTo f g a b → (a < n) × (b < n)) where
    pub links_all : (i : ℕ) → n ≤ i → LinksBelow i links → AreAllLinks f g links
    links_all i le below v w = (
      (λ c.
          let r = (below v w).0 c in
          (r.0, elim r.1 [ inl x ↦ inl x.1 | inr x ↦ inr x.1 ])),
      (λ h. (below v w).1 (
        h.0,
        elim h.1 [
          | inl x ↦ inl ((let lt = (within v w x).0 in omega arith), x)
          | inr x ↦ inr ((let lt = (within w v x).0 in omega arith), x)
        ],
      )),
    )

    pub links_within : AreAllLinks f g links → AreWithin n links
    links_within are k d lt =
        let link = get_or links k d in
        let joined = ((are link.0 link.1).0 (Contains-get_or links k d lt)).1 in
        elim joined [
          | inl x ↦ within link.0 link.1 x
          | inr x ↦ (let r = within link.1 link.0 x in (r.1, r.0))
        ]
