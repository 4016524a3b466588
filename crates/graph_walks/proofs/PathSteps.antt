-- A walk back along levels.
use Rattle.std.proofs.Common.{◌≡◌, ◌≢◌, ℕ, ◌+◌, ◌<◌, ◌≤◌, zero, suc, arith, refl, sym, ap, ◌∙◌, subst, inl, inr, List, [], ◌∷◌, ◌++◌, min}
use Rattle.std.proofs.Common.{length, set, get_or, take, drop, drop-cons, add-one, replicate, Option, Some, None, cond}
use Rattle.std.proofs.lemmas.{Bool.{cases_eq, cases_lt}, Option.slice_get-get_or, List.{get_or-set_same, get_or-set_other, get_or_past}}
use Rattle.std.proofs.lemmas.List.{length-set, length-replicate, get_or-replicate, drop-set, Elements.{Contains-append_left, Contains-push, Contains-push_cases}}
use Rattle.std.specs.{Prelude.unwrap_or, List.Contains}
use Rattle.graph_types.specs.Analyses.{Walk}
use Rattle.graph_types.proofs.Counts.{Contains-cons_cases, Contains-first, Contains-nil}
use Rattle.graph_levels.specs.{Near.{AreLevelsSoFar, Comes, EndsSearch, IsAtMost, IsLevelSoFar}, Search.{HasLevel, level_of}}
use Rattle.graph_levels.proofs.{Frontiers.same_level}
use Rattle.graph_walks.specs.Paths.{IsLeastAt, IsPath, IsWalkBy}

module _ (levels : List (Option ℕ)) (level : ℕ) where
  -- a first vertex that has the level, and one more
  pub first_least : (vs : List ℕ) (v : ℕ) → IsLeastAt levels level vs None → HasLevel levels level v
      → IsLeastAt levels level (vs ++ v ∷ []) (Some v)
  first_least vs v none has = (
    Contains-push vs v,
    has,
    λ u at h. elim (Contains-push_cases vs v u at) [ inl old ↦ absurd (none u old h) | inr same ↦ omega arith ],
  )

  pub more_least : (vs : List ℕ) (v least : ℕ) → IsLeastAt levels level vs (Some least) → HasLevel levels level v
      → IsLeastAt levels level (vs ++ v ∷ []) (Some (min least v))
  more_least vs v least is has = elim (cases_lt v least) [
    | inl lt ↦
        let e : v ≡ min least v = omega arith in
        subst (λ m. IsLeastAt levels level (vs ++ v ∷ []) (Some m)) e (
          Contains-push vs v,
          has,
          λ u at h. elim (Contains-push_cases vs v u at) [
            | inl old ↦ let le = is.2 u old h in omega arith
            | inr same ↦ omega arith
          ],
        )
    | inr ge ↦
        let e : least ≡ min least v = omega arith in
        subst (λ m. IsLeastAt levels level (vs ++ v ∷ []) (Some m)) e (
          Contains-append_left vs (v ∷ []) least is.0,
          is.1,
          λ u at h. elim (Contains-push_cases vs v u at) [ inl old ↦ is.2 u old h | inr same ↦ omega arith ],
        )
  ]

  -- one that hasn't the level changes nothing
  pub same_least : (vs : List ℕ) (v : ℕ) (least : Option ℕ) → (HasLevel levels level v → ⊥) → IsLeastAt levels level vs least
      → IsLeastAt levels level (vs ++ v ∷ []) least
  same_least vs v None not is = λ u at h. elim (Contains-push_cases vs v u at) [
    | inl old ↦ is u old h
    | inr same ↦ not (subst (HasLevel levels level) (sym same) h)
  ]
  same_least vs v (Some least) not is = (
    Contains-append_left vs (v ∷ []) least is.0,
    is.1,
    λ u at h. elim (Contains-push_cases vs v u at) [
      | inl old ↦ is.2 u old h
      | inr same ↦ absurd (not (subst (HasLevel levels level) (sym same) h))
    ],
  )

  pub told_least : (vs : List ℕ) (least : Option ℕ) (other : ℕ) → IsLeastAt levels level vs least → (u : ℕ) → Contains vs u
      → HasLevel levels level u
      → Contains vs (unwrap_or least other) × HasLevel levels level (unwrap_or least other) × (unwrap_or least other ≤ u)
  told_least vs None other is u at h = absurd (is u at h)
  told_least vs (Some least) other is u at h = (is.0, is.1, is.2 u at h)

last_copy : (n x : ℕ) → drop n (replicate (suc n) x) ≡ x ∷ []
last_copy zero x = refl
last_copy (suc n) x = last_copy n x

module _ (Step : ℕ → ℕ → Type 0) (source target level : ℕ) (levels : List (Option ℕ)) where
  -- so far back
  pub record IsBack (path : List ℕ) (place at : ℕ) : Type 0 where
    pub here : HasLevel levels place at
    pub stands : (d : ℕ) → get_or path place d ≡ at
    pub long : length path ≡ suc level
    pub low : place ≤ level
    pub walk : IsWalkBy Step at target (drop place path)
    pub least : (i u d : ℕ) → place ≤ i → i + 1 < length path → Walk Step source u i → Step u (get_or path (i + 1) d) → get_or path i d ≤ u

module _ (Step : ℕ → ℕ → Type 0) (n source target : ℕ) (most : Option ℕ) (levels : List (Option ℕ))
    (are : AreLevelsSoFar n Step (source ∷ []) most levels) where
  level_within : (v k : ℕ) → HasLevel levels k v → v < length levels
  level_within v k h = elim (cases_lt v (length levels)) [
    | inl lt ↦ lt
    | inr past ↦ let both = sym (get_or_past levels v None past) ∙ h in absurd (cc)
  ]

  told : (v : ℕ) (o : Option ℕ) → v < length levels → level_of levels v ≡ o → IsLevelSoFar Step (source ∷ []) most v o
  told v o lt is = are.each v o (slice_get-get_or levels v None lt ∙ ap (λ x. Some x) is)

  alone : (v k : ℕ) → Comes Step (source ∷ []) v k → Walk Step source v k
  alone v k walk = elim (Contains-cons_cases source [] walk.0 walk.1) [
    | inl e ↦ subst (λ x. Walk Step x v k) (sym e) walk.2
    | inr none ↦ absurd (Contains-nil walk.0 none)
  ]

  from_source : (v k : ℕ) → Walk Step source v k → Comes Step (source ∷ []) v k
  from_source v k walk = (source, Contains-first source [] source refl, walk)

  -- without a level no walk leads there
  pub no_path : target < n → most ≡ None → level_of levels target ≡ None → (k : ℕ) → Walk Step source target k → ⊥
  no_path in' none is k walk =
      let long = are.one_each in
      told target None (omega arith) is k (from_source target k walk) (subst (λ m. IsAtMost m k) (sym none) tt)

  module _ (level : ℕ) (within : (a b : ℕ) → Step a b → (a < n) × (b < n)) (deep : (k : ℕ) → k < level → IsAtMost most k) where
    -- a vertex from which a step leads to one of a level, and to which a walk leads that is one shorter
    nearer : (u v p : ℕ) → p < level → HasLevel levels (suc p) v → Walk Step source u p → Step u v → HasLevel levels p u
    nearer u v p low h walk edge =
        let long = are.one_each in
        let lt : u < length levels = (let in' = (within u v edge).0 in omega arith) in
        let here : IsLevelSoFar Step (source ∷ []) most v (Some (suc p)) = told v (Some (suc p)) (level_within v (suc p) h) h in
        let cases : (o : Option ℕ) → level_of levels u ≡ o → HasLevel levels p u =
        λ o. elim o as (λ o. level_of levels u ≡ o → HasLevel levels p u) [
          | None ↦ λ is.
              absurd (told u None lt is p (from_source u p walk) (deep p low))
          | Some k ↦ λ is.
              let there : IsLevelSoFar Step (source ∷ []) most u (Some k) = told u (Some k) lt is in
              let le = there.1 p (from_source u p walk) in
              let ge = here.1 (suc k) (from_source v (suc k) (u, alone u k there.0, edge)) in
              let e : k ≡ p = omega arith in
              is ∙ ap (λ x. Some x) e
        ] in
        cases (level_of levels u) refl

    before : (v p : ℕ) → p < level → HasLevel levels (suc p) v → (u : ℕ) × HasLevel levels p u × Step u v
    before v p low h =
        let walk = alone v (suc p) (told v (Some (suc p)) (level_within v (suc p) h) h).0 in
        (walk.0, nearer walk.0 v p low h walk.1 walk.2, walk.2)

    pub begin_back : HasLevel levels level target → IsBack Step source target level levels (replicate (suc level) target) level target
    begin_back h = record {
      here = h;
      stands = λ d. get_or-replicate (suc level) level target d (omega arith);
      long = length-replicate (suc level) target;
      low = omega arith;
      walk = subst (IsWalkBy Step target target) (sym (last_copy level target)) (refl, refl);
      least = λ i u d le lt walk edge. (let long = length-replicate (suc level) target in absurd (omega arith));
    }

    -- what is one step nearer, of those from which a step leads here
    pub step_back : (path : List ℕ) (p at v : ℕ) → IsBack Step source target level levels path (suc p) at
        → ((u : ℕ) → Step u at → HasLevel levels p u → Step v at × HasLevel levels p v × (v ≤ u)) → IsBack Step source target level levels (set path p v) p v
    step_back path p at v i choose =
        let one = before at p (let low = i.low in omega arith) i.here in
        let chosen = choose one.0 one.2 one.1 in
        let long = i.long in
        let low = i.low in
        let lt : p < length path = omega arith in
        let next : drop (suc p) path ≡ at ∷ drop (suc (suc p)) path =
        drop-cons path (suc p) at (omega arith) ∙ ap (λ x. x ∷ drop (suc (suc p)) path) (i.stands at) in
        let rest : drop p (set path p v) ≡ v ∷ at ∷ drop (suc (suc p)) path =
        drop-set path p v lt ∙ ap (λ (k : ℕ). v ∷ drop k path) (add-one p) ∙ ap (λ l. v ∷ l) next in
        record {
          here = chosen.1;
          stands = λ d. get_or-set_same path p v d lt;
          long = length-set path p v ∙ i.long;
          low = omega arith;
          walk = subst (IsWalkBy Step v target) (sym rest) (refl, chosen.0, subst (IsWalkBy Step at target) next i.walk);
          least = λ k u d le in' walk edge.
              let as_long = length-set path p v in
              let behind : get_or (set path p v) (k + 1) d ≡ get_or path (k + 1) d =
              get_or-set_other path p (k + 1) v d (λ e. omega arith) in
              let edge' : Step u (get_or path (k + 1) d) = subst (Step u) behind edge in
              elim (cases_eq k p) [
                | inl same ↦
                    let there : get_or path (k + 1) d ≡ at = ap (λ (j : ℕ). get_or path (j + 1) d) same ∙ ap (λ (j : ℕ). get_or path j d) (add-one p) ∙ i.stands d in
                    let to : Step u at = subst (Step u) there edge' in
                    let walk' : Walk Step source u p = subst (Walk Step source u) same walk in
                    let told = (choose u to (nearer u at p (omega arith) i.here walk' to)).2 in
                    let value : get_or (set path p v) k d ≡ v = ap (λ (j : ℕ). get_or (set path p v) j d) same ∙ get_or-set_same path p v d lt in
                    omega arith
                | inr other ↦
                    let value : get_or (set path p v) k d ≡ get_or path k d = get_or-set_other path p k v d other in
                    let told = i.least k u d (omega arith) (omega arith) walk edge' in
                    omega arith
              ];
        }

    pub back_at_last : (path : List ℕ) (at : ℕ) → IsBack Step source target level levels path 0 at → HasLevel levels level target → IsPath Step source target path
    back_at_last path at i h =
        let from : source ≡ at = alone at 0 (told at (Some 0) (level_within at 0 i.here) i.here).0 in
        record {
          walk = subst (λ a. IsWalkBy Step a target path) (sym from) i.walk;
          shortest = λ k walk.
              let least = (told target (Some level) (level_within target level h) h).1 k (from_source target k walk) in
              let long = i.long in
              omega arith;
          least = λ k u d lt walk edge. i.least k u d (omega arith) lt walk edge;
        }

-- what stands at a place, whatever stands for places past the end
pub same_at : (xs : List (Option ℕ)) (i : ℕ) (x : Option ℕ) → i < length xs → x ≡ get_or xs i x → level_of xs i ≡ x
same_at xs i x lt is =
    let a = slice_get-get_or xs i None lt in
    let b = slice_get-get_or xs i x lt in
    cc

-- a search that reached a vertex has the levels of all that are nearer
pub deep_enough : (t level : ℕ) (levels : List (Option ℕ)) (bound : Option ℕ) → HasLevel levels level t
    → EndsSearch None t levels bound → (k : ℕ) → k < level → IsAtMost bound k
deep_enough t level levels bound h ends k lt = elim ends [
  | inl none ↦ subst (λ b. IsAtMost b k) (sym none) tt
  | inr some ↦
      let same = same_level levels t level some.2 h some.3 in
      let le = some.4 in
      subst (λ b. IsAtMost b k) (sym some.1) (omega arith)
]

-- one that did not reach it has found all
pub all_found : (t : ℕ) (levels : List (Option ℕ)) (bound : Option ℕ) → level_of levels t ≡ None → EndsSearch None t levels bound
    → bound ≡ None
all_found t levels bound none ends = elim ends [
  | inl e ↦ e
  | inr some ↦ let both = sym none ∙ some.3 in absurd (cc)
]
