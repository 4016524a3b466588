-- How a search begins, and what it has found in the end.
use Rattle.std.proofs.Common.{◌≡◌, ℕ, ◌+◌, ◌*◌, ◌/◌, ◌<◌, ◌≤◌, zero, suc, arith, refl, sym, ap, ◌∙◌, subst, inl, inr, List, [], ◌∷◌, ◌++◌}
use Rattle.std.proofs.{Common.{length, set, get_or, not, Option, Some, None, cond, true, false, Bool, ◌⊎◌, ◌&&◌}, lemmas.Bool.cases_eq}
use Rattle.std.proofs.lemmas.{Bool.{cases_lt, ltb-true, ltb-false}, Option.get_or_from_slice_get, List.{get_or-set_same, get_or-set_other, get_or_past}}
use Rattle.std.proofs.lemmas.List.{length-replicate, get_or-replicate, map-append, Elements.{All-tail, All-weaker, All-push}}
use Rattle.std.proofs.lemmas.List.Elements.{All-nil, All-cons, Contains-push, Contains-append_left, All-contains}
use Rattle.std.specs.{Prelude.{All, IfSome, replicate, nat_lt}, List.Contains, Option.is_some}
use Rattle.graph_types.specs.{Graph.Graph, Analyses.{LeadsTo, Walk, IsLevel, IsTable}, declared.ids.{Filter.Filter, VertexId.VertexId}}
use Rattle.graph_types.proofs.Counts.{Contains-cons, Contains-cons_cases, Contains-first, Contains-nil}
use Rattle.graph_levels.specs.Search.{is_unreached, level_of, HasLevel, IsReachedWithin, IsSearch}
use Rattle.graph_levels.specs.{Near.{AreFoundFor, AreLevelsFrom, AreLevelsSoFar, Comes, IsAtMost, IsLevelFrom, IsLevelSoFar, is_below}, Reached.{is_found, met, stands_in, level_table, vertices_of}}
use Rattle.graph_levels.proofs.{Frontiers.{none_of, same_level, some_of}, Tables.{length-table, levelled, table_push}}

-- fewer than a bound are within it, and no more than some number that is within it
pub less_is_within : (most : Option ℕ) (n : ℕ) → is_below n most ≡ true → IsAtMost most (n + 1)
less_is_within None n is = tt
less_is_within (Some most) n is = let lt = ltb-true n most is in omega arith

pub lesser_is_within : (most : Option ℕ) (m n : ℕ) → m ≤ n → IsAtMost most n → IsAtMost most m
lesser_is_within None m n le in' = tt
lesser_is_within (Some most) m n le in' = omega arith

pub none_is_within : (most : Option ℕ) → IsAtMost most 0
none_is_within None = tt
none_is_within (Some most) = omega arith

-- a bound that isn't passed is reached
pub bound_is : (most : Option ℕ) (n : ℕ) → is_below n most ≡ false → IsAtMost most n → most ≡ Some n
bound_is None n is in' = absurd (cc)
bound_is (Some most) n is in' =
    let ge = ltb-false n most is in
    let e : most ≡ n = omega arith in
    ap (λ (k : ℕ). Some k) e

-- a search that goes on has a frontier and is below its bound; one that doesn't has none, or has come to it, or has found
pub goes_on : (a b n : ℕ) (most : Option ℕ) (found : Bool) → (nat_lt a b && is_below n most && not found) ≡ true
    → (a < b) × (is_below n most ≡ true)
goes_on a b n most found is = choose (nat_lt a b) (is_below n most) found refl refl is where
  choose : (x y z : Bool) → nat_lt a b ≡ x → is_below n most ≡ y → (x && y && not z) ≡ true → (a < b) × (is_below n most ≡ true)
  choose true true z left right all = (ltb-true a b left, right)
  choose true false z left right all = absurd (cc)
  choose false y z left right all = absurd (cc)

pub is_over : (a b n : ℕ) (most : Option ℕ) (found : Bool) → (nat_lt a b && is_below n most && not found) ≡ false
    → (b ≤ a) ⊎ ((is_below n most ≡ false) ⊎ (found ≡ true))
is_over a b n most found is = choose (nat_lt a b) (is_below n most) found refl refl refl is where
  choose : (x y z : Bool) → nat_lt a b ≡ x → is_below n most ≡ y → found ≡ z → (x && y && not z) ≡ false
      → (b ≤ a) ⊎ ((is_below n most ≡ false) ⊎ (found ≡ true))
  choose true true true left right is all = inr (inr is)
  choose true true false left right is all = absurd (cc)
  choose true false z left right is all = inr (inl right)
  choose false y z left right is all = inl (ltb-false a b left)

-- what stands in a row has a level
pub found_level : (n : ℕ) (rows : List (VertexId × ℕ)) (t : ℕ) → t < n → stands_in t rows ≡ true
    → (k : ℕ) × HasLevel (level_table n rows) k t
found_level n rows t lt found = some_of (level_of (level_table n rows) t) (levelled n rows t lt ∙ ap not found)

-- a vertex has a place among the marks
pub marks_within : (until : Option ℕ) (n m : ℕ) → n ≤ 64 * m → IfSome until (λ t. t < n) → IfSome until (λ t. t / 64 < m)
marks_within None n m words in' = tt
marks_within (Some t) n m words in' = omega arith

module _ (Step : ℕ → ℕ → Type 0) (sources : List ℕ) where
  -- rows of sources alone, each with level 0
  pub record IsBegun (n : ℕ) (rows : List (VertexId × ℕ)) : Type 0 where
    pub zero_each : (v k : ℕ) → HasLevel (level_table n rows) k v → (k ≡ 0) × Contains sources v
    pub stands : (v k : ℕ) → HasLevel (level_table n rows) k v → Contains (vertices_of rows) v
    pub each_zero : All (HasLevel (level_table n rows) 0) (vertices_of rows)

  -- the same after more of the sources
  pub record HasBegun (n : ℕ) (rows : List (VertexId × ℕ)) (ts : List ℕ) (new : List (VertexId × ℕ)) : Type 0 where
    pub begun : IsBegun n new
    pub reached : All (HasLevel (level_table n new) 0) ts
    pub keep : (w k : ℕ) → HasLevel (level_table n rows) k w → HasLevel (level_table n new) k w

  one_more : (n : ℕ) (rows : List (VertexId × ℕ)) (v : ℕ) → v < n → level_of (level_table n rows) v ≡ None → Contains sources v
      → IsBegun n rows → IsBegun n (rows ++ (record { 0 = v }, 0) ∷ [])
      × ((w k : ℕ) → HasLevel (level_table n rows) k w → HasLevel (level_table n (rows ++ (record { 0 = v }, 0) ∷ [])) k w)
      × HasLevel (level_table n (rows ++ (record { 0 = v }, 0) ∷ [])) 0 v
  one_more n rows v lt none in' are =
      let levels = level_table n rows in
      let new : List (VertexId × ℕ) = rows ++ (record { 0 = v }, 0) ∷ [] in
      let long = length-table n rows in
      let table : level_table n new ≡ set levels v (Some 0) = table_push n rows v 0 in
      let vertices : vertices_of new ≡ vertices_of rows ++ v ∷ [] = map-append (λ (row : VertexId × ℕ). row.0.0) rows ((record { 0 = v }, 0) ∷ []) in
      let here : HasLevel (level_table n new) 0 v =
      ap (λ t. level_of t v) table ∙ get_or-set_same levels v (Some 0) None (omega (arith, long, lt)) in
      let keep : (w k : ℕ) → HasLevel levels k w → HasLevel (level_table n new) k w =
      λ w k h. elim (cases_eq w v) [
        | inl e ↦ let both = sym (ap (level_of levels) e ∙ none) ∙ h in absurd (cc)
        | inr ne ↦ ap (λ t. level_of t w) table ∙ get_or-set_other levels v w (Some 0) None ne ∙ h
      ] in
      let back : (w k : ℕ) → HasLevel (level_table n new) k w → (w ≡ v → ⊥) → HasLevel levels k w =
      λ w k h ne. sym (get_or-set_other levels v w (Some 0) None ne) ∙ sym (ap (λ t. level_of t w) table) ∙ h in (
        record {
          zero_each = λ w k h. elim (cases_eq w v) [
            | inl e ↦ (
              same_level (level_table n new) v k 0 (ap (level_of (level_table n new)) (sym e) ∙ h) here,
              subst (Contains sources) (sym e) in',
            )
            | inr ne ↦ are.zero_each w k (back w k h ne)
          ];
          stands = λ w k h. elim (cases_eq w v) [
            | inl e ↦ subst (Contains (vertices_of new)) (sym e) (subst (λ vs. Contains vs v) (sym vertices) (Contains-push (vertices_of rows) v))
            | inr ne ↦
                subst (λ vs. Contains vs w) (sym vertices)
                (Contains-append_left (vertices_of rows) (v ∷ []) w (are.stands w k (back w k h ne)))
          ];
          each_zero = subst (All (HasLevel (level_table n new) 0)) (sym vertices)
              (All-push (HasLevel (level_table n new) 0) (vertices_of rows) v
              (All-weaker (HasLevel levels 0) (HasLevel (level_table n new) 0) (λ w h. keep w 0 h) (vertices_of rows) are.each_zero) here);
        },
        keep,
        here,
      )

  -- visiting sources
  begin_all : (n : ℕ) (ts : List ℕ) (rows : List (VertexId × ℕ)) → IsBegun n rows → All (λ v. v < n) ts
      → ((v : ℕ) → Contains ts v → Contains sources v) → HasBegun n rows ts (met 0 ts rows)
  begin_all n [] rows are in' from =
      record { begun = are; reached = All-nil (HasLevel (level_table n rows) 0); keep = λ w k h. h }
  begin_all n (v ∷ ts) rows are in' from =
      let lt : v < n = in' 0 0 (omega arith) in
      let rest_in = All-tail (λ w. w < n) v ts in' in
      let source : Contains sources v = from v (Contains-first v ts v refl) in
      let others : (w : ℕ) → Contains ts w → Contains sources w = λ w c. from w (Contains-cons v ts w c) in
      let new : List (VertexId × ℕ) = rows ++ (record { 0 = v }, 0) ∷ [] in
      let when_none : level_of (level_table n rows) v ≡ None → HasBegun n rows (v ∷ ts) (met 0 ts new) =
      λ none.
      let more = one_more n rows v lt none source are in
      let r = begin_all n ts new more.0 rest_in others in
      record {
        begun = r.begun;
        reached = All-cons (HasLevel (level_table n (met 0 ts new)) 0) v ts (r.keep v 0 more.2) r.reached;
        keep = λ w k h. r.keep w k (more.1 w k h);
      } in
      let when_some : (j : ℕ) → HasLevel (level_table n rows) j v → HasBegun n rows (v ∷ ts) (met 0 ts rows) =
      λ j h.
      let r = begin_all n ts rows are rest_in others in
      let nothing : j ≡ 0 = (are.zero_each v j h).0 in
      record {
        begun = r.begun;
        reached = All-cons (HasLevel (level_table n (met 0 ts rows)) 0) v ts
            (r.keep v 0 (subst (λ k. HasLevel (level_table n rows) k v) nothing h)) r.reached;
        keep = r.keep;
      } in
      let choose : (b : Bool) → stands_in v rows ≡ b → HasBegun n rows (v ∷ ts) (met 0 ts (cond b rows new)) =
      λ b. elim b as (λ b. stands_in v rows ≡ b → HasBegun n rows (v ∷ ts) (met 0 ts (cond b rows new))) [
        | true ↦ λ e.
            let some = some_of (level_of (level_table n rows) v) (levelled n rows v lt ∙ ap not e) in when_some some.0 some.1
        | false ↦ λ e. when_none (none_of (level_of (level_table n rows) v) (levelled n rows v lt ∙ ap not e))
      ] in
      choose (stands_in v rows) refl

  nothing_has : (n v k : ℕ) → HasLevel (replicate n None) k v → ⊥
  nothing_has n v k h =
      let none : level_of (replicate n None) v ≡ None = elim (cases_lt v n) [
        | inl l ↦ get_or-replicate n v None None l
        | inr ge ↦ get_or_past (replicate n None) v None (omega (arith, length-replicate {A = Option ℕ} n None))
      ] in
      let both = sym none ∙ h in
      absurd (cc)

  -- only the sources have a level
  pub begin : (n : ℕ) → All (λ v. v < n) sources
      → IsSearch Step sources (level_table n (met 0 sources [])) (vertices_of (met 0 sources [])) [] 0
  begin n in' =
      let rows : List (VertexId × ℕ) = met 0 sources [] in
      let none : IsBegun n [] = record {
        zero_each = λ v k h. absurd (nothing_has n v k h);
        stands = λ v k h. absurd (nothing_has n v k h);
        each_zero = All-nil (HasLevel (level_table n []) 0);
      } in
      let all = begin_all n sources [] none in' (λ v c. c) in
      record {
        start = all.reached;
        sound = λ v k h.
            let told = all.begun.zero_each v k h in (v, told.1, subst (Walk Step v v) (sym told.0) refl);
        low = λ v k h. let told = (all.begun.zero_each v k h).0 in omega arith;
        now = all.begun.each_zero;
        later = All-nil (HasLevel (level_table n rows) 1);
        closed = λ u v k h to. inr (inl (all.begun.stands u k h));
      }

  pub begin_flat : (n : ℕ) → All (λ v. v < n) sources → (v k : ℕ) → HasLevel (level_table n (met 0 sources [])) k v → k ≤ 0
  begin_flat n in' v k h =
      let none : IsBegun n [] = record {
        zero_each = λ v k h. absurd (nothing_has n v k h);
        stands = λ v k h. absurd (nothing_has n v k h);
        each_zero = All-nil (HasLevel (level_table n []) 0);
      } in
      let told = ((begin_all n sources [] none in' (λ v c. c)).begun.zero_each v k h).0 in
      omega arith

  -- a search that has no frontier left, or has come to its bound
  module _ (levels : List (Option ℕ)) (rest : List ℕ) (d : ℕ) (most : Option ℕ) (i : IsSearch Step sources levels rest [] d)
      (flat : (v k : ℕ) → HasLevel levels k v → k ≤ d) (deep : IsAtMost most d)
      (end : (rest ≡ []) ⊎ (most ≡ Some d)) where
    reached : (m v : ℕ) → Comes Step sources v m → (rest ≡ []) ⊎ (m ≤ d) → IsReachedWithin levels m v
    reached zero v walk room =
        (0, ap (level_of levels) (sym walk.2) ∙ All-contains (HasLevel levels 0) sources walk.0 i.start walk.1, omega arith)
    reached (suc m) v walk room =
        let before = reached m walk.2.0 (walk.0, walk.1, walk.2.1) (elim room [ inl none ↦ inl none | inr le ↦ inr (omega arith) ]) in
        let c = walk.2.0 in
        let a = before.2 in
        elim (i.closed c v before.0 before.1 walk.2.2) [
          | inl r ↦ let b = r.2 in (r.0, r.1, omega arith)
          | inr (inl in') ↦ elim room [
            | inl none ↦ absurd (Contains-nil c (subst (λ vs. Contains vs c) none in'))
            | inr le ↦
                let same = same_level levels c before.0 d before.1 (All-contains (HasLevel levels d) rest c i.now in') in
                absurd (omega arith)
          ]
          | inr (inr in') ↦ absurd (Contains-nil c in')
        ]

    room_within : (m : ℕ) → IsAtMost most m → (rest ≡ []) ⊎ (m ≤ d)
    room_within m in' = elim end [ inl none ↦ inl none | inr bound ↦ inr (subst (λ b. IsAtMost b m) bound in') ]

    level_at : (v : ℕ) (o : Option ℕ) → level_of levels v ≡ o → IsLevelFrom Step sources most v o
    level_at v None is = λ n walk in'.
        let r = reached n v walk (room_within n in') in
        let both = sym is ∙ r.1 in
        absurd (cc)
    level_at v (Some n) is = (
      i.sound v n is,
      lesser_is_within most n d (flat v n is) deep,
      λ m walk. elim (cases_lt m n) [
        | inl lt ↦
            let le = flat v n is in
            let r = reached m v walk (inr (omega arith)) in
            let same = same_level levels v r.0 n r.1 is in
            let a = r.2 in
            omega arith
        | inr ge ↦ ge
      ],
    )

    -- has found the levels
    pub found : (n : ℕ) → length levels ≡ n → AreLevelsFrom n Step sources most levels
    found n long = record {
      one_each = long;
      each = λ v x is. level_at v x (get_or_from_slice_get levels v x None is);
    }

-- levels within a bound, as those of a search that isn't at its end
so_far : (Step : ℕ → ℕ → Type 0) (sources : List ℕ) (bound : Option ℕ) (v : ℕ) (o : Option ℕ)
    → IsLevelFrom Step sources bound v o → IsLevelSoFar Step sources bound v o
so_far Step sources bound v None none = none
so_far Step sources bound v (Some n) is = (is.0, is.2)

pub levels_so_far : (n : ℕ) (Step : ℕ → ℕ → Type 0) (sources : List ℕ) (bound : Option ℕ) (levels : List (Option ℕ))
    → AreLevelsFrom n Step sources bound levels → AreLevelsSoFar n Step sources bound levels
levels_so_far n Step sources bound levels are =
    record { one_each = are.one_each; each = λ v x is. so_far Step sources bound v x (are.each v x is) }

-- at its end a search has found what it was for
pub ended : (n : ℕ) (Step : ℕ → ℕ → Type 0) (sources : List ℕ) (most until : Option ℕ) (levels : List (Option ℕ))
    → AreLevelsFrom n Step sources most levels → AreFoundFor n Step sources most until levels
ended n Step sources most None levels are = are
ended n Step sources most (Some t) levels are = (most, levels_so_far n Step sources most levels are, inl refl)

-- and so it has where it was cut off once it reached a vertex
module _ (Step : ℕ → ℕ → Type 0) (sources : List ℕ) (levels : List (Option ℕ)) (rest next : List ℕ) (d : ℕ)
    (i : IsSearch Step sources levels rest next d) where
  reached_nearer : (m v : ℕ) → Comes Step sources v m → m ≤ d → IsReachedWithin levels m v
  reached_nearer zero v walk room =
      (0, ap (level_of levels) (sym walk.2) ∙ All-contains (HasLevel levels 0) sources walk.0 i.start walk.1, omega arith)
  reached_nearer (suc m) v walk room =
      let before = reached_nearer m walk.2.0 (walk.0, walk.1, walk.2.1) (omega arith) in
      let c = walk.2.0 in
      let a = before.2 in
      elim (i.closed c v before.0 before.1 walk.2.2) [
        | inl r ↦ let b = r.2 in (r.0, r.1, omega arith)
        | inr (inl in') ↦
            let same = same_level levels c before.0 d before.1 (All-contains (HasLevel levels d) rest c i.now in') in
            absurd (omega arith)
        | inr (inr in') ↦
            let same = same_level levels c before.0 (d + 1) before.1 (All-contains (HasLevel levels (d + 1)) next c i.later in') in
            absurd (omega arith)
      ]

  level_so_far : (v : ℕ) (o : Option ℕ) → level_of levels v ≡ o → IsLevelSoFar Step sources (Some d) v o
  level_so_far v None is = λ n walk in'.
      let r = reached_nearer n v walk in' in
      let both = sym is ∙ r.1 in
      absurd (cc)
  level_so_far v (Some n) is = (
    i.sound v n is,
    λ m walk. elim (cases_lt m n) [
      | inl lt ↦
          let le = i.low v n is in
          let r = reached_nearer m v walk (omega arith) in
          let same = same_level levels v r.0 n r.1 is in
          let a = r.2 in
          omega arith
      | inr ge ↦ ge
    ],
  )

  pub cut_off : (n : ℕ) (most until : Option ℕ) → length levels ≡ n
      → IfSome until (λ t. (k : ℕ) × HasLevel levels k t) → is_some until ≡ true → AreFoundFor n Step sources most until levels
  cut_off n most None long found some = absurd (cc)
  cut_off n most (Some t) long found some = (
    Some d,
    record { one_each = long; each = λ v x is. level_so_far v x (get_or_from_slice_get levels v x None is) },
    inr (d, refl, found.0, found.1, i.low t found.0 found.1),
  )

-- a vertex that was to be reached, and stands in a row
pub found_there : (n : ℕ) (rows : List (VertexId × ℕ)) (until : Option ℕ) → IfSome until (λ t. t < n) → is_found rows until ≡ true
    → IfSome until (λ t. (k : ℕ) × HasLevel (level_table n rows) k t) × (is_some until ≡ true)
found_there n rows None in' found = absurd (cc)
found_there n rows (Some t) in' found = (found_level n rows t in' found, refl)

-- from one source, without a bound, these are the levels
module _ (f : Filter) (g : Graph) (s : ℕ) where
  comes_alone : (v n : ℕ) → Comes (LeadsTo f g) (s ∷ []) v n → Walk (LeadsTo f g) s v n
  comes_alone v n walk = elim (Contains-cons_cases s [] walk.0 walk.1) [
    | inl e ↦ subst (λ x. Walk (LeadsTo f g) x v n) (sym e) walk.2
    | inr none ↦ absurd (Contains-nil walk.0 none)
  ]

  level_alone : (v : ℕ) (o : Option ℕ) → IsLevelFrom (LeadsTo f g) (s ∷ []) None v o → IsLevel f g s v o
  level_alone v None none = λ n walk. none n (s, Contains-first s [] s refl, walk) tt
  level_alone v (Some n) is = (comes_alone v n is.0, λ m walk. is.2 m (s, Contains-first s [] s refl, walk))

  pub levels_alone : (n : ℕ) (levels : List (Option ℕ)) → AreLevelsFrom n (LeadsTo f g) (s ∷ []) None levels
      → IsTable n (IsLevel f g s) levels
  levels_alone n levels are = record { one_each = are.one_each; each = λ v x is. level_alone v x (are.each v x is) }
