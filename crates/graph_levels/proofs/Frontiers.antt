-- Steps of a search by frontiers.
use Rattle.std.proofs.Common.{◌≡◌, ℕ, ◌+◌, ◌<◌, ◌≤◌, zero, suc, arith, refl, sym, ap, ◌∙◌, subst, inl, inr, List, [], ◌∷◌, ◌++◌}
use Rattle.std.proofs.{Common.{length, set, drop, get_or, not, Option, Some, None, cond, true, false, Bool}, lemmas.Bool.cases_eq}
use Rattle.std.proofs.lemmas.{Bool.cases_lt, Option.get_or_from_slice_get, List.{get_or-set_same, get_or-set_other, get_or_past}}
use Rattle.std.proofs.lemmas.List.{length-append, length-replicate, get_or-replicate, Elements.{All-tail, All-weaker, All-push}}
use Rattle.std.proofs.lemmas.List.Elements.{All-nil, All-cons, Contains-push, Contains-append_left, All-contains}
use Rattle.std.{specs.{Prelude.{All, replicate}, List.Contains}, proofs.lemmas.Grind.common_steps}
use Rattle.graph_types.specs.Analyses.{Walk}
use Rattle.graph_types.{specs.declared.ids.VertexId.VertexId, proofs.Counts.{Contains-cons_cases, Contains-nil}}
use Rattle.graph_types.proofs.Prefixes.{front_long}
use Rattle.graph_levels.specs.Search.{is_unreached, level_of, HasLevel, IsReachedWithin, IsSearch}
use Rattle.graph_levels.specs.Reached.{met, stands_in, level_table, vertices_of}
use Rattle.graph_levels.proofs.Tables.{asked, length-table, levelled, table_push, vertices_push}

pub none_of : (o : Option ℕ) → is_unreached o ≡ true → o ≡ None
none_of o h = grind (arith, common_steps)

pub some_of : (o : Option ℕ) → is_unreached o ≡ false → (j : ℕ) × (o ≡ Some j)
some_of o h = grind (arith, common_steps)

pub same_level : (levels : List (Option ℕ)) (v j k : ℕ) → HasLevel levels j v → HasLevel levels k v → j ≡ k
same_level levels v j k p q = let both = sym p ∙ q in cc

-- where there is no level
abbrev no_level : Option ℕ
no_level = None

module _ (Step : ℕ → ℕ → Type 0) (sources : List ℕ) where
  -- a vertex with no level gets one
  kept : (levels : List (Option ℕ)) (v d : ℕ) → level_of levels v ≡ None → (w k : ℕ) → HasLevel levels k w
      → HasLevel (set levels v (Some d)) k w
  kept levels v d none w k h = grind (arith, common_steps, cases_eq, get_or-set_other)

  mark : (levels : List (Option ℕ)) (rest next : List ℕ) (d u v : ℕ) → IsSearch Step sources levels rest next d → HasLevel levels d u
      → Step u v → v < length levels → level_of levels v ≡ None
      → IsSearch Step sources (set levels v (Some (d + 1))) rest (next ++ v ∷ []) d
  mark levels rest next d u v i at edge lt none =
      let new = set levels v (Some (d + 1)) in
      let here : HasLevel new (d + 1) v = get_or-set_same levels v (Some (d + 1)) None lt in
      let keep = kept levels v (d + 1) none in
      let back : (w k : ℕ) → HasLevel new k w → (w ≡ v → ⊥) → HasLevel levels k w =
      λ w k h ne. sym (get_or-set_other levels v w (Some (d + 1)) None ne) ∙ h in
      let is_next : (w k : ℕ) → HasLevel new k w → w ≡ v → k ≡ d + 1 =
      λ w k h e. same_level new v k (d + 1) (ap (level_of new) (sym e) ∙ h) here in
      record {
        start = All-weaker (HasLevel levels 0) (HasLevel new 0) (λ w h. keep w 0 h) sources i.start;
        sound = λ w k h. elim (cases_eq w v) [
          | inl e ↦
              let deep : suc d ≡ k = (let n = is_next w k h e in omega arith) in
              let from = i.sound u d at in
              (from.0, from.1, subst (Walk Step from.0 w) deep (u, from.2, subst (Step u) (sym e) edge))
          | inr ne ↦ i.sound w k (back w k h ne)
        ];
        low = λ w k h. elim (cases_eq w v) [
          | inl e ↦ let n = is_next w k h e in omega arith
          | inr ne ↦ i.low w k (back w k h ne)
        ];
        now = All-weaker (HasLevel levels d) (HasLevel new d) (λ w h. keep w d h) rest i.now;
        later = All-push (HasLevel new (d + 1)) next v
            (All-weaker (HasLevel levels (d + 1)) (HasLevel new (d + 1)) (λ w h. keep w (d + 1) h) next i.later) here;
        closed = λ a b k h to. elim (cases_eq a v) [
          | inl e ↦ inr (inr (subst (Contains (next ++ v ∷ [])) (sym e) (Contains-push next v)))
          | inr ne ↦ elim (i.closed a b k (back a k h ne) to) [
            | inl r ↦ inl (r.0, keep b r.0 r.1, r.2)
            | inr (inl c) ↦ inr (inl c)
            | inr (inr c) ↦ inr (inr (Contains-append_left next (v ∷ []) a c))
          ]
        ];
      }

  -- what visiting targets of u leaves, where n vertices are there and the next frontier stands behind the first m rows
  pub record Visited (n : ℕ) (rows : List (VertexId × ℕ)) (rest : List ℕ) (m d : ℕ) (ts : List ℕ)
      (new : List (VertexId × ℕ)) : Type 0 where
    pub search : IsSearch Step sources (level_table n new) rest (vertices_of (drop m new)) d
    pub reached : All (IsReachedWithin (level_table n new) (d + 1)) ts
    pub keep : (w k : ℕ) → HasLevel (level_table n rows) k w → HasLevel (level_table n new) k w

  pub visit_all : (n : ℕ) (ts : List ℕ) (rows : List (VertexId × ℕ)) (rest : List ℕ) (m d u : ℕ)
      → IsSearch Step sources (level_table n rows) rest (vertices_of (drop m rows)) d → HasLevel (level_table n rows) d u → m ≤ length rows
      → All (Step u) ts → All (λ v. v < n) ts → Visited n rows rest m d ts (met (d + 1) ts rows)
  visit_all n [] rows rest m d u i at long edges in' = grind (arith, common_steps, All-nil)
  visit_all n (v ∷ ts) rows rest m d u i at long edges in' =
      let lt : v < n = in' 0 0 (omega arith) in
      let edge : Step u v = edges 0 0 (omega arith) in
      let others = All-tail (Step u) v ts edges in
      let rest_in = All-tail (λ w. w < n) v ts in' in
      let levels = level_table n rows in
      let new : List (VertexId × ℕ) = rows ++ (record { 0 = v }, d + 1) ∷ [] in
      let below : v < length levels = omega (arith, length-table n rows, lt) in
      let when_none : level_of levels v ≡ None → Visited n rows rest m d (v ∷ ts) (met (d + 1) ts new) =
      λ none.
      let keep : (w k : ℕ) → HasLevel levels k w → HasLevel (level_table n new) k w =
      λ w k h. subst (λ t. HasLevel t k w) (sym (table_push n rows v (d + 1))) (kept levels v (d + 1) none w k h) in
      let here : HasLevel (level_table n new) (d + 1) v =
      subst (λ t. HasLevel t (d + 1) v) (sym (table_push n rows v (d + 1)))
      (get_or-set_same levels v (Some (d + 1)) None below) in
      let next : IsSearch Step sources (level_table n new) rest (vertices_of (drop m new)) d =
      subst (λ t. IsSearch Step sources t rest (vertices_of (drop m new)) d) (sym (table_push n rows v (d + 1)))
      (subst (λ vs. IsSearch Step sources (set levels v (Some (d + 1))) rest vs d) (sym (vertices_push m rows v (d + 1) long))
      (mark levels rest (vertices_of (drop m rows)) d u v i at edge below none)) in
      let r = visit_all n ts new rest m d u next (keep u d at) (omega (arith, long, length-append rows ((record { 0 = v }, d + 1) ∷ [])))
      others rest_in in
      record {
        search = r.search;
        reached = All-cons (IsReachedWithin (level_table n (met (d + 1) ts new)) (d + 1)) v ts
            (d + 1, r.keep v (d + 1) here, omega arith) r.reached;
        keep = λ w k h. r.keep w k (keep w k h);
      } in
      let when_some : (j : ℕ) → HasLevel levels j v → Visited n rows rest m d (v ∷ ts) (met (d + 1) ts rows) =
      λ j h.
      let r = visit_all n ts rows rest m d u i at long others rest_in in
      record {
        search = r.search;
        reached = All-cons (IsReachedWithin (level_table n (met (d + 1) ts rows)) (d + 1)) v ts (j, r.keep v j h, i.low v j h) r.reached;
        keep = r.keep;
      } in
      let choose : (b : Bool) → stands_in v rows ≡ b → Visited n rows rest m d (v ∷ ts) (met (d + 1) ts (cond b rows new)) =
      λ b. elim b as (λ b. stands_in v rows ≡ b → Visited n rows rest m d (v ∷ ts) (met (d + 1) ts (cond b rows new))) [
        | true ↦ λ e. let some = some_of (level_of levels v) (levelled n rows v lt ∙ ap not e) in when_some some.0 some.1
        | false ↦ λ e. when_none (none_of (level_of levels v) (levelled n rows v lt ∙ ap not e))
      ] in
      choose (stands_in v rows) refl

  -- a vertex whose targets are all reached is done
  pub done : (levels : List (Option ℕ)) (u : ℕ) (rest next : List ℕ) (d : ℕ) → IsSearch Step sources levels (u ∷ rest) next d
      → ((v : ℕ) → Step u v → IsReachedWithin levels (d + 1) v) → IsSearch Step sources levels rest next d
  done levels u rest next d i all = record {
    start = i.start;
    sound = i.sound;
    low = i.low;
    now = All-tail (HasLevel levels d) u rest i.now;
    later = i.later;
    closed = λ a b k h to. elim (i.closed a b k h to) [
      | inl r ↦ inl r
      | inr (inl c) ↦ elim (Contains-cons_cases u rest a c) [
        | inl e ↦
            let r = all b (subst (λ x. Step x b) (sym e) to) in
            let at : HasLevel levels d u = i.now 0 0 (omega arith) in
            let same = same_level levels u k d (ap (level_of levels) e ∙ h) at in
            let le = r.2 in
            inl (r.0, r.1, omega arith)
        | inr more ↦ inr (inl more)
      ]
      | inr (inr c) ↦ inr (inr c)
    ];
  }

  -- a row of the frontier is asked
  pub step : (n d k : ℕ) (ts : List ℕ) (old rows : List (VertexId × ℕ)) (row : VertexId × ℕ)
      → rows ≡ old ++ drop (length old) rows → k < length old → row ≡ get_or rows k row
      → All (Step row.0.0) ts → All (λ v. v < n) ts → ((b : ℕ) → Step row.0.0 b → Contains ts b)
      → IsSearch Step sources (level_table n rows) (vertices_of (drop k old)) (vertices_of (drop (length old) rows)) d
      → IsSearch Step sources (level_table n (met (d + 1) ts rows)) (vertices_of (drop (k + 1) old))
      (vertices_of (drop (length old) (met (d + 1) ts rows))) d
  step n d k ts old rows row front lt is edges in' each i =
      let u = row.0.0 in
      let rest = vertices_of (drop (k + 1) old) in
      let at : IsSearch Step sources (level_table n rows) (u ∷ rest) (vertices_of (drop (length old) rows)) d =
      subst (λ vs. IsSearch Step sources (level_table n rows) vs (vertices_of (drop (length old) rows)) d) (asked old rows k row front lt is) i in
      let r = visit_all n ts rows (u ∷ rest) (length old) d u at (at.now 0 0 (omega arith)) (front_long old rows front) edges in' in
      done (level_table n (met (d + 1) ts rows)) u rest (vertices_of (drop (length old) (met (d + 1) ts rows))) d r.search
      (λ b edge. All-contains (IsReachedWithin (level_table n (met (d + 1) ts rows)) (d + 1)) ts b r.reached (each b edge))

  -- the next frontier becomes the frontier
  pub deeper : (levels : List (Option ℕ)) (next : List ℕ) (d : ℕ) → IsSearch Step sources levels [] next d
      → IsSearch Step sources levels next [] (d + 1)
  deeper levels next d i = record {
    start = i.start;
    sound = i.sound;
    low = λ v k h. let le = i.low v k h in omega arith;
    now = i.later;
    later = All-nil (HasLevel levels (d + 1 + 1));
    closed = λ a b k h to. elim (i.closed a b k h to) [
      | inl r ↦ inl r
      | inr (inl c) ↦ absurd (Contains-nil a c)
      | inr (inr c) ↦ inr (inl c)
    ];
  }
