-- Numbers that are lowered along arcs until none is left to lower: what they are then, and that they come to it.
use Rattle.std.proofs.Common.{◌≡◌, ◌≢◌, ℕ, zero, suc, ◌+◌, ◌*◌, ◌<◌, ◌≤◌, arith, refl, sym, ap, ◌∙◌, subst, ◌⊎◌, inl, inr, List}
use Rattle.std.proofs.{Common.{[], ◌∷◌, length, set, Some}, lemmas.Bool.{cases_eq, cases_lt}}
use Rattle.std.proofs.lemmas.{Bool.Decides.nat_tests, Option.{get_or_from_slice_get, slice_get_within}, List.get_or-set_same}
use Rattle.std.proofs.lemmas.List.{get_or-set_other, length-set, get_or-map, length-map, length-replicate, get_or-replicate}
use Rattle.std.proofs.lemmas.List.{get_or_past, get_or_default, Elements.{All-cons, All-nil, All-contains}}
use Rattle.std.proofs.lemmas.{List.FromFn.{length-range_with_len, get_or-range_with_len}, Grind.common_steps}
use Rattle.std.specs.{Prelude.{AllPairs, sum, replicate, map}, List.{Contains, range_with_len}}
use Rattle.graph_types.specs.{Graph.Graph, declared.ids.Filter.Filter, Analyses.{LeadsTo, Joins, Walk, IsLevel, IsLabel, IsTable}}
use Rattle.graph_types.specs.Arcs.{Arc, AreWithin, at, IsLowered, IsClosed, level_start, level_below}
use Rattle.graph_types.proofs.{Walks.walk_map, Counts.Contains-first, Counts.Contains-cons, Counts.sub_length}

-- no number is lowered yet
pub lowered_start : (arcs : List (ℕ × ℕ)) (step : ℕ) (first : List ℕ) → IsLowered arcs step first first
lowered_start arcs step first = record {
  size = refl;
  below = λ v. omega arith;
  walked = λ v h. (v, 0, h, refl, omega arith);
}

unit_more : (n step : ℕ) → suc n * step ≡ n * step + step
unit_more n step = omega arith

-- one number is lowered along one arc
pub lowered_more : (arcs : List (ℕ × ℕ)) (step : ℕ) (first numbers : List ℕ) (a b : ℕ) → AreWithin (length first) arcs
    → IsLowered arcs step first numbers
    → Arc arcs a b → at numbers a + step < at numbers b → IsLowered arcs step first (set numbers b (at numbers a + step))
lowered_more arcs step first numbers a b within l arc less =
    let ends = All-contains (λ (e : ℕ × ℕ). (e.0 < length first) × (e.1 < length first)) arcs (a, b) within arc in
    let long = l.size in
    let same : at (set numbers b (at numbers a + step)) b ≡ at numbers a + step =
    get_or-set_same numbers b (at numbers a + step) 0 (let e = ends.1 in omega arith) in
    record {
      size = length-set numbers b (at numbers a + step) ∙ l.size;
      below = λ v. elim (cases_eq v b) [
        | inl e ↦
            let here : at (set numbers b (at numbers a + step)) v ≡ at numbers a + step =
            ap (at (set numbers b (at numbers a + step))) e ∙ same in
            let there : at first v ≡ at first b = ap (at first) e in
            let old = l.below b in
            omega arith
        | inr ne ↦ let here = get_or-set_other numbers b v (at numbers a + step) 0 ne in let old = l.below v in omega arith
      ];
      walked = λ v h. elim (cases_eq v b) [
        | inl e ↦
            let here : at (set numbers b (at numbers a + step)) v ≡ at numbers a + step =
            ap (at (set numbers b (at numbers a + step))) e ∙ same in
            let r = l.walked a ends.0 in
            let is = r.4 in
            let one = unit_more r.1 step in
            (r.0, suc r.1, r.2, (a, r.3, subst (Arc arcs a) (sym e) arc), omega arith)
        | inr ne ↦
            let here = get_or-set_other numbers b v (at numbers a + step) 0 ne in
            let r = l.walked v h in
            let is = r.4 in
            (r.0, r.1, r.2, r.3, omega arith)
      ];
    }

-- and their sum falls
pub sum_falls : (numbers : List ℕ) (b less : ℕ) → b < length numbers → less < at numbers b
    → sum (set numbers b less) < sum numbers
sum_falls numbers b less h lt = grind (arith, common_steps)

-- no number is left to lower, or one is
look : (arcs : List (ℕ × ℕ)) (step : ℕ) (numbers : List ℕ)
    → IsClosed arcs step numbers ⊎ ((a : ℕ) × (b : ℕ) × Arc arcs a b × (at numbers a + step < at numbers b))
look [] step numbers = inl (All-nil (λ arc. at numbers arc.1 ≤ at numbers arc.0 + step))
look (e ∷ arcs) step numbers = elim (cases_lt (at numbers e.0 + step) (at numbers e.1)) [
  | inl lt ↦ inr (e.0, e.1, Contains-first e arcs (e.0, e.1) refl, lt)
  | inr le ↦ elim (look arcs step numbers) [
    | inl closed ↦ inl (All-cons (λ arc. at numbers arc.1 ≤ at numbers arc.0 + step) e arcs le closed)
    | inr r ↦ inr (r.0, r.1, Contains-cons e arcs (r.0, r.1) r.2, r.3)
  ]
]

settle_from : (arcs : List (ℕ × ℕ)) (step : ℕ) (first : List ℕ) → AreWithin (length first) arcs → (k : ℕ) (numbers : List ℕ)
    → sum numbers < k → IsLowered arcs step first numbers
    → (r : List ℕ) × IsLowered arcs step first r × IsClosed arcs step r
settle_from arcs step first within zero numbers few l = absurd (omega arith)
settle_from arcs step first within (suc k) numbers few l = elim (look arcs step numbers) [
  | inl closed ↦ (numbers, l, closed)
  | inr r ↦
      let ends = All-contains (λ (e : ℕ × ℕ). (e.0 < length first) × (e.1 < length first)) arcs (r.0, r.1) within r.2 in
      let long = l.size in
      let falls = sum_falls numbers r.1 (at numbers r.0 + step) (let e = ends.1 in omega arith) r.3 in
      settle_from arcs step first within k (set numbers r.1 (at numbers r.0 + step)) (omega arith)
      (lowered_more arcs step first numbers r.0 r.1 within l r.2 r.3)
]

-- from any numbers at the vertices there is an end of it
pub some_settled : (arcs : List (ℕ × ℕ)) (step : ℕ) (first : List ℕ) → AreWithin (length first) arcs
    → (r : List ℕ) × IsLowered arcs step first r × IsClosed arcs step r
some_settled arcs step first within = settle_from arcs step first within (suc (sum first)) first (omega arith)
    (lowered_start arcs step first)

-- a walk takes a number up by a step for each arc at most
along : (arcs : List (ℕ × ℕ)) (step : ℕ) (numbers : List ℕ) → IsClosed arcs step numbers → (a b n : ℕ) → Walk (Arc arcs) a b n
    → at numbers b ≤ at numbers a + n * step
along arcs step numbers closed a b zero w = let e : at numbers a ≡ at numbers b = ap (at numbers) w in omega arith
along arcs step numbers closed a b (suc n) w =
    let before = along arcs step numbers closed a w.0 n w.1 in
    let here : at numbers b ≤ at numbers w.0 + step =
    All-contains (λ (e : ℕ × ℕ). at numbers e.1 ≤ at numbers e.0 + step) arcs (w.0, b) closed w.2 in
    let one = unit_more n step in
    omega arith

pub level_start_long : (n source : ℕ) → length (level_start n source) ≡ n
level_start_long n source = length-set (replicate n n) source 0 ∙ length-replicate n n

-- The levels: from n at all vertices but 0 at the source, by steps of 1.
module _ (f : Filter) (g : Graph) (source : ℕ) (arcs : List (ℕ × ℕ)) (n : ℕ) (numbers : List ℕ) (leads : (a b : ℕ)
    → LeadsTo f g a b → Arc arcs a b)
    (led : (a b : ℕ) → Arc arcs a b → LeadsTo f g a b) (within : AreWithin n arcs) (vertex : source < n)
    (l : IsLowered arcs 1 (level_start n source) numbers) (closed : IsClosed arcs 1 numbers) where
  first_source : at (level_start n source) source ≡ 0
  first_source = get_or-set_same (replicate n n) source 0 0 (let e = length-replicate n n in omega arith)

  first_other : (u : ℕ) → u < n → (u ≡ source → ⊥) → at (level_start n source) u ≡ n
  first_other u lt ne = get_or-set_other (replicate n n) source u 0 0 ne ∙ get_or-replicate n u n 0 lt

  source_zero : at numbers source ≡ 0
  source_zero = let b = l.below source in let z = first_source in omega arith

  steps : (v k : ℕ) → Walk (LeadsTo f g) source v k → at numbers v ≤ k
  steps v k w =
      let a = along arcs 1 numbers closed source v k (walk_map (LeadsTo f g) (Arc arcs) leads source v k w) in
      let z = source_zero in omega arith

  -- on a walk from the source each number up to the last is met
  climb : (k v : ℕ) → Walk (Arc arcs) source v k → (j : ℕ) → j ≤ at numbers v → Contains numbers j
  climb zero v w j le =
      let z = source_zero in let long = l.size ∙ (level_start_long n source) in
      let e : at numbers source ≡ at numbers v = ap (at numbers) w in
      (source, omega arith, get_or_default numbers source j 0 (omega arith) ∙ omega arith)
  climb (suc k) v w j le =
      let ends = All-contains (λ (e : ℕ × ℕ). (e.0 < n) × (e.1 < n)) arcs (w.0, v) within w.2 in
      let here : at numbers v ≤ at numbers w.0 + 1 =
      All-contains (λ (e : ℕ × ℕ). at numbers e.1 ≤ at numbers e.0 + 1) arcs (w.0, v) closed w.2 in
      let long = l.size ∙ (level_start_long n source) in
      elim (cases_lt j (at numbers v)) [
        | inl lt ↦ climb k w.0 w.1 j (omega arith)
        | inr ge ↦
            let inside : v < length numbers = (let e = ends.1 in omega arith) in
            (v, inside, get_or_default numbers v j 0 inside ∙ omega arith)
      ]

  far : (v : ℕ) → n ≤ at numbers v → (k : ℕ) → Walk (LeadsTo f g) source v k → ⊥
  far v le k w =
      let long = l.size ∙ (level_start_long n source) in
      let all = range_with_len 0 (suc n) in
      let count = length-range_with_len 0 (suc n) in
      let apart : AllPairs (λ a b. a ≢ b) all = λ i j d lt h e.
      let x = get_or-range_with_len 0 (suc n) i d (omega arith) in
      let y = get_or-range_with_len 0 (suc n) j d (omega arith) in
      omega arith in
      let few = sub_length all numbers apart (λ x c.
      let h = c.1 in
      let is = sym (get_or-range_with_len 0 (suc n) c.0 x (omega arith)) ∙ c.2 in
      climb k v (walk_map (LeadsTo f g) (Arc arcs) leads source v k w) x (omega arith)) in
      absurd (omega arith)

  near : (v : ℕ) → v < n → at numbers v < n → IsLevel f g source v (Some (at numbers v))
  near v lt less =
      let long = level_start_long n source in
      let r = l.walked v (omega arith) in
      let is = r.4 in
      let here = r.2 in
      elim (cases_eq r.0 source) [
        | inl e ↦
            let z = first_source in
            let start : at (level_start n source) r.0 ≡ at (level_start n source) source = ap (at (level_start n source)) e in
            let same : r.1 ≡ at numbers v = omega arith in (
              walk_map (Arc arcs) (LeadsTo f g) led source v (at numbers v)
                  (subst (λ k. Walk (Arc arcs) source v k) same (subst (λ u. Walk (Arc arcs) u v r.1) e r.3)),
              steps v,
            )
        | inr ne ↦ let far = first_other r.0 (omega arith) ne in absurd (omega arith)
      ]

  level_at : (v : ℕ) → v < n → IsLevel f g source v (level_below n (at numbers v))
  level_at v lt = grind (arith, common_steps, near, nat_tests, far)

  pub settled_levels : IsTable n (IsLevel f g source) (map (level_below n) numbers)
  settled_levels =
      let long = l.size ∙ (level_start_long n source) in
      record {
        one_each = length-map numbers (level_below n) ∙ long;
        each = λ v x is.
            let h = slice_get_within (map (level_below n) numbers) v x is in
            let m = length-map numbers (level_below n) in
            subst (IsLevel f g source v) (sym (get_or-map (level_below n) numbers v 0 x (omega arith))
            ∙ get_or_from_slice_get (map (level_below n) numbers) v x x is) (level_at v (omega arith));
      }

-- The labels: from each vertex's own number, by steps of 0, both ways along each edge.
module _ (f : Filter) (g : Graph) (arcs : List (ℕ × ℕ)) (n : ℕ) (numbers : List ℕ) (joins : (a b : ℕ) → Joins f g a b
    → Arc arcs a b)
    (joined : (a b : ℕ) → Arc arcs a b → Joins f g a b) (l : IsLowered arcs 0 (range_with_len 0 n) numbers)
    (closed : IsClosed arcs 0 numbers) where
  own : (u : ℕ) → u < n → at (range_with_len 0 n) u ≡ u
  own u lt = let e = get_or-range_with_len 0 n u 0 lt in omega arith

  own_most : (u : ℕ) → at (range_with_len 0 n) u ≤ u
  own_most u = grind (arith, common_steps, cases_lt, own, get_or_past, length-range_with_len)

  label_at : (v : ℕ) → v < n → IsLabel f g v (at numbers v)
  label_at v lt =
      let long = length-range_with_len 0 n in
      let r = l.walked v (omega arith) in
      let is = r.4 in
      let h = r.2 in
      let start = own r.0 (omega arith) in
      let same : r.0 ≡ at numbers v = omega arith in (
        subst (λ u. (k : ℕ) × Walk (Joins f g) u v k) same (r.1, walk_map (Arc arcs) (Joins f g) joined r.0 v r.1 r.3),
        λ w c.
            let a = along arcs 0 numbers closed w v c.0 (walk_map (Joins f g) (Arc arcs) joins w v c.0 c.1) in
            let b = l.below w in
            let o = own_most w in
            omega arith,
      )

  pub settled_labels : IsTable n (IsLabel f g) numbers
  settled_labels =
      let long = l.size ∙ length-range_with_len 0 n in
      record {
        one_each = long;
        each = λ v x is.
            let h = slice_get_within numbers v x is in
            subst (IsLabel f g v) (get_or_from_slice_get numbers v x 0 is) (label_at v (omega arith));
      }
