-- What stands at a hash among pairs whose hashes rise, and what an edit of the pairs does to it.
use Rattle.std.proofs.Common.{◌≡◌, ◌≢◌, ℕ, zero, suc, ◌+◌, ◌<◌, ◌≤◌, List, [], ◌∷◌, length, get_or, set, take, drop}
use Rattle.std.proofs.{Common.{if◌then◌else◌, ◌-◌, Some, None, refl, sym, ap, ◌∙◌, arith, nat_eq, inl, inr}, lemmas.Bool.cases_lt}
use Rattle.std.proofs.lemmas.{Bool.Decides.nat_tests, List.{length-map, get_or-map, get_or-take, get_or-drop, length-take}}
use Rattle.std.{proofs.{lemmas.List.length-drop, Math.Seq.map-set_same}, specs.{List.insert, Map.lookup}}
use Rattle.graph_types.proofs.ListPlaces.{map-insert}
use Rattle.vertex_names.specs.Order.{Bounds, firsts, IsRising, IsFoundAt, IsGap, last_place}
use Rattle.vertex_names.proofs.Places.{rising-tail, rising_gap, above_place, up_to_place, place_up, place_down}

abbrev pub Pairs : Type 0
Pairs = List (ℕ × ℕ)

abbrev pub key : Pairs → ℕ → ℕ
key es i = get_or (firsts es) i 0

-- no pair before a place has the hash
abbrev pub NoneBefore : Pairs → ℕ → ℕ → Type 0
NoneBefore es q i = (j : ℕ) → j < i → key es j ≢ q

tail-none : (x : ℕ × ℕ) (es : Pairs) (q i : ℕ) → NoneBefore (x ∷ es) q (suc i) → NoneBefore es q i
tail-none x es q i none j lt = none (suc j) (omega arith)

tail-at : (x : ℕ × ℕ) (es : Pairs) (q i : ℕ) → IsFoundAt (x ∷ es) q (suc i) → IsFoundAt es q i
tail-at x es q i at = record { within = omega (arith, at.within); same = at.same }

pub lookup_absent : (es : Pairs) (q : ℕ) → NoneBefore es q (length es) → lookup (nat_eq q) es ≡ None
lookup_absent [] q none = refl
lookup_absent (x ∷ es) q none =
    grind (arith, nat_tests, none 0 (omega arith), lookup_absent es q (tail-none x es q _ none))

pub lookup_present : (es : Pairs) (q i : ℕ) → IsFoundAt es q i → NoneBefore es q i → lookup (nat_eq q) es ≡ Some (get_or es i (0, 0)).1
lookup_present [] q i at none = absurd (omega (arith, at.within))
lookup_present (x ∷ es) q zero at none = grind (arith, nat_tests, at.same)
lookup_present (x ∷ es) q (suc i) at none =
    grind (arith, nat_tests, none 0 (omega arith), lookup_present es q i (tail-at x es q i at) (tail-none x es q i none))

-- a new number at the hash
pub lookup-set : (es : Pairs) (h v i : ℕ) → IsFoundAt es h i → NoneBefore es h i → (q : ℕ)
    → lookup (nat_eq q) (set es i (h, v)) ≡ (if nat_eq h q then Some v else lookup (nat_eq q) es)
lookup-set [] h v i at none q = absurd (omega (arith, at.within))
lookup-set (x ∷ es) h v zero at none q = grind (arith, nat_tests, at.same)
lookup-set (x ∷ es) h v (suc i) at none q =
    grind (arith, nat_tests, none 0 (omega arith), lookup-set es h v i (tail-at x es h i at) (tail-none x es h i none) q)

-- a new pair where no other before it has the hash
pub lookup-insert : (es : Pairs) (h v i : ℕ) → NoneBefore es h i → (q : ℕ)
    → lookup (nat_eq q) (insert es i (h, v)) ≡ (if nat_eq h q then Some v else lookup (nat_eq q) es)
lookup-insert es h v zero none q = grind (arith, nat_tests)
lookup-insert [] h v (suc i) none q = grind (arith, nat_tests)
lookup-insert (x ∷ es) h v (suc i) none q =
    grind (arith, nat_tests, none 0 (omega arith), lookup-insert es h v i (tail-none x es h i none) q)

pub firsts-insert : {X : Type 0} (es : List (ℕ × X)) (i : ℕ) (x : ℕ × X) → firsts (insert es i x) ≡ insert (firsts es) i x.0
firsts-insert es i x = map-insert (λ e. e.0) es i x

pub firsts-take : {X : Type 0} (n : ℕ) (es : List (ℕ × X)) → firsts (take n es) ≡ take n (firsts es)
firsts-take (suc n) (e ∷ es) = ap (λ l. e.0 ∷ l) (firsts-take n es)
firsts-take _ es = refl

pub firsts-drop : {X : Type 0} (n : ℕ) (es : List (ℕ × X)) → firsts (drop n es) ≡ drop n (firsts es)
firsts-drop (suc n) (e ∷ es) = firsts-drop n es
firsts-drop _ es = refl

rising_take : (ns : List ℕ) (n : ℕ) → IsRising ns → IsRising (take n ns)
rising_take ns n rising i j lt in_range =
    let long = length-take n ns in
    let a = get_or-take n ns i 0 (omega (arith, long, lt, in_range)) in
    let b = get_or-take n ns j 0 (omega (arith, long, in_range)) in
    let r = rising i j lt (omega (arith, long, in_range)) in omega (arith, a, b, r)

rising_drop : (ns : List ℕ) (n : ℕ) → IsRising ns → IsRising (drop n ns)
rising_drop ns n rising i j lt in_range =
    let long = length-drop n ns in
    let a = get_or-drop n ns i 0 in
    let b = get_or-drop n ns j 0 in
    let r = rising (n + i) (n + j) (omega (arith, lt)) (omega (arith, long, in_range)) in omega (arith, a, b, r)

pub rising-take : (es : Pairs) (n : ℕ) → IsRising (firsts es) → IsRising (firsts (take n es))
rising-take es n rising = rw (firsts-take n es) (rising_take (firsts es) n rising)

pub rising-drop : (es : Pairs) (n : ℕ) → IsRising (firsts es) → IsRising (firsts (drop n es))
rising-drop es n rising = rw (firsts-drop n es) (rising_drop (firsts es) n rising)

-- a hash below the one at a place stands before the place, if anywhere
pub lookup-take : (es : Pairs) (n q : ℕ) → IsRising (firsts es) → n < length es → q < key es n
    → lookup (nat_eq q) (take n es) ≡ lookup (nat_eq q) es
lookup-take [] n q rising lt less = absurd (omega arith)
lookup-take (x ∷ es) zero q rising lt less =
    sym (lookup_absent (x ∷ es) q (λ j in_range same. elim (cases_lt 0 j) [
      | inl up ↦
          let long = length-map (x ∷ es) (λ (p : ℕ × ℕ). p.0) in
          let r = rising 0 j up (omega (arith, long, in_range)) in omega (arith, r, less, same)
      | inr none ↦
          let e : j ≡ 0 = omega (arith, none) in
          let v = ap (λ i. key (x ∷ es) i) e in omega (arith, v, less, same)
    ]))
lookup-take (x ∷ es) (suc n) q rising lt less =
    let rest = lookup-take es n q (rising-tail x.0 (firsts es) rising) (omega arith) less in
    ap (λ r. if nat_eq q x.0 then Some x.1 else r) rest

pub lookup-drop : (es : Pairs) (n q : ℕ) → IsRising (firsts es) → n < length es → key es n ≤ q
    → lookup (nat_eq q) (drop n es) ≡ lookup (nat_eq q) es
lookup-drop [] n q rising lt le = absurd (omega arith)
lookup-drop (x ∷ es) zero q rising lt le = refl
lookup-drop (x ∷ es) (suc n) q rising lt le =
    let long = length-map (x ∷ es) (λ (p : ℕ × ℕ). p.0) in
    let up = rising 0 (suc n) (omega arith) (omega (arith, long, lt)) in
    let rest = lookup-drop es n q (rising-tail x.0 (firsts es) rising) (omega arith) le in
    grind (arith, nat_tests, up, le, rest)

pub firsts_long : {X : Type 0} (xs : List (ℕ × X)) → length (firsts xs) ≡ length xs
firsts_long {X} xs = length-map xs (λ (p : ℕ × X). p.0)

pub first_read : {X : Type 0} (xs : List (ℕ × X)) (i : ℕ) (x : ℕ × X) → i < length xs → x ≡ get_or xs i x
    → get_or (firsts xs) i 0 ≡ x.0
first_read {X} xs i x lt is =
    get_or-map (λ (p : ℕ × X). p.0) xs i x 0 lt ∙ ap (λ (p : ℕ × X). p.0) (sym is)

pub first_at : {X : Type 0} (xs : List (ℕ × X)) (i : ℕ) (x : ℕ × X) → i < length xs → get_or (firsts xs) i 0 ≡ (get_or xs i x).0
first_at {X} xs i x lt = get_or-map (λ (p : ℕ × X). p.0) xs i x 0 lt

-- bounds of a hash's place are narrowed by a pair between them
module _ {X : Type 0} (pairs : List (ℕ × X)) (q low high m : ℕ) (x : ℕ × X) (bounds : Bounds (firsts pairs) q low high)
    (within : high ≤ length pairs) (less : m < high) where
  pub bounds-up : IsRising (firsts pairs) → (get_or pairs m x).0 ≤ q → Bounds (firsts pairs) q m high
  bounds-up rising le =
      let long = firsts_long pairs in
      let read = first_at pairs m x (omega arith) in
      record { from = place_up (firsts pairs) q m rising (omega arith) (omega arith); before = bounds.before; order = omega arith }

  pub bounds-down : low < m → q < (get_or pairs m x).0 → Bounds (firsts pairs) q low m
  bounds-down more above =
      let long = firsts_long pairs in
      let read = first_at pairs m x (omega arith) in
      let is : suc (m - 1) ≡ m = omega arith in
      let there = ap (λ k. get_or (firsts pairs) k 0) is in
      record {
        from = bounds.from;
        before = place_down (firsts pairs) q (m - 1) (omega arith) (omega arith);
        order = omega arith;
      }

-- where the search of a hash ends
module _ (es : Pairs) (rising : IsRising (firsts es)) (q i : ℕ) where
  before_at : IsFoundAt es q i → NoneBefore es q i
  before_at at j lt same =
      let long = length-map es (λ (p : ℕ × ℕ). p.0) in
      let r = rising j i lt (omega (arith, long, at.within)) in
      let here = at.same in omega (arith, r, here, same)

  pub found : IsFoundAt es q i → lookup (nat_eq q) es ≡ Some (get_or es i (0, 0)).1
  found at = lookup_present es q i at (before_at at)

  pub put-found : IsFoundAt es q i → (v r : ℕ)
      → lookup (nat_eq r) (set es i (q, v)) ≡ (if nat_eq q r then Some v else lookup (nat_eq r) es)
  put-found at v r = lookup-set es q v i at (before_at at) r

  pub rising-found : IsFoundAt es q i → (v : ℕ) → IsRising (firsts (set es i (q, v)))
  rising-found at v =
      let read : get_or (firsts es) i 0 ≡ (get_or es i (0, 0)).0 = get_or-map (λ (p : ℕ × ℕ). p.0) es i (0, 0) 0 at.within in
      rw (map-set_same (λ (p : ℕ × ℕ). p.0) es i (q, v) (0, 0) (sym at.same ∙ read)) rising

  pub missing : IsGap es q i → lookup (nat_eq q) es ≡ None
  missing gap = lookup_absent es q (λ j lt same. elim (cases_lt j i) [
    | inl low ↦ let b = gap.before j low in omega (arith, b, same)
    | inr high ↦ let b = gap.behind j high lt in omega (arith, b, same)
  ])

  pub put-missing : IsGap es q i → (v r : ℕ)
      → lookup (nat_eq r) (insert es i (q, v)) ≡ (if nat_eq q r then Some v else lookup (nat_eq r) es)
  put-missing gap v r = lookup-insert es q v i (λ j lt same. let b = gap.before j lt in omega (arith, b, same)) r

  pub rising-missing : IsGap es q i → (v : ℕ) → IsRising (firsts (insert es i (q, v)))
  rising-missing gap v =
      let long = length-map es (λ (p : ℕ × ℕ). p.0) in
      let within = gap.within in
      rw (firsts-insert es i (q, v)) (rising_gap (firsts es) i q rising (omega (arith, long, within)) gap.before
      (λ j le lt. gap.behind j le (omega (arith, long, lt))))

-- what the last pair that isn't above a hash tells
module _ (es : Pairs) (rising : IsRising (firsts es)) (q place : ℕ) (is : place ≡ last_place (firsts es) q) (pair : ℕ × ℕ)
    (within : place < length es) (at : pair ≡ get_or es place pair) where
  long : length (firsts es) ≡ length es
  long = firsts_long es

  here : key es place ≡ pair.0
  here = first_read es place pair within at

  pub search-less : pair.0 < q → IsGap es q (place + 1)
  search-less less =
      record {
        within = omega (arith, within);
        before = λ j lt. elim (cases_lt j place) [
          | inl low ↦ let r = rising j place low (omega (arith, long, within)) in let h = here in omega (arith, r, h, less)
          | inr high ↦
              let e : j ≡ place = omega (arith, lt, high) in
              let v = ap (λ i. key es i) e in let h = here in omega (arith, v, h, less)
        ];
        behind = λ j le j_range.
            let l = long in above_place (firsts es) q j rising (omega (arith, l, j_range)) (omega (arith, is, le));
      }

  pub search-more : q < pair.0 → IsGap es q 0
  search-more more =
      let h = here in
      let l = long in
      let zeroth : place ≡ 0 = elim (cases_lt 0 place) [
        | inl some ↦
            let up = up_to_place (firsts es) q (place - 1) (omega (arith, is, some)) in
            let e : suc (place - 1) ≡ place = omega (arith, some) in
            let v = ap (λ i. key es i) e in absurd (omega (arith, up, v, h, more))
        | inr none ↦ omega (arith, none)
      ] in
      record {
        within = omega arith;
        before = λ j lt. absurd (omega (arith, lt));
        behind = λ j le j_range. elim (cases_lt 0 j) [
          | inl some ↦ above_place (firsts es) q j rising (omega (arith, l, j_range)) (omega (arith, is, zeroth, some))
          | inr none ↦
              let e : j ≡ place = omega (arith, none, zeroth) in
              let v = ap (λ i. key es i) e in omega (arith, v, h, more)
        ];
      }
