-- Places among numbers that rise.
use Rattle.std.proofs.Common.{◌≡◌, ℕ, zero, suc, ◌+◌, ◌-◌, ◌<◌, ◌≤◌, List, [], ◌∷◌, length, get_or, if◌then◌else◌, ap, arith, inl}
use Rattle.std.proofs.{Common.{inr, subst, true, false}, lemmas.{Bool.{cases_lt, Decides.leb_tells}, List.Edits.length-insert}}
use Rattle.std.{proofs.lemmas.List.Edits.{get_or-insert_below, get_or-insert_at, get_or-insert_above}, specs.List.insert}
use Rattle.vertex_names.specs.Order.{IsRising, last_place, Bounds}
use lib.Dec.{leb}

pub rising-tail : (x : ℕ) (ns : List ℕ) → IsRising (x ∷ ns) → IsRising ns
rising-tail x ns rising i j lt in_range = rising (suc i) (suc j) (omega arith) (omega arith)

place-yes : (x y : ℕ) (ns : List ℕ) (n : ℕ) → leb y n ≡ true → last_place (x ∷ y ∷ ns) n ≡ suc (last_place (y ∷ ns) n)
place-yes x y ns n is = ap (λ b. if b then suc (last_place (y ∷ ns) n) else 0) is

place-no : (x y : ℕ) (ns : List ℕ) (n : ℕ) → leb y n ≡ false → last_place (x ∷ y ∷ ns) n ≡ 0
place-no x y ns n is = ap (λ b. if b then suc (last_place (y ∷ ns) n) else 0) is

-- the place is there, where one is
pub place_within : (ns : List ℕ) (n : ℕ) → last_place ns n ≤ length ns - 1
place_within (x ∷ y ∷ ns) n = elim (leb_tells y n) [
  | inl low ↦ let e = place-yes x y ns n low.0 in let l = place_within (y ∷ ns) n in omega (arith, e, l)
  | inr high ↦ let e = place-no x y ns n high.0 in omega (arith, e)
]
place_within _ n = omega arith

-- it isn't before a number that isn't above n
pub place_up : (ns : List ℕ) (n m : ℕ) → IsRising ns → m < length ns → get_or ns m 0 ≤ n → m ≤ last_place ns n
place_up ns n zero rising lt le = omega arith
place_up (x ∷ y ∷ ns) n (suc zero) rising lt le = elim (leb_tells y n) [
  | inl low ↦ let e = place-yes x y ns n low.0 in omega (arith, e)
  | inr high ↦ let above : n < y = high.1 in absurd (omega (arith, above))
]
place_up (x ∷ y ∷ ns) n (suc (suc m)) rising lt le = elim (leb_tells y n) [
  | inl low ↦
      let e = place-yes x y ns n low.0 in
      let l = place_up (y ∷ ns) n (suc m) (rising-tail x (y ∷ ns) rising) (omega arith) le in omega (arith, e, l)
  | inr high ↦
      let above : n < y = high.1 in
      let up : y < get_or (x ∷ y ∷ ns) (suc (suc m)) 0 = rising 1 (suc (suc m)) (omega arith) lt in
      absurd (omega (arith, above, up, le))
]
place_up ns n _ rising lt le = absurd (omega arith)

-- it is before each number above n but the first
pub place_down : (ns : List ℕ) (n m : ℕ) → suc m < length ns → n < get_or ns (suc m) 0 → last_place ns n ≤ m
place_down [] n m lt above = absurd (omega arith)
place_down (x ∷ []) n m lt above = omega arith
place_down (x ∷ y ∷ ns) n zero lt above = elim (leb_tells y n) [
  | inl low ↦ let le : y ≤ n = low.1 in absurd (omega (arith, le, above))
  | inr high ↦ let e = place-no x y ns n high.0 in omega (arith, e)
]
place_down (x ∷ y ∷ ns) n (suc m) lt above = elim (leb_tells y n) [
  | inl low ↦
      let e = place-yes x y ns n low.0 in
      let l = place_down (y ∷ ns) n m (omega arith) above in omega (arith, e, l)
  | inr high ↦ let e = place-no x y ns n high.0 in omega (arith, e)
]

-- bounds of the place, at first
pub bounds-all : (ns : List ℕ) (n high : ℕ) → high ≡ length ns → Bounds ns n 0 high
bounds-all ns n high is =
    let w = place_within ns n in record { from = omega arith; before = omega (arith, w, is); order = omega arith }

-- numbers behind the place are above n
pub above_place : (ns : List ℕ) (n m : ℕ) → IsRising ns → m < length ns → last_place ns n < m → n < get_or ns m 0
above_place ns n m rising lt behind = elim (cases_lt n (get_or ns m 0)) [
  | inl above ↦ above
  | inr le ↦ let l = place_up ns n m rising lt le in absurd (omega (arith, l, behind))
]

-- those up to the place aren't, but for the first
pub up_to_place : (ns : List ℕ) (n m : ℕ) → suc m ≤ last_place ns n → get_or ns (suc m) 0 ≤ n
up_to_place ns n m le = elim (cases_lt n (get_or ns (suc m) 0)) [
  | inl above ↦
      let w = place_within ns n in
      let l = place_down ns n m (omega (arith, w, le)) above in absurd (omega (arith, l, le))
  | inr at_most ↦ at_most
]

-- the place where the numbers pass n
pub place_is : (ns : List ℕ) (n m : ℕ) → IsRising ns → m < length ns → (0 < m → get_or ns m 0 ≤ n)
    → (suc m < length ns → n < get_or ns (suc m) 0) → last_place ns n ≡ m
place_is ns n m rising lt here next =
    let w = place_within ns n in
    let up : m ≤ last_place ns n = elim (cases_lt 0 m) [
      | inl some ↦ place_up ns n m rising lt (here some)
      | inr none ↦ omega (arith, none)
    ] in
    let down : last_place ns n ≤ m = elim (cases_lt (suc m) (length ns)) [
      | inl more ↦ place_down ns n m more (next more)
      | inr last ↦ omega (arith, w, last)
    ] in
    omega (arith, up, down)

-- a number in its gap keeps them rising
pub rising_gap : (ns : List ℕ) (p y : ℕ) → IsRising ns → p ≤ length ns → ((j : ℕ) → j < p → get_or ns j 0 < y)
    → ((j : ℕ) → p ≤ j → j < length ns → y < get_or ns j 0) → IsRising (insert ns p y)
rising_gap ns p y rising within before behind i j lt in_range =
    let new = insert ns p y in
    let long = length-insert ns p y within in
    let below : (k : ℕ) → k < p → get_or new k 0 ≡ get_or ns k 0 = λ k less. get_or-insert_below ns p y 0 k less within in
    let here : (k : ℕ) → k ≡ p → get_or new k 0 ≡ y = λ k is. rw is (get_or-insert_at ns p y 0 within) in
    let above : (k : ℕ) → p < k → get_or new k 0 ≡ get_or ns (k - 1) 0 =
    λ k more. subst (λ n. get_or new n 0 ≡ get_or ns (k - 1) 0) {x = k - 1 + 1} (omega arith)
    (get_or-insert_above ns p y 0 (k - 1) (omega arith) within) in
    grind (
      arith,
      below i,
      here i,
      above i,
      below j,
      here j,
      above j,
      rising i j,
      rising i (j - 1),
      rising (i - 1) (j - 1),
      before i,
      behind (j - 1),
    )

-- one more number behind the place that it has
module _ (ns : List ℕ) (p y : ℕ) (rising : IsRising ns) (lt : p < length ns) (over : get_or ns p 0 < y)
    (is : last_place ns y ≡ p) where
  abbrev pub new : List ℕ
  new = insert ns (suc p) y

  long : length new ≡ length ns + 1
  long = length-insert ns (suc p) y (omega (arith, lt))

  below : (k : ℕ) → k ≤ p → get_or new k 0 ≡ get_or ns k 0
  below k le = get_or-insert_below ns (suc p) y 0 k (omega (arith, le)) (omega (arith, lt))

  here : get_or new (suc p) 0 ≡ y
  here = get_or-insert_at ns (suc p) y 0 (omega (arith, lt))

  above : (k : ℕ) → suc p ≤ k → get_or new (suc k) 0 ≡ get_or ns k 0
  above k le = subst (λ (n : ℕ). get_or new n 0 ≡ get_or ns k 0) {x = k + 1} (omega arith)
      (get_or-insert_above ns (suc p) y 0 k le (omega (arith, lt)))

  lower : (j : ℕ) → j < suc p → get_or ns j 0 < y
  lower j less = elim (cases_lt j p) [
    | inl before ↦ let q = rising j p before lt in omega (arith, q, over)
    | inr at ↦ let q : j ≡ p = omega (arith, at, less) in let v = ap (λ n. get_or ns n 0) q in omega (arith, v, over)
  ]

  pub rising-insert : IsRising new
  rising-insert = rising_gap ns (suc p) y rising (omega (arith, lt)) lower
      (λ j le in_range. above_place ns y j rising in_range (omega (arith, is, le)))

  -- what is before the place, at it, or behind it then
  pub place-before : (n : ℕ) → last_place ns n < p → last_place new n ≡ last_place ns n
  place-before n before =
      let k = last_place ns n in
      place_is new n k rising-insert (omega (arith, before, long, lt))
      (λ some. let up : get_or ns (suc (k - 1)) 0 ≤ n = up_to_place ns n (k - 1) (omega (arith, some)) in
      let e : suc (k - 1) ≡ k = omega (arith, some) in
      let v = ap (λ m. get_or ns m 0) e in let b = below k (omega (arith, before)) in omega (arith, up, v, b))
      (λ more. let u = above_place ns n (suc k) rising (omega (arith, before, lt)) (omega arith) in
      let b = below (suc k) (omega (arith, before)) in omega (arith, u, b))

  pub place-lower : (n : ℕ) → last_place ns n ≡ p → n < y → last_place new n ≡ p
  place-lower n at less =
      place_is new n p rising-insert (omega (arith, long, lt))
      (λ some. let up : get_or ns (suc (p - 1)) 0 ≤ n = up_to_place ns n (p - 1) (omega (arith, some, at)) in
      let e : suc (p - 1) ≡ p = omega (arith, some) in
      let v = ap (λ m. get_or ns m 0) e in let b = below p (omega arith) in omega (arith, up, v, b))
      (λ more. let h = here in omega (arith, less, h))

  pub place-upper : (n : ℕ) → last_place ns n ≡ p → y ≤ n → last_place new n ≡ suc p
  place-upper n at le =
      place_is new n (suc p) rising-insert (omega (arith, long, lt))
      (λ some. let h = here in omega (arith, le, h))
      (λ more. let u = above_place ns n (suc p) rising (omega (arith, more, long)) (omega (arith, at)) in
      let b = above (suc p) (omega arith) in omega (arith, u, b))

  pub place-behind : (n : ℕ) → p < last_place ns n → last_place new n ≡ suc (last_place ns n)
  place-behind n behind =
      let k = last_place ns n in
      let w = place_within ns n in
      place_is new n (suc k) rising-insert (omega (arith, long, lt, w, behind))
      (λ some. let up : get_or ns (suc (k - 1)) 0 ≤ n = up_to_place ns n (k - 1) (omega (arith, behind)) in
      let e : suc (k - 1) ≡ k = omega (arith, behind) in
      let v = ap (λ m. get_or ns m 0) e in let b = above k (omega (arith, behind)) in omega (arith, up, v, b))
      (λ more. let u = above_place ns n (suc k) rising (omega (arith, more, long)) (omega arith) in
      let b = above (suc k) (omega (arith, behind)) in omega (arith, u, b))
