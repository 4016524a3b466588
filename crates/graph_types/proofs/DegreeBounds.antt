-- How many edges a vertex can have: where each key stands once, at most one for each kind and each other end,
-- so one for each place. And how large the sum of their weights can be.
use Rattle.std.proofs.Common.{◌≡◌, ℕ, zero, suc, ◌+◌, ◌*◌, ◌^◌, ◌<◌, ◌≤◌, Bool, true, false, cond, ◌&&◌, eqb, ltb, List, [], ◌∷◌}
use Rattle.std.proofs.{Common.{get_or, map, ℤ, pos, ◌+ℤ◌, nat_abs, refl, sym, subst, ap, ◌∙◌, arith}, lemmas.Int.ints}
use Rattle.std.proofs.{Math.Nat.{mul_comm, suc-mul}, Math.Numerals.add-one, lemmas.Nat.mul-le}
use Rattle.std.proofs.lemmas.List.Sums.{sum_by-cons, sum_by-le-sum_by, sum_by-le}
use Rattle.std.{proofs.lemmas.List.Elements.All-tail, specs.Prelude.{count_by, sum_by, filter, fold, All}}
use Rattle.std.proofs.lemmas.Grind.{common_steps}
use Rattle.graph_types.specs.{Graph.{Key, entry_of}, Limits.{IsWeightIn, SumsFit, most_places}, View.{in_view, leaves, enters}}
use Rattle.graph_types.specs.{Degrees.{listed_degree, HasDegreeRoom}, declared.ids.{Edge.Edge, Filter.Filter}}
use Rattle.graph_types.proofs.{Keys.HasKeysOnce, Keys.is_key_of, Keys.count_key, Folds.fold_from}

step_up : (b : Bool) (c k : ℕ) → cond (b && ltb c (suc k)) 1 0 ≤ cond (b && ltb c k) 1 0 + cond (b && eqb c k) 1 0
step_up h0 c k = grind (arith, common_steps)

none_below : (b : Bool) (c : ℕ) → cond (b && ltb c 0) 1 0 ≤ 0
none_below h0 c = grind (arith, common_steps)

one_within : (b : Bool) (c n : ℕ) → c < n → cond b 1 0 ≤ cond (b && ltb c n) 1 0
one_within h0 c n h = grind (arith, common_steps)

module _ {X : Type 0} where
  sum_by-add : (f g : X → ℕ) (xs : List X) → sum_by (λ x. f x + g x) xs ≡ sum_by f xs + sum_by g xs
  sum_by-add f g [] = refl
  sum_by-add f g (x ∷ xs) =
      omega (arith, sum_by-add f g xs, sum_by-cons (λ y. f y + g y) x xs, sum_by-cons f x xs, sum_by-cons g x xs)

  -- at most so many of each number below n
  crowd_below : (p : X → Bool) (number : X → ℕ) (each : ℕ) (xs : List X)
      → ((k : ℕ) → count_by (λ x. p x && eqb (number x) k) xs ≤ each) → (n : ℕ)
      → count_by (λ x. p x && ltb (number x) n) xs ≤ n * each
  crowd_below p number each xs few zero =
      let none = sum_by-le (λ x. cond (p x && ltb (number x) 0) 1 0) 0 xs
      (λ k d h. none_below (p (get_or xs k d)) (number (get_or xs k d))) in
      omega arith
  crowd_below p number each xs few (suc n) =
      let below : X → ℕ = λ x. cond (p x && ltb (number x) n) 1 0 in
      let here : X → ℕ = λ x. cond (p x && eqb (number x) n) 1 0 in
      let split = sum_by-le-sum_by (λ x. cond (p x && ltb (number x) (suc n)) 1 0) (λ x. below x + here x) xs
      (λ x. step_up (p x) (number x) n) in
      omega (arith, split, sum_by-add below here xs, crowd_below p number each xs few n, few n)

  within_below : (p : X → Bool) (number : X → ℕ) (n : ℕ) (xs : List X) → All (λ x. number x < n) xs
      → count_by p xs ≤ count_by (λ x. p x && ltb (number x) n) xs
  within_below p number n [] within = omega arith
  within_below p number n (x ∷ xs) within =
      let whole = sum_by-cons (λ y. cond (p y) 1 0) x xs in
      let below = sum_by-cons (λ y. cond (p y && ltb (number y) n) 1 0) x xs in
      let rest = within_below p number n xs (All-tail (λ y. number y < n) x xs within) in
      let first = one_within (p x) (number x) n (within 0 x (omega arith)) in
      omega (arith, whole, below, rest, first)

  -- a pigeonhole: each of those that pass has a number below n, and at most so many have the same
  pub crowd : (p : X → Bool) (number : X → ℕ) (each n : ℕ) (xs : List X)
      → ((k : ℕ) → count_by (λ x. p x && eqb (number x) k) xs ≤ each) → All (λ x. number x < n) xs → count_by p xs ≤ n * each
  crowd p number each n xs few within = omega (arith, within_below p number n xs within, crowd_below p number each xs few n)

-- of the edges that pass, at most one for each kind and each other end
pub crowd_of_edges : (p : Edge → Bool) (other : Edge → ℕ) (n m : ℕ) (es : List Edge)
    → ((k v : ℕ) → count_by (λ e. (p e && eqb e.kind.0 k) && eqb (other e) v) es ≤ 1) → All (λ e. e.kind.0 < m) es
    → All (λ e. other e < n) es → count_by p es ≤ n * m
crowd_of_edges p other n m es few kinds others =
    let of_kind : (k : ℕ) → count_by (λ e. p e && eqb e.kind.0 k) es ≤ n =
    λ k. omega (arith, crowd (λ e. p e && eqb e.kind.0 k) other 1 n es (few k) others) in
    subst (λ most. count_by p es ≤ most) (mul_comm m n) (crowd p (λ e. e.kind.0) n m es of_kind kinds)

pub one_where : (a b : Bool) → (a ≡ true → b ≡ true) → cond a 1 0 ≤ cond b 1 0
one_where h0 b then = grind (arith, common_steps)

-- at most one edge passes where each that does has the same key
passes_once : (passes : Edge → Bool) (key : Key) (es : List Edge) → HasKeysOnce es
    → ((e : Edge) → passes e ≡ true → is_key_of key e ≡ true) → count_by passes es ≤ 1
passes_once passes key es once same =
    let fewer = sum_by-le-sum_by (λ e. cond (passes e) 1 0) (λ e. cond (is_key_of key e) 1 0) es
    (λ e. one_where _ _ (same e)) in
    omega (arith, fewer, count_key key es once)

-- what an edge that passes four tests passes
last_three : (a b c d : Bool) → (((a && b) && c) && d) ≡ true → (b ≡ true) × (c ≡ true) × (d ≡ true)
last_three a b c d passes = grind (arith, common_steps)

has_key : (k s t : ℕ) (e : Edge) → eqb e.kind.0 k ≡ true → eqb e.source.0 s ≡ true → eqb e.target.0 t ≡ true
    → is_key_of (record { kind = k; source = s; target = t }) e ≡ true
has_key k s t e kind source target = grind (arith, common_steps)

leaves_once : (f : Filter) (v : ℕ) (es : List Edge) → HasKeysOnce es → (k t : ℕ)
    → count_by (λ e. (leaves f v (entry_of e) && eqb e.kind.0 k) && eqb e.target.0 t) es ≤ 1
leaves_once f v es once k t =
    passes_once (λ e. (leaves f v (entry_of e) && eqb e.kind.0 k) && eqb e.target.0 t) _ es once (λ e passes.
    let (source, kind, target) = last_three (in_view f (entry_of e)) _ _ _ passes in has_key k v t e kind source target)

enters_once : (f : Filter) (v : ℕ) (es : List Edge) → HasKeysOnce es → (k s : ℕ)
    → count_by (λ e. (enters f v (entry_of e) && eqb e.kind.0 k) && eqb e.source.0 s) es ≤ 1
enters_once f v es once k s =
    passes_once (λ e. (enters f v (entry_of e) && eqb e.kind.0 k) && eqb e.source.0 s) _ es once (λ e passes.
    let (target, kind, source) = last_three (in_view f (entry_of e)) _ _ _ passes in has_key k s v e kind source target)

-- one edge more is one weight more
one_more : (n most : ℕ) → (n + 1) * most ≡ n * most + most
one_more n most = ap (λ k. k * most) (add-one n) ∙ suc-mul n most

abs_add : (a b : ℤ) → nat_abs (a +ℤ b) ≤ nat_abs a + nat_abs b
abs_add a b = grind (arith, common_steps)

sum_within : (p : Edge → Bool) (most : ℕ) (es : List Edge) → All (λ e. IsWeightIn most e.weight) es
    → nat_abs (fold ◌+ℤ◌ (pos 0) (map (λ e. e.weight) (filter p es))) ≤ count_by p es * most
sum_within p most [] within = omega arith
sum_within p most (e ∷ es) within =
    let rest = sum_within p most es (All-tail (λ (x : Edge). IsWeightIn most x.weight) e es within) in
    let first : nat_abs e.weight ≤ most = within 0 e (omega arith) in
    let whole = sum_by-cons (λ (x : Edge). cond (p x) 1 0) e es in
    elim (p e) as (λ b. count_by p (e ∷ es) ≡ cond b 1 0 + count_by p es
    → nat_abs (fold ◌+ℤ◌ (pos 0) (map (λ (x : Edge). x.weight) (cond b (e ∷ filter p es) (filter p es)))) ≤ count_by p
    (e ∷ es) * most) [
      | true ↦ λ w.
          let later : ℤ = fold ◌+ℤ◌ (pos 0) (map (λ (x : Edge). x.weight) (filter p es)) in
          let sum : fold ◌+ℤ◌ (pos 0 +ℤ e.weight) (map (λ (x : Edge). x.weight) (filter p es)) ≡ e.weight +ℤ later =
          omega (arith, ints, fold_from (pos 0 +ℤ e.weight) (map (λ (x : Edge). x.weight) (filter p es))) in
          let count : count_by p (e ∷ es) ≡ count_by p es + 1 = omega arith in
          let more : count_by p (e ∷ es) * most ≡ count_by p es * most + most =
          ap (λ n. n * most) count ∙ one_more (count_by p es) most in
          subst (λ z. nat_abs z ≤ count_by p (e ∷ es) * most) (sym sum) (omega (arith, abs_add e.weight later, more))
      | false ↦ λ w.
          let count : count_by p es ≡ count_by p (e ∷ es) = omega arith in
          subst (λ n. nat_abs (fold ◌+ℤ◌ (pos 0) (map (λ (x : Edge). x.weight) (filter p es))) ≤ n * most) count rest
    ] whole

-- degrees over as many edges as there are places have room for one more
room_for : (n m most count : ℕ) → count ≤ n * m → SumsFit (n * m) most → count * most + most < 2 ^ 63
room_for n m most count few sums =
    let less : (count + 1) * most ≤ (n * m + 1) * most = mul-le (count + 1) most (n * m + 1) most (omega arith) (omega arith) in
    omega (arith, less, one_more count most, sums)

-- the degrees of a vertex over some edges, of which each key is listed once, have room for one edge more
pub degree_within : (f : Filter) (es : List Edge) (n m v most weight : ℕ) → n * m ≤ most_places → SumsFit (n * m) most
    → weight ≤ most → HasKeysOnce es → All (λ e. e.kind.0 < m) es → All (λ e. e.source.0 < n) es → All (λ e. e.target.0 < n) es
    → All (λ e. IsWeightIn most e.weight) es → HasDegreeRoom weight (listed_degree f es v)
degree_within f es n m v most weight places sums light once kinds sources targets weights =
    let outgoing = crowd_of_edges (λ e. leaves f v (entry_of e)) (λ e. e.target.0) n m es (leaves_once f v es once) kinds targets in
    let incoming = crowd_of_edges (λ e. enters f v (entry_of e)) (λ e. e.source.0) n m es (enters_once f v es once) kinds sources in
    let sum = sum_within (λ e. leaves f v (entry_of e)) most es weights in
    let room = room_for n m most (count_by (λ e. leaves f v (entry_of e)) es) outgoing sums in
    record {
      outgoing = omega (arith, outgoing, places);
      incoming = omega (arith, incoming, places);
      out_weight = omega (arith, sum, room, light);
    }
