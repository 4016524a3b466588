-- What numbered rows leave at a key, and that a stable sort by edges changes nothing of it.
use Rattle.std.proofs.Common.{◌≡◌, ℕ, Bool, true, false, cond, List, [], ◌∷◌, ◌++◌, filter, refl, sym, ap, ◌∙◌, nat_cmp, is_lt, arith, Option}
use Rattle.std.proofs.lemmas.{Grind.common_steps, Bool.Decides.nat_tests}
use Rattle.std.specs.{List.Sorted.{ties, IsStableBy}, Ordering.eq_by_cmp, FinMap.{FinMap, get, same_map}}
use Rattle.graph_types.specs.{Graph.{Key, Stamp, key_cmp}, Step.{stamp_after}}
use Rattle.graph_types.proofs.{Keys.{keys_total, exact_keys}, WeightsKept.set_at_get}
use Rattle.batch_columns.specs.Operations.{OperationTable}
use Rattle.opening_columns.specs.{Puts.{put_key, row_change, after_put, after_puts, key_number}, declared.numbering.Put.Put}

module _ (t : OperationTable) (most : ℕ) where
  -- what rows leave of what stands at their key
  abbrev stamps : List Put → Option Stamp → Option Stamp
  stamps [] s = s
  stamps (p ∷ ps) s = stamps ps (stamp_after (row_change t most p.place) s)

  abbrev is_on : Key → Put → Bool
  is_on q p = eq_by_cmp key_cmp q (put_key p)

  one : (p : Put) (ps : List Put) (m : FinMap key_cmp Stamp) (q : Key) (b : Bool) → is_on q p ≡ b
      → stamps (filter (is_on q) ps) (cond b (stamp_after (row_change t most p.place) (get m (put_key p))) (get m q))
      ≡ stamps (cond b (p ∷ filter (is_on q) ps) (filter (is_on q) ps)) (get m q)
  one p ps m q true is =
      ap (λ (k : Key). stamps (filter (is_on q) ps) (stamp_after (row_change t most p.place) (get m k))) (sym (exact_keys_at q p is))
    where
      exact_keys_at : (q : Key) (p : Put) → is_on q p ≡ true → q ≡ put_key p
      exact_keys_at q p is = grind (arith, common_steps, exact_keys)
  one p ps m q false is = refl

  -- at a key stands what the rows on it leave
  pub stands_after : (ps : List Put) (m : FinMap key_cmp Stamp) (q : Key)
      → get (after_puts t most ps m) q ≡ stamps (filter (is_on q) ps) (get m q)
  stands_after [] m q = refl
  stands_after (p ∷ ps) m q =
      stands_after ps (after_put t most p m) q
      ∙ ap (stamps (filter (is_on q) ps)) (set_at_get m (put_key p) (stamp_after (row_change t most p.place) (get m (put_key p))) q)
      ∙ one p ps m q (is_on q p) refl

  -- rows of which each key's are the same in the same order leave the same
  pub same_after : (xs ys : List Put) (m : FinMap key_cmp Stamp) → ((q : Key) → filter (is_on q) ys ≡ filter (is_on q) xs)
      → after_puts t most ys m ≡ after_puts t most xs m
  same_after xs ys m same = same_map keys_total exact_keys _ _ (λ q.
      stands_after ys m q ∙ ap (λ ps. stamps ps (get m q)) (same q) ∙ sym (stands_after xs m q))

filter_within : {A : Type 0} (f g : A → Bool) → ((x : A) → f x ≡ true → g x ≡ true) → (xs : List A)
    → filter f (filter g xs) ≡ filter f xs
filter_within f g within [] = refl
filter_within f g within (x ∷ xs) =
    elim (f x) as (λ b. f x ≡ b → filter f (cond (g x) (x ∷ filter g xs) (filter g xs)) ≡ cond b (x ∷ filter f xs) (filter f xs)) [
      | true ↦ λ is.
          ap (λ b. filter f (cond b (x ∷ filter g xs) (filter g xs))) (within x is)
          ∙ ap (λ b. cond b (x ∷ filter f (filter g xs)) (filter f (filter g xs))) is
          ∙ ap (λ l. x ∷ l) (filter_within f g within xs)
      | false ↦ λ is.
          elim (g x) as (λ c. filter f (cond c (x ∷ filter g xs) (filter g xs)) ≡ filter f xs) [
            | true ↦ ap (λ b. cond b (x ∷ filter f (filter g xs)) (filter f (filter g xs))) is ∙ filter_within f g within xs
            | false ↦ filter_within f g within xs
          ]
    ] refl

abbrev pub put_number : Put → ℕ
put_number p = key_number (put_key p)

abbrev pub by_number : Put → Put → Bool
by_number x y = is_lt (nat_cmp (put_number x) (put_number y))

ties_at : (m n : ℕ) → m ≡ n → ties (λ x y. is_lt (nat_cmp x y)) m n ≡ true
ties_at m n is = grind (arith, nat_tests)

-- a row on a key
abbrev put_on : Key → Put
put_on q = record { source = q.source; target = q.target; place = 0; kind = record { 0 = q.kind } }

tie : (q : Key) (p : Put) → eq_by_cmp key_cmp q (put_key p) ≡ true → ties by_number (put_on q) p ≡ true
tie q p is = ties_at (put_number (put_on q)) (put_number p) (ap key_number (same q p is)) where
  same : (q : Key) (p : Put) → eq_by_cmp key_cmp q (put_key p) ≡ true → q ≡ put_key p
  same q p is = grind (arith, common_steps, exact_keys)

-- so a stable sort by edges leaves the same
pub sorted_after : (t : OperationTable) (most : ℕ) (xs ys : List Put) (m : FinMap key_cmp Stamp) → IsStableBy by_number xs ys
    → after_puts t most ys m ≡ after_puts t most xs m
sorted_after t most xs ys m stable = same_after t most xs ys m (λ q.
    let on : Put → Bool = λ p. eq_by_cmp key_cmp q (put_key p) in
    sym (filter_within on (ties by_number (put_on q)) (tie q) ys) ∙ ap (filter on) (stable (put_on q))
    ∙ filter_within on (ties by_number (put_on q)) (tie q) xs)

-- one row more
pub one_more : (t : OperationTable) (most : ℕ) (ps : List Put) (p : Put) (m : FinMap key_cmp Stamp)
    → after_puts t most (ps ++ p ∷ []) m ≡ after_put t most p (after_puts t most ps m)
one_more t most [] p m = refl
one_more t most (x ∷ ps) p m = one_more t most ps p (after_put t most x m)
