-- Outcomes told, put together, and counted, with one more.
use Rattle.std.proofs.Common.{◌≡◌, ℕ, zero, suc, ◌+◌, ◌%◌, ◌^◌, ◌<◌, Bool, true, false, cond, ◌||◌, ltb, List, [], ◌∷◌, ◌++◌, map}
use Rattle.std.proofs.Common.{length, get_or, take, set, ◌==◌, zip, refl, sym, ap, ap₂, ◌∙◌, arith}
use Rattle.std.proofs.Math.Nat.{mod-eq_of_lt, mod-mod, mod-add-mod, add-mod-mod}
use Rattle.std.proofs.lemmas.Bool.{false≢true, eqb-true, eqb-false, le-ltb, lt-ltb, ltb-true, ltb-false}
use Rattle.std.proofs.lemmas.{Grind.common_steps, List.{get_or-set_same, get_or-set_other, Folds.list_any_more}}
use Rattle.std.proofs.lemmas.List.Sums.{sum_by-append, sum_by_more, sum_by-cons}
use Rattle.std.specs.{FinMap.{len, get}, List.{sum_by, list_any}, declared.option.Option.Option}
use Rattle.graph_types.specs.{Graph.{Stamp, Graph}, Outcomes.{together, told}, Step.{outcome_at, outcome, changed_key}}
use Rattle.graph_types.specs.declared.batches.{NamedOp.{NamedOp, TheVariants.{Insert, Incr, Remove, Expire}}, Outcome.Outcome}
use Rattle.graph_types.specs.declared.batches.Outcome.TheVariants.{Inserted, Updated, Removed, Absent, Overflow, Expired}
use Rattle.graph_types.specs.declared.changes.EdgeChange.{EdgeChange, TheVariants.Remove as ToRemove}
use Rattle.graph_types.proofs.Expiry.{fewer}

-- a count modulo m, with another one added
pub mod_more : (a b m : ℕ) → (a % m + b) % m ≡ (a + b) % m
mod_more a b m =
    Rattle.std.proofs.Math.Nat.add-mod (a % m) b m
    ∙ ap (λ x. (x + b % m) % m) (Rattle.std.proofs.Math.Nat.mod-mod a m)
    ∙ sym (Rattle.std.proofs.Math.Nat.add-mod a b m)

-- outcomes put together: that of an edge stands
abbrev is_counted : Outcome → Bool
is_counted Inserted = false
is_counted Updated = false
is_counted Removed = false
is_counted Absent = false
is_counted Overflow = false
is_counted (Expired count) = true

pub last_stands : (x y : Outcome) → is_counted y ≡ false → together x y ≡ y
last_stands x y e = grind (arith, common_steps, false≢true)

pub not_counted : (change : EdgeChange) (s : Option Stamp) → is_counted (outcome_at change s) ≡ false
not_counted change s = grind (arith, common_steps)

-- counts told one after another
pub told_more : (a b : ℕ) → told (together (told (Expired a)) (Expired b)) ≡ told (Expired (a + b))
told_more a b = ap Expired (mod_more a b (2 ^ 64))

pub told_none : (o : Outcome) (count : ℕ) → o ≡ told (Expired count) → told (together o (Expired 0)) ≡ o
told_none o count e = grind (arith, common_steps, told_more)

-- a list of pairs by their parts
pub zipped : (outs : List (ℕ × Outcome)) (rs : List Outcome) → length rs ≡ length outs
    → ((k : ℕ) (o : ℕ × Outcome) → k < length outs → (get_or outs k o).1 ≡ get_or rs k Absent)
    → outs ≡ zip (map (λ o. o.0) outs) rs
zipped [] [] e h = refl
zipped [] (r ∷ rs) e h = absurd (omega arith)
zipped (o ∷ outs) [] e h = absurd (omega arith)
zipped (o ∷ outs) (r ∷ rs) e h =
    ap₂ (λ a b. a ∷ b) (ap (λ x. (o.0, x)) (h zero o (omega arith)))
    (zipped outs rs (omega arith) (λ k p lt. h (suc k) p (omega arith)))

-- what is so of a written outcome, and of each other one
pub wrote : (outs : List (ℕ × Outcome)) (i k : ℕ) (w o : ℕ × Outcome) (P : ℕ → Outcome → Type 0) → i < length outs → P i w.1
    → ((k ≡ i → ⊥) → P k (get_or outs k o).1) → P k (get_or (set outs i w) k o).1
wrote outs i k w o P lt here there = grind (arith, common_steps, eqb-true, get_or-set_same, get_or-set_other, eqb-false)

change_told : (change : EdgeChange) (before : Option Stamp) → told (outcome_at change before) ≡ outcome_at change before
change_told change before = grind (arith, common_steps)

pub one_told : (op : NamedOp) (g : Graph) → len g.edges < 2 ^ 64 → told (outcome op g) ≡ outcome op g
one_told (Insert kind source target weight time) g few = grind (arith, common_steps, change_told)
one_told (Incr kind source target amount time) g few = grind (arith, common_steps, change_told)
one_told (Remove kind source target) g few = change_told ToRemove (get g.edges (changed_key ToRemove kind source target g))
one_told (Expire time) g few = ap (λ (n : ℕ). Expired n) (mod-eq_of_lt (omega (arith, few, fewer time g.edges)))

pub set_middle : (before : List Outcome) (x y : Outcome) (xs : List Outcome)
    → set (before ++ x ∷ xs) (length before) y ≡ before ++ y ∷ xs
set_middle [] x y xs = refl
set_middle (b ∷ before) x y xs = ap (λ l. b ∷ l) (set_middle before x y xs)

pub get_middle : (before : List Outcome) (x d : Outcome) (xs : List Outcome) → get_or (before ++ x ∷ xs) (length before) d ≡ x
get_middle [] x d xs = refl
get_middle (b ∷ before) x d xs = get_middle before x d xs

twice : (o : Outcome) → told (told o) ≡ told o
twice o = grind (arith, common_steps, mod-mod)

pub edge_step : (a w : ℕ) (o : Outcome)
    → cond (a == w) (told (together (cond (ltb a w) (told o) Absent) (told o))) (cond (ltb a w) (told o) Absent)
    ≡ cond (ltb a (w + 1)) (told o) Absent
edge_step a w o = grind (arith, common_steps, eqb-true, le-ltb, lt-ltb, twice, eqb-false, ltb-true, ltb-false)

pub expiry_step : (w : ℕ) (f : ℕ → ℕ) (before sources : List ℕ) → (w ≡ 0 → before ≡ [])
    → told (together (cond (ltb 0 w) (told (Expired (sum_by f before))) Absent) (told (Expired (sum_by f sources))))
    ≡ cond (ltb 0 (w + 1)) (told (Expired (sum_by f (before ++ sources)))) Absent
expiry_step w f before sources first =
    grind (arith, common_steps, lt-ltb, mod-add-mod, add-mod-mod, sum_by-append, ltb-false, twice)

-- one more outcome is counted, or its edges are
pub sum_next : (f : Outcome → ℕ) (xs : List Outcome) (i before after : ℕ) (d : Outcome) → i < length xs
    → before ≡ sum_by f (take i xs) → after ≡ before + f (get_or xs i d) → after ≡ sum_by f (take (i + 1) xs)
sum_next f xs i before after d within so_far step =
    step ∙ ap (λ n. n + f (get_or xs i d)) so_far ∙ sym (sum_by_more f xs i d within)

pub count_next : (p : Outcome → Bool) (xs : List Outcome) (i before after : ℕ) (d : Outcome) → i < length xs
    → before ≡ sum_by (λ x. cond (p x) 1 0) (take i xs) → after ≡ before + cond (p (get_or xs i d)) 1 0
    → after ≡ sum_by (λ x. cond (p x) 1 0) (take (i + 1) xs)
count_next p = sum_next (λ x. cond (p x) 1 0)

pub any_next : (p : Outcome → Bool) (xs : List Outcome) (i : ℕ) (before after : Bool) (d : Outcome) → i < length xs
    → before ≡ list_any p (take i xs) → after ≡ (before || p (get_or xs i d)) → after ≡ list_any p (take (i + 1) xs)
any_next p xs i before after d within so_far step =
    step ∙ ap (λ b. b || p (get_or xs i d)) so_far ∙ sym (list_any_more p xs i d within)

-- one more is counted, modulo 2^64
pub sum_more : (f : Outcome → ℕ) (xs : List Outcome) (i : ℕ) (d : Outcome) (a before after : ℕ) → i < length xs
    → before ≡ (a + sum_by f (take i xs)) % 2 ^ 64 → after ≡ (before + sum_by f (get_or xs i d ∷ [])) % 2 ^ 64
    → after ≡ (a + sum_by f (take (i + 1) xs)) % 2 ^ 64
sum_more f xs i d a before after within so_far step =
    omega (arith, so_far, step, sum_by_more f xs i d within, sum_by-cons f (get_or xs i d) [])

pub count_more : (p : Outcome → Bool) (xs : List Outcome) (i : ℕ) (d : Outcome) (a before after : ℕ) → i < length xs
    → before ≡ (a + sum_by (λ x. cond (p x) 1 0) (take i xs)) % 2 ^ 64
    → after ≡ (before + sum_by (λ x. cond (p x) 1 0) (get_or xs i d ∷ [])) % 2 ^ 64
    → after ≡ (a + sum_by (λ x. cond (p x) 1 0) (take (i + 1) xs)) % 2 ^ 64
count_more p = sum_more (λ x. cond (p x) 1 0)
