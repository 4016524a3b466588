-- One block's status: which statuses exclude each other, and what a mark makes of it.
use Rattle.std.proofs.Common.{◌≡◌, ℕ, zero, suc, ◌<◌, Bool, true, false, cond, List, [], ◌∷◌, length, replicate, if◌then◌else◌}
use Rattle.std.proofs.{Common.{Decides, refl, arith}, lemmas.Grind.common_steps}
use Rattle.std.specs.{Option.option_map, Prelude.slice_get, declared.option.Option.{Option, TheVariants.{Some, None}}}
use Rattle.block_reclamation.specs.Status.{is_at, is_retired, is_used, is_granted, is_free, is_in_use, IsDated}
use Rattle.block_reclamation.specs.declared.status.BlockStatus.{BlockStatus, TheVariants.{Retired, Used, Granted, Free}}

pub not_retired : (o : Option BlockStatus) → ((birth retirement : ℕ) → o ≡ Some (Retired birth retirement) → ⊥)
    → is_at is_retired o ≡ false
not_retired o never = grind (arith, common_steps)

pub not_used : (o : Option BlockStatus) → is_at is_retired o ≡ true → is_at is_used o ≡ false
not_used o is = grind (arith, common_steps)

pub same_either : (b : Bool) → cond b (Used 0) (Used 0) ≡ Used 0
same_either true = refl
same_either false = refl

pub Decides-granted : (o : Option BlockStatus) → Decides (is_at is_granted o) (o ≡ Some Granted)
Decides-granted o = grind (arith, common_steps)

pub free_at : (n b : ℕ) → b < n → slice_get (replicate n Free) b ≡ Some Free
free_at zero b h = absurd (omega arith)
free_at (suc n) zero h = refl
free_at (suc n) (suc b) h = free_at n b (omega arith)

pub retired_not_free : (s : BlockStatus) → is_retired s ≡ true → is_free s ≡ false
retired_not_free h0 e = grind (arith, common_steps)

pub free_not_retired : (s : BlockStatus) → is_free s ≡ true → is_retired s ≡ false
free_not_retired h0 e = grind (arith, common_steps)

-- a used status is neither free nor retired
pub used_not_free : (s : BlockStatus) → is_in_use s ≡ true → is_free s ≡ false
used_not_free h0 e = grind (arith, common_steps)

pub used_not_retired : (s : BlockStatus) → is_in_use s ≡ true → is_retired s ≡ false
used_not_retired h0 e = grind (arith, common_steps)

pub used_is : (s : BlockStatus) → is_used s ≡ true → (birth : ℕ) × (s ≡ Used birth)
used_is h0 e = grind (arith, common_steps)

pub used_marked : (p : Option BlockStatus) → is_at is_free p ≡ true → is_at is_in_use (option_map (λ _. Granted) p) ≡ true
used_marked p e = grind (arith, common_steps)

pub free_is : (p : Option BlockStatus) → is_at is_free p ≡ true → p ≡ Some Free
free_is p e = grind (arith, common_steps)

pub born_is : (p : Option BlockStatus) → is_at is_used p ≡ true → (birth : ℕ) × (p ≡ Some (Used birth))
born_is p e = grind (arith, common_steps)

-- no number is both
pub not_both : (p : Option BlockStatus) → is_at is_free p ≡ true → is_at is_used p ≡ true → ⊥
not_both p e f = grind (arith, common_steps)

pub none_born : (n m : ℕ) → is_at is_used (slice_get (replicate n Free) m) ≡ false
none_born zero m = refl
none_born (suc n) zero = refl
none_born (suc n) (suc m) = none_born n m

pub used_or_free : (t : Bool)
    → (if t then option_map (λ _. Used 0) (Some Free) else Some Free) ≡ Some (if t then Used 0 else Free)
used_or_free t = grind (arith, common_steps)

pub pool_like : (pool : List BlockStatus) (m : ℕ)
    → slice_get (replicate (length pool) Free) m ≡ option_map (λ _. Free) (slice_get pool m)
pool_like [] m = refl
pool_like (s ∷ pool) zero = refl
pool_like (s ∷ pool) (suc m) = pool_like pool m

pub in_use : (o : Option BlockStatus) → is_at is_used o ≡ true → is_at is_in_use o ≡ true
in_use None is = cc
in_use (Some Free) is = cc
in_use (Some Granted) is = refl
in_use (Some (Used birth)) is = refl
in_use (Some (Retired birth retirement)) is = cc

-- what is marked twice is as it was marked last
pub twice_marked : (t : Bool) (p : Option BlockStatus) (x y : BlockStatus)
    → (if t then option_map (λ _. y) (if t then option_map (λ _. x) p else p) else (if t then option_map (λ _. x) p else p))
    ≡ (if t then option_map (λ _. y) p else p)
twice_marked t p x y = grind (arith, common_steps)

-- a block is retired with some dates
pub record RetiredThen (o : Option BlockStatus) : Type 0 where
  pub birth : ℕ
  pub retirement : ℕ
  pub is : o ≡ Some (Retired birth retirement)

pub retired_then : (o : Option BlockStatus) → is_at is_retired o ≡ true → RetiredThen o
retired_then o is = grind (arith, common_steps)

-- a block's status at a start, by whether its number is listed
abbrev pub at_first : Bool → BlockStatus
at_first t = if t then Used 0 else Free

pub used_first : (t : Bool) → is_used (at_first t) ≡ t
used_first t = grind (arith, common_steps)

pub dated_first : (t : Bool) → IsDated 0 (at_first t)
dated_first t = grind (arith, common_steps)

-- granted, then some born with version n, then some of the last version's retired by it, then some given back
abbrev pub marked_if : BlockStatus → Bool → Option BlockStatus → Option BlockStatus
marked_if status t p = if t then option_map (λ _. status) p else p

pub there_and_back : (t : Bool) (p : Option BlockStatus) → (t ≡ true → is_at is_free p ≡ true)
    → marked_if Free t (marked_if Granted t p) ≡ p
there_and_back t p f = grind (arith, common_steps)

pub used_born : (n : ℕ) (t : Bool) (p : Option BlockStatus) → is_at is_in_use p ≡ true
    → is_at is_in_use (marked_if (Used n) t p) ≡ true
used_born n t p is = grind (arith, common_steps)

pub born_and_back : (n : ℕ) (g t : Bool) (p : Option BlockStatus) → (g ≡ true → is_at is_free p ≡ true) → (t ≡ true → g ≡ true)
    → marked_if Free g (marked_if (Used n) t (marked_if Granted g p)) ≡ p
born_and_back n g t p f h = grind (arith, common_steps)
