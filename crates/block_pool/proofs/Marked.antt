-- A pool some of whose blocks were marked or changed, block by block.
use Rattle.std.proofs.Common.{◌≡◌, ℕ, zero, suc, ◌+◌, ◌<◌, true, false, cond, List, [], ◌∷◌, length, get_or, set, replicate, ◌==◌}
use Rattle.std.proofs.{Common.{All, count_by, refl, ap, ◌∙◌, arith}, lemmas.Bool.{eq-eqb, or_right}}
use Rattle.std.proofs.lemmas.List.{length-set, length-replicate, Elements.{All-nil, All-cons}}
use Rattle.block_reclamation.specs.{Status.{is_among, is_used}, declared.status.BlockStatus.BlockStatus}
use Rattle.block_reclamation.specs.declared.status.BlockStatus.TheVariants.{Granted, Used, Free}
use Rattle.graph_types.proofs.Sums.{count_more}
use Rattle.block_pool.specs.Pools.{changed_numbers, marked, is_used_at, is_free_at, AreFree}
use Rattle.block_pool.proofs.Grants.{length-marked}

pub length-changed : (f : BlockStatus → BlockStatus) (ns : List ℕ) (pool : List BlockStatus) → length (changed_numbers f ns pool) ≡ length pool
length-changed f [] pool = refl
length-changed f (m ∷ ns) pool = length-changed f ns (set pool m (f (get_or pool m Granted)))
    ∙ length-set pool m (f (get_or pool m Granted))

pub length-opened : (blocks : ℕ) (ns : List ℕ) → length (marked ns (Used 0) (replicate blocks Free)) ≡ blocks
length-opened blocks ns = length-marked ns (Used 0) (replicate blocks Free) ∙ length-replicate blocks Free

pub marked_changed : (ns : List ℕ) (s : BlockStatus) (pool : List BlockStatus)
    → marked ns s pool ≡ changed_numbers (λ _. s) ns pool
marked_changed [] s pool = refl
marked_changed (n ∷ ns) s pool = marked_changed ns s (set pool n s)

used_below : (pool : List BlockStatus) (n : ℕ) → is_used_at pool n ≡ true → n < length pool
used_below [] n is = cc
used_below (s ∷ pool) zero is = omega arith
used_below (s ∷ pool) (suc n) is = let rest = used_below pool n is in omega arith

pub all_below : (pool : List BlockStatus) (ns : List ℕ) → ((m : ℕ) → is_among m ns ≡ true → is_used_at pool m ≡ true)
    → All (λ n. n < length pool) ns
all_below pool [] each = All-nil (λ n. n < length pool)
all_below pool (n ∷ ns) each =
    let here : (n == n) ≡ true = eq-eqb n n refl in
    All-cons (λ k. k < length pool) n ns (used_below pool n (each n (rw here refl)))
    (all_below pool ns (λ m is. each m (or_right (n == m) (is_among m ns) is)))

-- none is born
pub none_born : (pool : List BlockStatus) → ((n : ℕ) → is_used_at pool n ≡ false) → count_by is_used pool ≡ 0
none_born [] none = refl
none_born (s ∷ pool) none =
    let more = count_more is_used s pool in
    let here : (let k : ℕ = cond (is_used s) 1 0 in k) ≡ 0 = ap (λ t. cond t 1 0) (none 0) in
    let rest = none_born pool (λ n. none (suc n)) in
    omega arith

-- one that was born becomes free
pub one_freed : (pool : List BlockStatus) (n : ℕ) → is_used_at pool n ≡ true
    → count_by is_used (set pool n Free) + 1 ≡ count_by is_used pool
one_freed [] n is = cc
one_freed (s ∷ pool) zero is =
    let a = count_more is_used s pool in
    let b = count_more is_used Free pool in
    let c : (let k : ℕ = cond (is_used s) 1 0 in k) ≡ 1 = ap (λ t. cond t 1 0) is in
    omega arith
one_freed (s ∷ pool) (suc n) is =
    let a = count_more is_used s pool in
    let b = count_more is_used s (set pool n Free) in
    let rest = one_freed pool n is in
    omega arith

pub freed_there : (pool : List BlockStatus) (n : ℕ) → is_used_at (set pool n Free) n ≡ false
freed_there [] n = refl
freed_there (s ∷ pool) zero = refl
freed_there (s ∷ pool) (suc n) = freed_there pool n

-- a number that is free in a pool of so many is below that
below : (blocks n : ℕ) → is_free_at (replicate blocks Free) n ≡ true → n < blocks
below zero n free = cc
below (suc blocks) zero free = omega arith
below (suc blocks) (suc n) free = let rest = below blocks n free in omega arith

pub free_below : (blocks : ℕ) (numbers : List ℕ) → AreFree (replicate blocks Free) numbers → All (λ n. n < blocks) numbers
free_below blocks numbers free = λ k d h. below blocks (get_or numbers k d) (free.free k d h)
