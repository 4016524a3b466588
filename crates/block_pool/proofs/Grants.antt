-- The numbers that a grant takes.
use Rattle.std.proofs.Common.{◌≡◌, ℕ, zero, suc, ◌+◌, ◌-◌, ◌<◌, ◌≤◌, ◌==◌, List, [], ◌∷◌, ◌++◌, length, get_or, set, count_by}
use Rattle.std.proofs.{Common.{take, Bool, true, false, cond, ◌&&◌, refl, sym, ap, ◌∙◌, arith, length-take}, lemmas.Bool.eqb-true}
use Rattle.std.proofs.lemmas.{Bool.and_parts, List.{get_or-take, get_or_read}}
use Rattle.std.proofs.{Math.{ListN.length-set}, lemmas.Grind.common_steps}
use Rattle.block_pool.specs.{Pools.{marked, AreFree}, Kept.{IsNumbers, statuses, status_of, tally, Lists, popped}}
use Rattle.block_pool.specs.declared.numbers.Numbers.{Numbers}
use Rattle.block_reclamation.specs.{declared.status.BlockStatus.BlockStatus, Status.is_free}
use Rattle.graph_types.proofs.Sums.{twice}
use Rattle.block_pool.proofs.Tallies.{listed_at, listed_count, lists_room, passes_at}

-- the free numbers are as many as the list has, and each that the list has is one of the pool's
pub free_listed : (n : Numbers) → IsNumbers n → n.free_len ≡ count_by is_free (statuses n)
free_listed n kept =
    let listed = listed_count is_free (statuses n) (take n.free_len n.free.items) kept.free_are in
    omega (arith, length-take n.free_len n.free.items, kept.free_in, kept.free_room, listed)

-- where a number is not free, there is room for one more
pub free_places : (n : Numbers) → IsNumbers n → (number : ℕ) → number < length (statuses n) → is_free (status_of (statuses n) number) ≡ false
    → n.free_len < length n.free.items
free_places n kept number within taken =
    let room = lists_room is_free (statuses n) (take n.free_len n.free.items) kept.free_are number within taken in
    omega (arith, length-take n.free_len n.free.items, kept.free_in, kept.free_room, room)

pub free_read : (n : Numbers) → IsNumbers n → (at number : ℕ) → at < n.free_len → number ≡ get_or n.free.items at number
    → (number ≡ get_or n.free.items at 0) × (number < length n.statuses.items) × (is_free (status_of (statuses n) number) ≡ true)
free_read n kept at number lt is =
    let in_room : n.free_len ≤ length n.free.items = omega (arith, kept.free_in, kept.free_room) in
    let here = listed_at is_free (statuses n) n.free_len n.free.items kept.free_are in_room at lt in
    let same : number ≡ get_or n.free.items at 0 = get_or_read n.free.items at number (omega arith) is 0 in
    (same, omega (arith, here.0, same), ap (λ j. is_free (status_of (statuses n) j)) same ∙ here.1)

pub popped_more : (room : List ℕ) (len k : ℕ) → 0 < k
    → popped room len k ≡ get_or room (len - 1) 0 ∷ popped room (len - 1) (k - 1)
popped_more room len h2 lt = grind (arith, common_steps)

pub popped_none : (room : List ℕ) (len k : ℕ) → k ≤ 0 → popped room len k ≡ []
popped_none room len h2 le = grind (arith, common_steps)

pub length-popped : (room : List ℕ) (len k : ℕ) → length (popped room len k) ≡ k
length-popped room len zero = refl
length-popped room len (suc k) = ap suc (length-popped room (len - 1) k)

pub popped_at : (room : List ℕ) (len k i d : ℕ) → i < k → k ≤ len → get_or (popped room len k) i d ≡ get_or room (len - 1 - i) 0
popped_at room len zero i d lt le = absurd (omega arith)
popped_at room len (suc k) zero d lt le = ap (λ j. get_or room j 0) (omega arith)
popped_at room len (suc k) (suc i) d lt le =
    popped_at room (len - 1) k i d (omega arith) (omega arith) ∙ ap (λ j. get_or room j 0) (omega arith)

pub popped_last : (room : List ℕ) (len k : ℕ) → k < len
    → popped room len (k + 1) ≡ popped room len k ++ get_or room (len - 1 - k) 0 ∷ []
popped_last room len zero lt = let z : 0 + 1 ≡ suc 0 = omega arith in let y : len - 1 ≡ len - 1 - 0 =
    omega arith in ap (popped room len) z ∙ ap (λ j. get_or room j 0 ∷ []) y
popped_last room len (suc k) lt =
    let z : suc k + 1 ≡ suc (k + 1) = omega arith in
    let y : len - 1 - 1 - k ≡ len - 1 - suc k = omega arith in
    ap (popped room len) z ∙ ap (λ ns. get_or room (len - 1) 0 ∷ ns)
    (popped_last room (len - 1) k (omega arith) ∙ ap (λ j. popped room (len - 1) k ++ get_or room j 0 ∷ []) y)

tally_later : (p : BlockStatus → Bool) (m i : ℕ) (pool : List BlockStatus) → m < i → tally p (λ n. n == m) i pool ≡ 0
tally_later p m i [] lt = refl
tally_later p m i (s ∷ pool) lt =
    let rest = tally_later p m (i + 1) pool (omega arith) in
    let no : (p s && (i == m)) ≡ false = Rattle.std.proofs.lemmas.Bool.false_from_ne_true (p s && (i == m))
    (λ t. let e = eqb-true i m (and_parts (p s) (i == m) t).1 in omega arith) in
    let z : (let k : ℕ = cond (p s && (i == m)) 1 0 in k) ≡ 0 = ap (λ b. cond b 1 0) no in
    omega arith

pub tally_once : (p : BlockStatus → Bool) (m i : ℕ) (pool : List BlockStatus) → tally p (λ n. n == m) i pool ≤ 1
tally_once p m i [] = omega arith
tally_once p m i (s ∷ pool) =
    elim (p s && (i == m)) as (λ b. p s && (i == m) ≡ b → cond b 1 0 + tally p (λ n. n == m) (i + 1) pool ≤ 1) [
      | true ↦ λ t. let e = eqb-true i m (and_parts (p s) (i == m) t).1 in let rest =
          tally_later p m (i + 1) pool (omega arith) in omega arith
      | false ↦ λ t. let rest = tally_once p m (i + 1) pool in omega arith
    ] refl

-- two places of a list of numbers that have a status are of two numbers
apart : (p : BlockStatus → Bool) (pool : List BlockStatus) (len : ℕ) (room : List ℕ) → Lists p pool (take len room) → len ≤ length room
    → (a b : ℕ) → a < b → b < len → get_or room a 0 ≡ get_or room b 0 → ⊥
apart p pool len room are le a b lt within e =
    let xs : List ℕ = take len room in
    let long = length-take len room in
    let ea : get_or xs a 0 ≡ get_or room a 0 = get_or-take len room a 0 (omega arith) in
    let eb : get_or xs b 0 ≡ get_or room b 0 = get_or-take len room b 0 within in
    let two = twice xs a b 0 lt (omega arith) (ea ∙ e ∙ sym eb) in
    let same = are (λ x. x == get_or xs b 0) in
    let few = tally_once p (get_or xs b 0) 0 pool in
    omega arith

-- the numbers that a grant takes are free, and different
pub popped_free : (pool : List BlockStatus) (len : ℕ) (room : List ℕ) (k : ℕ) → Lists is_free pool (take len room) → len ≤ length room
    → k ≤ len → AreFree pool (popped room len k)
popped_free pool len room k are le enough =
    let long = length-popped room len k in
    record {
      free = λ i d lt.
          let at : get_or (popped room len k) i d ≡ get_or room (len - 1 - i) 0 = popped_at room len k i d (omega arith) enough in
          let is = listed_at is_free pool len room are le (len - 1 - i) (omega arith) in
          passes_at is_free pool (get_or (popped room len k) i d) (omega (arith, is.0))
          (ap (λ j. is_free (status_of pool j)) at ∙ is.1);
      distinct = λ i j d lt within e.
          apart is_free pool len room are le (len - 1 - j) (len - 1 - i) (omega arith) (omega arith)
          (sym (popped_at room len k j d (omega arith) enough) ∙ sym e ∙ popped_at room len k i d (omega arith) enough);
    }

pub length-marked : {A : Type 0} (ns : List ℕ) (x : A) (xs : List A) → length (marked ns x xs) ≡ length xs
length-marked [] x xs = refl
length-marked (n ∷ ns) x xs = length-marked ns x (set xs n x) ∙ length-set xs n x
