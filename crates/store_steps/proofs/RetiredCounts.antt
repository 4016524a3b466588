-- How many blocks are retired, and how many free, once some are moved.
use Rattle.std.proofs.Common.{◌≡◌, ℕ, zero, suc, ◌+◌, ◌≤◌, cond, List, [], ◌∷◌, length, get_or, set, count_by, sym, ap}
use Rattle.std.proofs.{Common.arith, lemmas.List.length-map}
use Rattle.block_pool.specs.Pools.{retired, marked, changed_numbers}
use Rattle.block_reclamation.specs.{declared.status.BlockStatus.BlockStatus, Status.is_retired}
use Rattle.block_reclamation.specs.declared.status.BlockStatus.TheVariants.{Free, Granted, Used}
use Rattle.graph_types.proofs.{Cases.at_most_one, Sums.count_more}
use Rattle.store_steps.proofs.Applications.{DeskApplication, next_desk, granted_pool, born_pool, dropped_numbers, number_in_desk}
use Rattle.store_steps.proofs.Applications.{retired_pool, moves_left}

set_count : (xs : List BlockStatus) (i : ℕ) (s : BlockStatus) → count_by is_retired (set xs i s) ≤ count_by is_retired xs + cond
    (is_retired s) 1 0
set_count [] i s = omega arith
set_count (x ∷ xs) zero s = let a = count_more is_retired x xs in let b = count_more is_retired s xs in omega arith
set_count (x ∷ xs) (suc i) s =
    let a = count_more is_retired x xs in let b = count_more is_retired x (set xs i s) in let rest =
    set_count xs i s in omega arith

-- each block that is retired is one more at most
pub retired_more : (ns : List ℕ) (n : ℕ) (xs : List BlockStatus) → count_by is_retired (changed_numbers (retired n) ns xs) ≤ count_by
    is_retired xs + length ns
retired_more [] n xs = omega arith
retired_more (m ∷ ns) n xs =
    let s : BlockStatus = retired n (get_or xs m Granted) in
    let rest = retired_more ns n (set xs m s) in let one = set_count xs m s in let few = at_most_one (is_retired s) in omega arith

-- no block that is freed is retired
pub freed_no_more : (ns : List ℕ) (xs : List BlockStatus) → count_by is_retired (marked ns Free xs) ≤ count_by is_retired xs
freed_no_more [] xs = omega arith
freed_no_more (m ∷ ns) xs = let rest = freed_no_more ns (set xs m Free) in let one = set_count xs m Free in omega arith

-- nor is one that is born
born_no_more : (ns : List ℕ) (birth : ℕ) (xs : List BlockStatus) → count_by is_retired (marked ns (Used birth) xs)
    ≤ count_by is_retired xs
born_no_more [] birth xs = omega arith
born_no_more (m ∷ ns) birth xs =
    let rest = born_no_more ns birth (set xs m (Used birth)) in let one = set_count xs m (Used birth) in omega arith

-- after a batch at most as many more are retired as it dropped
pub retired_room : (a : DeskApplication) → count_by is_retired (next_desk a).pool ≤ count_by is_retired (granted_pool a) + length
    a.made.dropped
retired_room a =
    let same : count_by is_retired (next_desk a).pool ≡ count_by is_retired (marked a.made.unused Free (retired_pool a)) =
    ap (count_by is_retired) (sym (moves_left a)) in
    let unused = freed_no_more a.made.unused (retired_pool a) in
    let dropped = retired_more (dropped_numbers a) (number_in_desk a) (born_pool a) in
    let born = born_no_more a.made.taken (number_in_desk a) (granted_pool a) in
    let many : length (dropped_numbers a) ≡ length a.made.dropped = length-map a.made.dropped (λ b. b.number) in
    omega arith
