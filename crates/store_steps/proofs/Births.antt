-- The births of blocks over a batch: what one number's is, and which numbers a row has.
use Rattle.std.proofs.Common.{◌≡◌, ℕ, zero, suc, ◌<◌, ◌==◌, Bool, true, false, List, [], ◌∷◌, ◌++◌, length, get_or, map, refl, ap}
use Rattle.std.{proofs.{Common.arith, lemmas.{Grind.common_steps, Bool.{eq-eqb, or_right}}}, specs.Prelude.slice_get}
use Rattle.std.specs.declared.option.Option.{Option, TheVariants.{None, Some}}
use Rattle.edge_block.specs.Slots.{BlockView}
use Rattle.graph_version.specs.Rows.{row_of, blocks_of, numbers_of}
use Rattle.block_reclamation.specs.{Status.is_among, Status.is_free, Status.is_at, declared.status.BlockStatus.BlockStatus}
use Rattle.block_pool.proofs.OneNumber.{number_after}
use Rattle.store_steps.specs.Desks.{birth_of, birth_at}

-- One number

abbrev pub birth_in : Option BlockStatus → ℕ
birth_in None = 0
birth_in (Some s) = birth_of s

pub birth_from : (pool : List BlockStatus) (m : ℕ) → birth_at pool m ≡ birth_in (slice_get pool m)
birth_from [] m = refl
birth_from (s ∷ pool) zero = refl
birth_from (s ∷ pool) (suc m) = birth_from pool m

-- what version n takes is born with it
pub birth_taken : (n : ℕ) (p : Option BlockStatus) (dropped : Bool) → is_at is_free p ≡ true
    → birth_in (number_after n p true dropped) ≡ n
birth_taken n p dropped free = grind (arith, common_steps)

-- and all else keeps its birth, also what it drops
pub birth_stays : (n : ℕ) (p : Option BlockStatus) (dropped : Bool) → birth_in (number_after n p false dropped) ≡ birth_in p
birth_stays n p dropped = grind (arith, common_steps)

-- Rows

pub births_of : (pool : List BlockStatus) (bs : List BlockView)
    → map (birth_at pool) (numbers_of bs) ≡ map (λ b. birth_at pool b.number) bs
births_of pool [] = refl
births_of pool (b ∷ bs) = ap (λ births. birth_at pool b.number ∷ births) (births_of pool bs)

in_first : (m : ℕ) (bs cs : List BlockView) → is_among m (numbers_of bs) ≡ true → is_among m (numbers_of (bs ++ cs)) ≡ true
in_first m bs cs is = grind (arith, common_steps)

in_second : (m : ℕ) (bs cs : List BlockView) → is_among m (numbers_of cs) ≡ true → is_among m (numbers_of (bs ++ cs)) ≡ true
in_second m bs cs is = grind (arith, common_steps)

-- the number of a block of a row is one of all rows
pub number_of_row : (bs : List BlockView) (k : ℕ) (d : BlockView) → k < length bs
    → is_among (get_or bs k d).number (numbers_of bs) ≡ true
number_of_row [] k d h = absurd (omega arith)
number_of_row (b ∷ bs) zero d h = let same : (b.number == b.number) ≡ true = eq-eqb b.number b.number refl in rw same refl
number_of_row (b ∷ bs) (suc k) d h =
    or_right (b.number == (get_or bs k d).number) (is_among (get_or bs k d).number (numbers_of bs))
    (number_of_row bs k d (omega arith))

pub row_listed : (rows : List (List BlockView)) (source m : ℕ) → is_among m (numbers_of (row_of rows source)) ≡ true
    → is_among m (numbers_of (blocks_of rows)) ≡ true
row_listed [] source m is = cc
row_listed (row ∷ rows) zero m is = in_first m row (blocks_of rows) is
row_listed (row ∷ rows) (suc source) m is = in_second m row (blocks_of rows) (row_listed rows source m is)
