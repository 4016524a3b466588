-- The laws of status, floor and need.
use Rattle.std.proofs.Common.{◌≡◌, ℕ, ◌+◌, ◌≤◌, Bool, true, false, ◌||◌, List, [], ◌∷◌, count_by, cond, Option, Some, None}
use Rattle.std.proofs.{Common.{refl, ap, ◌∙◌, arith, ltb}, lemmas.{Bool.Decides.nat_tests, List.Sums.sum_by-cons}}
use Rattle.std.specs.List.{list_any}
use Rattle.block_reclamation.specs.declared.status.BlockStatus.{BlockStatus, TheVariants.{Free, Granted, Used, Retired}}
use Rattle.block_reclamation.specs.{Copies.{lesser, least_of, is_between, is_pin_before}, Status.{is_free, is_granted, is_used}}
use Rattle.block_reclamation.specs.{Status.{is_retired, is_in_use}, Laws.{IsOneOfFour, ArePartition, FloorSpares, NeedIsMonotone}}
use Rattle.block_reclamation.proofs.Least.{least_below, least_each}

pub one_of_four : (status : BlockStatus) → IsOneOfFour status
one_of_four Free = refl
one_of_four _ = refl

count_more : (p : BlockStatus → Bool) (s : BlockStatus) (ss : List BlockStatus) → count_by p (s ∷ ss) ≡ cond (p s) 1 0 + count_by p ss
count_more p s ss = sum_by-cons (λ x. cond (p x) 1 0) s ss

-- a block more, of which each test says this
parts_more : (s : BlockStatus) (ss : List BlockStatus) → cond (is_free s) 1 0 + cond (is_granted s) 1 0 + cond (is_used s) 1 0
    + cond (is_retired s) 1 0 ≡ 1 → cond (is_free s) 1 0 + cond (is_in_use s) 1 0 + cond (is_retired s) 1 0 ≡ 1
    → ArePartition ss → ArePartition (s ∷ ss)
parts_more s ss four three rest =
    let free = count_more is_free s ss in
    let granted = count_more is_granted s ss in
    let used = count_more is_used s ss in
    let in_use = count_more is_in_use s ss in
    let retired = count_more is_retired s ss in
    record {
      by_status = omega (arith, rest.by_status, free, granted, used, retired, four);
      by_use = omega (arith, rest.by_use, free, in_use, retired, three);
    }

one_more : (s : BlockStatus) (ss : List BlockStatus) → ArePartition ss → ArePartition (s ∷ ss)
one_more Free ss rest = parts_more Free ss refl refl rest
one_more Granted ss rest = parts_more Granted ss refl refl rest
one_more (Used birth) ss rest = parts_more (Used birth) ss refl refl rest
one_more (Retired birth retirement) ss rest = parts_more (Retired birth retirement) ss refl refl rest

pub partition : (blocks : List BlockStatus) → ArePartition blocks
partition [] = record { by_status = refl; by_use = refl }
partition (s ∷ ss) = one_more s ss (partition ss)

-- no pin of a list passes a test that no pin from the list's least on passes
none_passes : (p : Option ℕ → Bool) (floor : ℕ) → p None ≡ false → ((m : ℕ) → floor ≤ m → p (Some m) ≡ false) → (n : ℕ)
    (pins : List (Option ℕ)) → floor ≤ least_of n pins → list_any p pins ≡ false
none_passes p floor never high n [] low = refl
none_passes p floor never high n (None ∷ pins) low = ap (λ t. t || list_any p pins) never ∙ none_passes p floor never high n pins low
none_passes p floor never high n (Some m ∷ pins) low =
    let below = least_each n (Some m ∷ pins) 0 m refl in
    ap (λ t. t || list_any p pins) (high m (omega (arith, below, low)))
    ∙ none_passes p floor never high (lesser n (Some m)) pins low

none_of_three : (a b c : Bool) → a ≡ false → b ≡ false → c ≡ false → (a || (b || c)) ≡ false
none_of_three a b c x y z = rw (x, y, z) refl

pub floor_spares : FloorSpares
floor_spares copy birth retirement low =
    let first : ℕ = least_of copy.last copy.settled in
    let all = least_below first copy.unsettled in
    let some = least_below copy.last copy.settled in
    none_of_three (ltb copy.last retirement) (list_any (is_between birth retirement) copy.settled)
    (list_any (is_pin_before retirement) copy.unsettled)
    (grind (arith, nat_tests, low, all, some))
    (none_passes (is_between birth retirement) retirement refl (λ m high. grind (arith, nat_tests, high)) copy.last copy.settled
    (omega (arith, low, all)))
    (none_passes (is_pin_before retirement) retirement refl (λ m high. grind (arith, nat_tests, high)) first copy.unsettled low)

-- what a test finds, a weaker test finds
any_weaker : (p q : Option ℕ → Bool) (pins : List (Option ℕ)) → ((pin : Option ℕ) → p pin ≡ true → q pin ≡ true)
    → list_any p pins ≡ true → list_any q pins ≡ true
any_weaker p q [] weaker found = found
any_weaker p q (pin ∷ pins) weaker found =
    elim (p pin) as (λ t. p pin ≡ t → (t || list_any p pins) ≡ true → (q pin || list_any q pins) ≡ true) [
      | true ↦ λ here _. ap (λ t. t || list_any q pins) (weaker pin here)
      | false ↦ λ _ later. elim (q pin) as (λ t. (t || list_any q pins) ≡ true) [
        | true ↦ refl
        | false ↦ any_weaker p q pins weaker later
      ]
    ] refl found

some_of_three : (a b c x y z : Bool) → (a ≡ true → x ≡ true) → (b ≡ true → y ≡ true) → (c ≡ true → z ≡ true)
    → (a || (b || c)) ≡ true → (x || (y || z)) ≡ true
some_of_three true b c x y z f g h is = ap (λ t. t || (y || z)) (f refl)
some_of_three false true c false y z f g h is = ap (λ t. t || z) (g refl)
some_of_three false false c false false z f g h is = h is
some_of_three _ b c x y z f g h is = refl

wider : (birth retirement earlier later : ℕ) (pin : Option ℕ) → earlier ≤ birth → retirement ≤ later
    → is_between birth retirement pin ≡ true → is_between earlier later pin ≡ true
wider birth retirement earlier later None low high found = found
wider birth retirement earlier later (Some pin) low high found = grind (arith, nat_tests, low, high, found)

longer : (retirement later : ℕ) (pin : Option ℕ) → retirement ≤ later → is_pin_before retirement pin ≡ true → is_pin_before later pin ≡ true
longer retirement later None high found = found
longer retirement later (Some pin) high found = grind (arith, nat_tests, high, found)

pub need_is_monotone : NeedIsMonotone
need_is_monotone copy birth retirement earlier later low high need =
    some_of_three (ltb copy.last retirement) (list_any (is_between birth retirement) copy.settled)
    (list_any (is_pin_before retirement) copy.unsettled)
    (ltb copy.last later) (list_any (is_between earlier later) copy.settled) (list_any (is_pin_before later) copy.unsettled)
    (λ late. grind (arith, nat_tests, high, late))
    (any_weaker (is_between birth retirement) (is_between earlier later) copy.settled
    (λ pin found. wider birth retirement earlier later pin low high found))
    (any_weaker (is_pin_before retirement) (is_pin_before later) copy.unsettled (λ pin found. longer retirement later pin high found))
    need
