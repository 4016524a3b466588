-- Slots with edges from before a time, at an earlier time and at a later one.
use Rattle.std.proofs.Common.{◌≡◌, ℕ, ◌+◌, ◌<◌, ◌≤◌, Bool, true, false, cond, ◌||◌, List, [], ◌∷◌, map, length, get_or, take}
use Rattle.std.proofs.Common.{◌==◌, Some, None, All, count_by, Option, refl, sym, ap, ap₂, ◌∙◌, arith}
use Rattle.std.proofs.lemmas.Bool.{ltb-false, le-ltb, false≢true, true_from_ne_false, eqb-false, true≢false, or_parts}
use Rattle.std.proofs.lemmas.{Grind.common_steps, List.{Elements.{All-head, All-tail}, Folds.list_any_none}}
use Rattle.std.proofs.lemmas.List.Sums.{sum_by-cons, sum_by-le-sum_by, sum_by_more}
use Rattle.std.specs.{List.list_any, Option.{option_or, is_some}}
use Rattle.graph_types.specs.Step.{is_before}
use Rattle.graph_types.proofs.{PickedStamps.older, Searches.{any_fewer, none_any}, Sums.{count_wider, count_more}}
use Rattle.edge_block.specs.Rows.{OpenBlock, old_in_row, expire_row, has_old, touch}
use Rattle.edge_block.specs.Slots.{Slot, BlockView, has_before, edges_in, old_in, holds, slots_since, stamp_at}

-- what is not from before a time is from before no earlier one
earlier_edges : (s t : ℕ) → s ≤ t → (es : List Slot) → list_any (λ e. is_before t e.stamp) es ≡ false
    → list_any (λ e. is_before s e.stamp) es ≡ false
earlier_edges s t le es none =
    any_fewer (λ (e : Slot). is_before s e.stamp) (λ (e : Slot). is_before t e.stamp)
    (λ e late. let at = ltb-false e.stamp.recent t late in le-ltb e.stamp.recent s (omega arith)) es none

pub earlier_block : (s t : ℕ) (b : BlockView) → s ≤ t → has_before t b.slots ≡ false → has_before s b.slots ≡ false
earlier_block s t b le none = earlier_edges s t le (edges_in b.slots) none

-- nothing is from before the time 0
pub none_before_zero : (es : List Slot) → list_any (λ e. is_before 0 e.stamp) es ≡ false
none_before_zero es = list_any_none (λ (e : Slot). is_before 0 e.stamp) es (λ i e lt. le-ltb (get_or es i e).stamp.recent 0 (omega arith))

pub old_later : (s t : ℕ) (slots : List (Option Slot)) → s ≤ t → has_before s slots ≡ true → has_before t slots ≡ true
old_later s t [] le e = e
old_later s t (None ∷ slots) le e = old_later s t slots le e
old_later s t (Some x ∷ slots) le e =
    elim (is_before s x.stamp) as (λ b. is_before s x.stamp ≡ b → (b || has_before s slots) ≡ true
    → (is_before t x.stamp || has_before t slots) ≡ true) [
      | true ↦ λ here _. ap (λ b. b || has_before t slots) (older s t x.stamp le here)
      | false ↦ λ _ rest. Rattle.std.proofs.lemmas.Bool.or_right (is_before t x.stamp) (has_before t slots)
          (old_later s t slots le rest)
    ] refl e

-- a block with no edge of before a time has none in count, either
pub none_old : (time : ℕ) (slots : List (Option Slot)) → has_before time slots ≡ false → old_in time slots ≡ 0
none_old time [] e = refl
none_old time (None ∷ slots) e = none_old time slots e
none_old time (Some x ∷ slots) e =
    elim (is_before time x.stamp) as (λ b. is_before time x.stamp ≡ b → (b || has_before time slots) ≡ false
    → old_in time (Some x ∷ slots) ≡ 0) [
      | true ↦ λ _ rest. absurd (false≢true (sym rest))
      | false ↦ λ here rest.
          let a = sum_by-cons (λ (e : Slot). cond (is_before time e.stamp) 1 0) x (edges_in slots) in
          let b = none_old time slots rest in
          let c : (let n : ℕ = cond (is_before time x.stamp) 1 0 in n) ≡ 0 = ap (λ t. let n : ℕ = cond t 1 0 in n) here in
          omega arith
    ] refl e

-- an expiry adds no target
pub holds_since : (time target : ℕ) (slots : List (Option Slot)) → list_any (holds target) (slots_since time slots) ≡ true
    → list_any (holds target) slots ≡ true
holds_since time target [] e = e
holds_since time target (None ∷ slots) e = holds_since time target slots e
holds_since time target (Some x ∷ slots) e =
    elim (is_before time x.stamp) as (λ b. (holds target (cond b None (Some x))
    || list_any (holds target) (slots_since time slots)) ≡ true
    → (holds target (Some x) || list_any (holds target) slots) ≡ true) [
      | true ↦ λ rest. Rattle.std.proofs.lemmas.Bool.or_right (holds target (Some x)) (list_any (holds target) slots)
          (holds_since time target slots rest)
      | false ↦ λ both. either (holds target (Some x)) (list_any (holds target) (slots_since time slots))
          (list_any (holds target) slots) (holds_since time target slots) both
    ] e where
      either : (a b c : Bool) → (b ≡ true → c ≡ true) → (a || b) ≡ true → (a || c) ≡ true
      either true b c h e = e
      either false b c h e = h e

-- what is old at a time is old at each later one
pub slots_before : (s t : ℕ) (slots : List (Option Slot)) → s ≤ t → old_in t slots ≡ 0 → old_in s slots ≡ 0
slots_before s t slots le young = grind (arith, common_steps, count_wider, older)

fewer_old : (s t : ℕ) (row : List OpenBlock) → s ≤ t → old_in_row s row ≤ old_in_row t row
fewer_old s t row le = grind (arith, common_steps, sum_by-le-sum_by, count_wider, older)

pub young_before : (s t : ℕ) (row : List OpenBlock) → s ≤ t → old_in_row t row ≡ 0 → old_in_row s row ≡ 0
young_before s t row le young = let fewer = fewer_old s t row le in omega arith

-- none is old where each was touched at a time or later
pub none_from : (least : ℕ) (es : List Slot) → All (λ v. least ≤ v) (map (λ e. e.stamp.recent) es)
    → count_by (λ e. is_before least e.stamp) es ≡ 0
none_from least [] all = refl
none_from least (e ∷ es) all =
    let a = sum_by-cons (λ (x : Slot). cond (is_before least x.stamp) 1 0) e es in
    let here : least ≤ e.stamp.recent = All-head (λ v. least ≤ v) e.stamp.recent (map (λ (x : Slot). x.stamp.recent) es) all in
    let late : (let n : ℕ = cond (is_before least e.stamp) 1 0 in n) ≡ 0 =
    ap (λ b. let n : ℕ = cond b 1 0 in n) (le-ltb e.stamp.recent least here) in
    let rest = none_from least es (All-tail (λ v. least ≤ v) e.stamp.recent (map (λ (x : Slot). x.stamp.recent) es) all) in
    omega arith

-- and where there is none
pub none_without : (time : ℕ) (es : List Slot) → map (λ e. e.stamp.recent) es ≡ [] → count_by (λ e. is_before time e.stamp) es ≡ 0
none_without time es e = grind (arith, common_steps)

-- none is from before time 0
pub none_at_start : (row : List OpenBlock) → old_in_row 0 row ≡ 0
none_at_start [] = refl
none_at_start (b ∷ row) =
    let a = sum_by-cons (λ (x : OpenBlock). old_in 0 x.shape.slots) b row in
    let here = none_from 0 (edges_in b.shape.slots) (λ k d lt. omega arith) in
    let rest = none_at_start row in
    omega arith

pub young_stays : (time : ℕ) (row : List OpenBlock) → old_in_row time row ≡ 0 → expire_row time row ≡ row
young_stays time [] e = refl
young_stays time (b ∷ row) e =
    let a = sum_by-cons (λ (x : OpenBlock). old_in time x.shape.slots) b row in
    let none : has_old time b ≡ false =
    none_any (λ (x : Slot). is_before time x.stamp) (edges_in b.shape.slots) (omega arith) in
    ap₂ (λ x xs. x ∷ xs) (ap (λ t. cond t (touch (slots_since time) b) b) none) (young_stays time row (omega arith))

-- one block more
pub young_more : (s t : ℕ) (row : List OpenBlock) (k : ℕ) (d : OpenBlock) → k < length row → old_in_row s (take k row) ≡ 0
    → t ≤ s → old_in t (get_or row k d).shape.slots ≡ 0 → old_in_row t (take (k + 1) row) ≡ 0
young_more s t row k d lt young le here = grind (arith, common_steps, sum_by_more, young_before)

-- nothing is from before the time 0
pub slots_before_zero : (slots : List (Option Slot)) → has_before 0 slots ≡ false
slots_before_zero [] = refl
slots_before_zero (None ∷ slots) = slots_before_zero slots
slots_before_zero (Some e ∷ slots) = ap₂ (λ a b. a || b) (le-ltb e.stamp.recent 0 (omega arith)) (slots_before_zero slots)

-- slots in which no target has anything have no edge
pub no_edges : (time : ℕ) (slots : List (Option Slot)) → ((target : ℕ) → stamp_at slots target ≡ None)
    → has_before time slots ≡ false
no_edges time [] none = refl
no_edges time (None ∷ slots) none = no_edges time slots none
no_edges time (Some e ∷ slots) none =
    let here : stamp_at (Some e ∷ slots) e.target ≡ Some e.stamp =
    ap (λ b. option_or (cond b (Some e.stamp) None) (stamp_at slots e.target)) (true_from_ne_false (e.target == e.target)
    (λ no. eqb-false e.target e.target no refl)) in
    absurd (true≢false (ap is_some (sym here ∙ none e.target)))

pub none_since : (most time : ℕ) → time ≤ most → (es : List Slot) → list_any (λ e. is_before most e.stamp) es ≡ false
    → (list_any (λ e. is_before time e.stamp) es ≡ false) × (count_by (λ e. is_before time e.stamp) es ≡ 0)
none_since most time le [] none = (refl, refl)
none_since most time le (e ∷ es) none =
    let parts = or_parts (is_before most e.stamp) (list_any (λ e. is_before most e.stamp) es) none in
    let far = ltb-false e.stamp.recent most parts.0 in
    let here : is_before time e.stamp ≡ false = le-ltb e.stamp.recent time (omega (arith, far, le)) in
    let rest = none_since most time le es parts.1 in (
      ap₂ (λ a b. a || b) here rest.0,
      count_more (λ e. is_before time e.stamp) e es ∙ ap₂ (λ (b : Bool) (k : ℕ). cond b 1 0 + k) here rest.1,
    )
