-- Rows that a batch leaves as they are: no operation is on one of their edges, and no expiry takes one.
use Rattle.std.proofs.Common.{◌≡◌, ℕ, ◌+◌, ◌≤◌, List, [], ◌∷◌, map, get_or}
use Rattle.std.proofs.{Common.{false, cond, refl, ap, ap₂, ◌∙◌, arith, All, max}, Math.Nat.le-max_left}
use Rattle.std.proofs.Math.Nat.{le-max_right}
use Rattle.std.proofs.lemmas.{Bool.or_parts, List.Sums.sum_by-cons}
use Rattle.std.proofs.lemmas.List.Elements.{All-cons, All-nil}
use Rattle.std.proofs.lemmas.Grind.{common_steps}
use Rattle.edge_block.specs.{Slots.{edges_in, has_before, old_in, slots_since}, Rows.{Shape, OpenBlock, untouched, touch}}
use Rattle.edge_block.specs.{Rows.{expire_row, old_in_row}, Batches.{Resolved, AtKey, InAll}}
use Rattle.edge_block.proofs.OldSlots.{none_since}
use Rattle.edge_block.proofs.Spared.{IsUpTo, all_higher, KeepsOff, Spares}
use Rattle.batch_apply.specs.Shards.{latest_expiry, has_old_shape}

-- A row without an edge from before the greatest time

up_to : (rs : List Resolved) → All (IsUpTo (latest_expiry rs)) rs
up_to [] = All-nil (IsUpTo 0)
up_to (AtKey of key change ∷ rs) = All-cons (IsUpTo (max 0 (latest_expiry rs))) (AtKey of key change) rs tt
    (all_higher (latest_expiry rs) (max 0 (latest_expiry rs)) (le-max_right 0 (latest_expiry rs)) rs (up_to rs))
up_to (InAll time ∷ rs) = All-cons (IsUpTo (max time (latest_expiry rs))) (InAll time) rs (le-max_left time (latest_expiry rs))
    (all_higher (latest_expiry rs) (max time (latest_expiry rs)) (le-max_right time (latest_expiry rs)) rs (up_to rs))

row_since : (most time : ℕ) → time ≤ most → (row : List Shape) → has_old_shape most row ≡ false
    → (expire_row time (map untouched row) ≡ map untouched row) × (old_in_row time (map untouched row) ≡ 0)
row_since most time le [] none = (refl, refl)
row_since most time le (b ∷ row) none =
    let parts = or_parts (has_before most b.slots) (has_old_shape most row) none in
    let here = none_since most time le (edges_in b.slots) parts.0 in
    let rest = row_since most time le row parts.1 in (
      ap₂ (λ (h : OpenBlock) hs. h ∷ hs)
          (ap (λ t. cond t (touch (slots_since time) (untouched b)) (untouched b)) here.0) rest.0,
      sum_by-cons (λ (h : OpenBlock). old_in time h.shape.slots) (untouched b) (map untouched row)
          ∙ ap₂ (λ (a : ℕ) (k : ℕ). a + k) here.1 rest.1,
    )

spares : (m : ℕ) (most : ℕ) (row : List Shape) → has_old_shape most row ≡ false → (r : Resolved) → KeepsOff m r → IsUpTo most r
    → Spares m (map untouched row) r
spares m most row none r off le = grind (arith, common_steps, row_since)

pub all_spare : (m : ℕ) (rs : List Resolved) (row : List Shape) → has_old_shape (latest_expiry rs) row ≡ false → All (KeepsOff m) rs
    → All (Spares m (map untouched row)) rs
all_spare m rs row none off k d lt = spares m (latest_expiry rs) row none (get_or rs k d) (off k d lt) (up_to rs k d lt)
