-- A mask of the places that pass, one place more at a time.
use Rattle.std.proofs.{Common.{◌≢◌, ◌↔◌, ℕ, ◌+◌, ◌*◌, ◌%◌, ◌^◌, ◌<◌, ◌≤◌, arith, inl, inr, sym, ◌∙◌}, lemmas.Bool.cases_eq}
use Rattle.std.{proofs.lemmas.Nat.Bits.{bit_at_set_same, bit_at_set_other}, specs.Int.{w32, RustNames.bit_or}}
use Rattle.lane_scan.specs.Masks.{InMask}

-- the places below one are judged, and the others are not in the mask yet
pub record IsJudged (P : ℕ → Type 0) (mask next : ℕ) : Type 0 where
  pub below : (place : ℕ) → place < next → (InMask mask place ↔ P place)
  pub above : (place : ℕ) → next ≤ place → InMask mask place → ⊥

-- the next place passes, and is set
pub judged_in : (P : ℕ → Type 0) (mask next : ℕ) → IsJudged P mask next → next < 32 → P next →
    IsJudged P (bit_or mask (1 * 2 ^ next % 2 ^ 32)) (next + 1)
judged_in P mask next h few in' = record {
  below = λ place within. elim (cases_eq place next) [
    | inl e ↦ rw e ((λ _. in'), (λ _. bit_at_set_same w32 mask next few))
    | inr ne ↦ rw (bit_at_set_other w32 mask next few place ne) (h.below place (omega arith))
  ];
  above = λ place past set. let ne : place ≢ next = omega arith in
      h.above place (omega arith) (sym (bit_at_set_other w32 mask next few place ne) ∙ set);
}

-- the next place does not
pub judged_out : (P : ℕ → Type 0) (mask next : ℕ) → IsJudged P mask next → (P next → ⊥) → IsJudged P mask (next + 1)
judged_out P mask next h out = record {
  below = λ place within. elim (cases_eq place next) [
    | inl e ↦ rw e ((λ set. absurd (h.above next (omega arith) set)), (λ in'. absurd (out in')))
    | inr ne ↦ h.below place (omega arith)
  ];
  above = λ place past. h.above place (omega arith);
}
