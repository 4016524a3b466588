-- Marks that are set.
use Rattle.std.proofs.Common.{◌≡◌, ◌≢◌, ◌↔◌, ℕ, ◌*◌, ◌/◌, ◌%◌, ◌^◌, ◌<◌, List, [], ◌∷◌, ◌++◌, length, set, get_or, arith, inl}
use Rattle.std.proofs.{Common.{inr, sym, ap, ◌∙◌}, lemmas.Bool.{cases_eq, cases_lt, false≢true, Decides.eqb_tells}}
use Rattle.std.proofs.lemmas.{Nat.Bits.{bit_at_set_same, bit_at_set_other, bit_at-zero}, List.{get_or-set_same, get_or-set_other}}
use Rattle.std.{proofs.lemmas.List.{get_or-replicate, get_or_past, length-replicate}, specs.{Prelude.replicate, Int.w64}}
use Rattle.std.{specs.Int.{bit_at, RustNames.bit_or}, proofs.lemmas.Grind.common_steps}
use Rattle.graph_types.specs.declared.ids.VertexId.{VertexId}
use Rattle.graph_levels.{specs.Reached.{AreVertexMarks, IsMarked}, proofs.Tables.stands_push}

-- the word with a bit more
abbrev pub with_bit : ℕ → ℕ → ℕ
with_bit word place = bit_or word (1 * 2 ^ place % 2 ^ 64)

abbrev pub marked_at : List ℕ → ℕ → List ℕ
marked_at marks v = set marks (v / 64) (with_bit (get_or marks (v / 64) 0) (v % 64))

pub marked_same : (marks : List ℕ) (v : ℕ) → v / 64 < length marks → IsMarked (marked_at marks v) v
marked_same marks v lt =
    ap (λ word. bit_at word (v % 64)) (get_or-set_same marks (v / 64) _ 0 lt)
    ∙ bit_at_set_same w64 (get_or marks (v / 64) 0) (v % 64) (omega arith)

marks_alike : (marks : List ℕ) (v w : ℕ) → v / 64 < length marks → w ≢ v
    → bit_at (get_or (marked_at marks v) (w / 64) 0) (w % 64) ≡ bit_at (get_or marks (w / 64) 0) (w % 64)
marks_alike marks v w lt ne = elim (cases_eq (w / 64) (v / 64)) [
  | inl same ↦
      ap (λ k. bit_at (get_or (marked_at marks v) k 0) (w % 64)) same
      ∙ ap (λ word. bit_at word (w % 64)) (get_or-set_same marks (v / 64) _ 0 lt)
      ∙ bit_at_set_other w64 (get_or marks (v / 64) 0) (v % 64) (omega arith) (w % 64) (omega (arith, same, ne))
      ∙ ap (λ k. bit_at (get_or marks k 0) (w % 64)) (sym same)
  | inr other ↦ ap (λ word. bit_at word (w % 64)) (get_or-set_other marks (v / 64) (w / 64) _ 0 other)
]

pub marked_other : (marks : List ℕ) (v w : ℕ) → v / 64 < length marks → w ≢ v
    → (IsMarked (marked_at marks v) w ↔ IsMarked marks w)
marked_other marks v w lt ne = grind (arith, common_steps, marks_alike)

-- one vertex more, with its mark
pub marks_more : (marks new : List ℕ) (rows : List (VertexId × ℕ)) (d v : ℕ) → AreVertexMarks marks rows → IsMarked new v
    → ((w : ℕ) → w ≢ v → (IsMarked new w ↔ IsMarked marks w)) → AreVertexMarks new (rows ++ (record { 0 = v }, d) ∷ [])
marks_more marks new rows d v are marked others w = grind (arith, common_steps, stands_push, eqb_tells)

-- with no bit set nothing is marked
pub none_marked : (count v : ℕ) → IsMarked (replicate count 0) v → ⊥
none_marked count v marked = grind (arith, common_steps, cases_lt, get_or-replicate, get_or_past, length-replicate, bit_at-zero)

pub no_marks : (count : ℕ) → AreVertexMarks (replicate count 0) []
no_marks count v = (λ marked. absurd (none_marked count v marked), λ stands. absurd (false≢true stands))
