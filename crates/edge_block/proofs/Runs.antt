-- Edges at a block's first places: their targets are a beginning of the column.
use Rattle.std.proofs.Common.{◌≡◌, ℕ, suc, ◌+◌, ◌-◌, ◌^◌, ◌<◌, ◌≤◌, ℤ, List, [], ◌∷◌, length, get_or, map, take, refl, sym, ap}
use Rattle.std.proofs.{Common.{◌∙◌, inl, inr, arith}, Math.Seq.take-nil, lemmas.Bool.{eq-eqb, ne_eqb, cases_lt}}
use Rattle.std.{proofs.lemmas.Nat.Bits.{bit_at_ones, bit_at_ones_above}, specs.Int.{bit_at, RustNames.bit_and}}
use Rattle.std.specs.{Option.option_map, declared.option.Option.{Option, TheVariants.{None, Some}}}
use Rattle.std.proofs.lemmas.Grind.{common_steps}
use Rattle.graph_types.specs.Graph.{Key, Stamp}
use Rattle.lane_scan.specs.Masks.{InMask, selected_from, selected}
use Rattle.lane_scan.proofs.MaskPlaces.{due_lives}
use Rattle.edge_block.specs.{Slots.{Slot, BlockView, edges_in}, Columns.slots_of, Lending.{LentEdge, lent_in, lent_of}}
use Rattle.edge_block.proofs.{Places.{length-slots_of, slot_live}, Views.edges_due}

-- one edge more in front
more_targets : (s : Option Slot) (t n : ℕ) (chosen : List (Option Slot)) (ts : List ℕ)
    → option_map (λ (e : Slot). e.target) s ≡ Some t
    → map (λ (e : Slot). e.target) (edges_in chosen) ≡ take n ts
    → map (λ (e : Slot). e.target) (edges_in (s ∷ chosen)) ≡ take (suc n) (t ∷ ts)
more_targets h0 t n chosen ts is rest = grind (arith, common_steps)

first_targets : (used place : ℕ) (slots : List (Option Slot)) (ts : List ℕ) → length slots ≡ length ts
    → ((k : ℕ) → k < length ts → place + k < used → option_map (λ (e : Slot). e.target) (get_or slots k None) ≡ Some (get_or ts k 0))
    → map (λ (e : Slot). e.target) (edges_in (selected_from (2 ^ used - 1) place slots)) ≡ take (used - place) ts
first_targets used place [] [] long at = sym (take-nil (used - place))
first_targets used place (s ∷ slots) (t ∷ ts) long at =
    let rest = first_targets used (place + 1) slots ts (omega arith) (λ k within below. at (suc k) (omega arith) (omega arith)) in
    elim (cases_lt place used) [
      | inl lt ↦
          let one : used - place ≡ suc (used - (place + 1)) = omega arith in
          rw (eq-eqb (bit_at (2 ^ used - 1) place) 1 (bit_at_ones used place lt), one)
          (more_targets s t (used - (place + 1)) (selected_from (2 ^ used - 1) (place + 1) slots) ts (at 0 (omega arith) (omega arith)) rest)
      | inr past ↦
          let none : used - place ≡ 0 = omega arith in
          let none' : used - (place + 1) ≡ 0 = omega arith in
          rw (ne_eqb (bit_at (2 ^ used - 1) place) 1 (λ set. omega (arith, bit_at_ones_above used place past)), none)
          (rw none' at rest)
    ]
first_targets used place _ _ long at = absurd (omega arith)

-- the targets of a view's edges, which stand at the first places that are due
pub run_targets : (mask used live : ℕ) (ts : List ℕ) (ws : List ℤ) (fs rs : List ℕ) → length ts ≡ 32 → used ≤ 32
    → bit_and mask live ≡ 2 ^ used - 1
    → map (λ (e : Slot). e.target) (edges_in (selected mask (slots_of live ts ws fs rs))) ≡ take used ts
run_targets mask used live ts ws fs rs long few run =
    ap (map (λ (e : Slot). e.target)) (edges_due mask live ts ws fs rs)
    ∙ ap (λ m. map (λ (e : Slot). e.target) (edges_in (selected m (slots_of live ts ws fs rs)))) run
    ∙ first_targets used 0 (slots_of live ts ws fs rs) ts (omega (arith, long, length-slots_of live ts ws fs rs))
    (λ k within below.
    let lives : InMask live k = due_lives mask live k (rw run (bit_at_ones used k (omega arith))) in
    rw (slot_live live ts ws fs rs k None (omega (arith, long)) lives) refl)
    ∙ ap (λ n. take n ts) (let same : used - 0 ≡ used = omega arith in same)

-- the targets of edges as a block lends them, and of the entries of a map
abbrev pub lent_targets : List LentEdge → List ℕ
lent_targets edges = map (λ e. e.target) edges

pub targets_in_slots : (b : BlockView) (edges : List Slot) → lent_targets (map (lent_in b) edges) ≡ map (λ e. e.target) edges
targets_in_slots b [] = refl
targets_in_slots b (e ∷ edges) = ap (λ ts. e.target ∷ ts) (targets_in_slots b edges)

pub targets_of_entries : (entries : List (Key × Stamp)) → lent_targets (map lent_of entries) ≡ map (λ e. e.0.target) entries
targets_of_entries [] = refl
targets_of_entries (e ∷ entries) = ap (λ ts. e.0.target ∷ ts) (targets_of_entries entries)
