-- The slots of a run, one edge after another.
use Rattle.std.proofs.Common.{◌≡◌, ◌≢◌, ℕ, zero, suc, ◌-◌, ◌<◌, ◌||◌, Bool, true, false, cond, List, [], ◌∷◌, ◌++◌, map, length, get_or, take, replicate, refl, sym, ap, ◌∙◌, arith, All, append_assoc, Option, Some, None, IsTrue, length-append, inl, inr}
use Rattle.std.proofs.lemmas.{Bool.Decides.eqb_tells, List.{map-append, Elements.All-tail, get_or-take, length-take-le, get_or_default, Folds.{list_any-append}}}
use Rattle.std.specs.{List.list_any, Option.is_some}
use Rattle.graph_types.specs.{Graph.{key_of, stamp_of}, declared.ids.Edge.Edge}
use Rattle.edge_block.specs.Slots.{Slot, holds, is_free_slot, put_slot, at_first, has_room_for}
use Rattle.opening_columns.specs.{Puts.key_number, Edges.{AreRising}, Runs.{IsRun, slot_with, slots_of_run}}

abbrev filled : List Edge → List (Option Slot)
filled run = map (λ e. Some (slot_with e)) run

none_held : (t n : ℕ) → list_any (holds t) (replicate n None) ≡ false
none_held t zero = refl
none_held t (suc n) = none_held t n

not_held : (t : ℕ) (run : List Edge) → All (λ e. e.target.0 ≢ t) run → list_any (holds t) (filled run) ≡ false
not_held t [] apart = refl
not_held t (e ∷ run) apart =
    elim (eqb_tells t e.target.0) [
      | inl same ↦ absurd (apart 0 e (omega arith) (sym same.1))
      | inr other ↦ ap (λ b. is_some (cond b (Some (stamp_of e)) None) || list_any (holds t) (filled run)) other.0
          ∙ not_held t run (All-tail (λ (x : Edge). x.target.0 ≢ t) e run apart)
    ]

room_left : (n : ℕ) → 0 < n → list_any is_free_slot (replicate n None) ≡ true
room_left zero lt = absurd (omega arith)
room_left (suc n) lt = refl

past_filled : (e : Slot) (run : List Edge) (slots : List (Option Slot))
    → at_first is_free_slot (λ _. Some e) (filled run ++ None ∷ slots) ≡ filled run ++ Some e ∷ slots
past_filled e [] slots = refl
past_filled e (x ∷ run) slots = ap (λ (l : List (Option Slot)). Some (slot_with x) ∷ l) (past_filled e run slots)

or_true : (a b : Bool) → b ≡ true → (a || b) ≡ true
or_true true b is = refl
or_true false b is = is

or_false : (a b : Bool) → a ≡ false → b ≡ false → (a || b) ≡ false
or_false a b none none' = ap (λ t. t || b) none ∙ none'

-- fewer than 32 leave room
pub slots_room : (run : List Edge) (t : ℕ) → length run < 32 → IsTrue (has_room_for t (slots_of_run run))
slots_room run t lt =
    or_true (list_any (holds t) (slots_of_run run)) _
    (list_any-append is_free_slot (filled run) (replicate (32 - length run) None)
    ∙ or_true (list_any is_free_slot (filled run)) _ (room_left (32 - length run) (omega arith)))

-- and one more goes behind them
pub slots_put : (run : List Edge) (e : Edge) → length run < 32 → All (λ x. x.target.0 ≢ e.target.0) run
    → put_slot (slot_with e) (slots_of_run run) ≡ slots_of_run (run ++ e ∷ [])
slots_put run e lt apart =
    let t = e.target.0 in
    let rest : 32 - length run ≡ suc (31 - length run) = omega arith in
    let left : 32 - length (run ++ e ∷ []) ≡ 31 - length run = omega (arith, length-append run (e ∷ [])) in
    let held : list_any (holds t) (slots_of_run run) ≡ false = list_any-append (holds t) (filled run) (replicate (32 - length run) None)
    ∙ or_false (list_any (holds t) (filled run)) (list_any (holds t) (replicate (32 - length run) None)) (not_held t run apart)
    (none_held t (32 - length run)) in
    ap (λ b. cond b (at_first (holds t) (λ _. Some (slot_with e)) (slots_of_run run))
    (at_first is_free_slot (λ _. Some (slot_with e)) (slots_of_run run))) held
    ∙ ap (λ n. at_first is_free_slot (λ _. Some (slot_with e)) (filled run ++ replicate n None)) rest
    ∙ past_filled (slot_with e) run (replicate (31 - length run) None)
    ∙ sym (ap (λ (l : List (Option Slot)). l ++ replicate (32 - length (run ++ e ∷ [])) None) (map-append (λ (x : Edge). Some (slot_with x)) run (e ∷ []))
    ∙ append_assoc (filled run) (Some (slot_with e) ∷ []) (replicate (32 - length (run ++ e ∷ [])) None)
    ∙ ap (λ n. filled run ++ Some (slot_with e) ∷ replicate n None) left)

-- the targets of a run differ
pub targets_apart : (run : List Edge) (i : ℕ) (d : Edge) → AreRising run → IsRun run → i < length run
    → All (λ x. x.target.0 ≢ (get_or run i d).target.0) (take i run)
targets_apart run i d up is lt k e within same =
    let few : k < i = (let long = length-take-le i run (omega arith) in omega arith) in
    let at : get_or (take i run) k e ≡ get_or run k d = get_or-take i run k e few ∙ get_or_default run k e d (omega arith) in
    let less = up k i d few lt in
    let alike = is.alike k i d (omega arith) lt in
    let equal : key_of (get_or run k d) ≡ key_of (get_or run i d) = (λ j. record {
      kind = alike.1 j;
      source = alike.0 j;
      target = (ap (λ (x : Edge). x.target.0) (sym at) ∙ same) j;
    }) in
    let numbers = ap key_number equal in omega arith
