-- How often a number or a block stands in a list.
use Rattle.std.proofs.Common.{◌≡◌, ℕ, suc, ◌+◌, ◌<◌, ◌≤◌, ◌==◌, Bool, true, false, cond, ◌&&◌, ◌||◌, List, [], ◌∷◌, length}
use Rattle.std.proofs.{Common.{get_or, count_by, Decides, refl, sym, ap, subst, ◌∙◌, arith}, lemmas.Bool.{eq-eqb, eqb-true}}
use Rattle.std.proofs.lemmas.{Bool.Decides.{Decides-and, Decides-eqb, Decides-like}, Slice.Eq.slice_eq-Decides}
use Rattle.std.{proofs.lemmas.Grind.common_steps, specs.Prelude.Contains, specs.Cmp.Lexicographic.pointwise}
use Rattle.std.specs.declared.option.Option.{Option, TheVariants.None, TheVariants.Some}
use Rattle.epoch_core.specs.{Blocks.all_differ, Posting.same_stamp}
use Rattle.edge_block.specs.Slots.{BlockView, Slot}
use Rattle.block_reclamation.specs.Status.{is_among}
use Rattle.graph_types.proofs.{Sums.count_more, Times.times}
use Rattle.graph_types.proofs.Times.{is_some_times, none_times, zero_times}
use Rattle.epoch_core.proofs.BlockSteps.{differ_tail, differ_head}

pub in_times : (m : ℕ) (ns : List ℕ) → is_among m ns ≡ is_some_times (times m ns)
in_times m [] = refl
in_times m (n ∷ ns) =
    elim (n == m) as (λ t. (t || is_among m ns) ≡ is_some_times (cond t 1 0 + times m ns)) [
      | true ↦ (let one : 1 + times m ns ≡ suc (times m ns) = omega arith in sym (ap is_some_times one))
      | false ↦ (let same : 0 + times m ns ≡ times m ns = omega arith in in_times m ns ∙ sym (ap is_some_times same))
    ] ∙ sym (ap is_some_times (count_more (λ x. x == m) n ns))

pub once_at_most : (m : ℕ) (ns : List ℕ) → all_differ ns ≡ true → times m ns ≤ 1
once_at_most m [] apart = omega arith
once_at_most m (n ∷ ns) apart =
    let more = count_more (λ x. x == m) n ns in
    let rest : times m ns ≤ 1 = once_at_most m ns (differ_tail n ns apart) in
    let none : times n ns ≡ 0 = none_times (times n ns) (sym (in_times n ns) ∙ differ_head n ns apart) in
    let whole : cond (n == m) 1 0 + times m ns ≤ 1 = elim (n == m) as (λ t. (n == m) ≡ t → cond t 1 0 + times m ns ≤ 1) [
      | true ↦ λ e. (let same : times m ns ≡ 0 = subst (λ x. times x ns ≡ 0) (eqb-true n m e) none in omega arith)
      | false ↦ λ e. omega arith
    ] refl in
    omega arith

pub apart_if : (ns : List ℕ) → ((m : ℕ) → times m ns ≤ 1) → all_differ ns ≡ true
apart_if [] once = refl
apart_if (n ∷ ns) once =
    let here : (n == n) ≡ true = eq-eqb n n refl in
    let twice : times n (n ∷ ns) ≤ 1 = once n in
    let count : times n (n ∷ ns) ≡ 1 + times n ns = count_more (λ x. x == n) n ns ∙ ap (λ t. cond t 1 0 + times n ns) here in
    let none : is_among n ns ≡ false = in_times n ns ∙ zero_times (times n ns) (omega arith) in
    rw none (apart_if ns (λ m. let whole : times m (n ∷ ns) ≤ 1 = once m in let more =
    count_more (λ x. x == m) n ns in omega arith))

-- Blocks by their whole value

abbrev same_slot : Option Slot → Option Slot → Bool
same_slot None None = true
same_slot None (Some b) = false
same_slot (Some a) None = false
same_slot (Some a) (Some b) = (a.target == b.target) && same_stamp a.stamp b.stamp

Decides-same_slot : (a b : Option Slot) → Decides (same_slot a b) (a ≡ b)
Decides-same_slot a b = grind (arith, common_steps)

-- whether two blocks are equal in all
abbrev pub same_block : BlockView → BlockView → Bool
same_block a b = (a.number == b.number) && (a.source == b.source) && (a.kind == b.kind) && pointwise same_slot a.slots b.slots

pub Decides-same_block : (a b : BlockView) → Decides (same_block a b) (a ≡ b)
Decides-same_block a b = grind (arith, common_steps, Decides-like, Decides-and, Decides-eqb, slice_eq-Decides, Decides-same_slot)

-- a block that is listed is counted
pub counted : (b : BlockView) (bs : List BlockView) (k : ℕ) → k < length bs → get_or bs k b ≡ b
    → 1 ≤ count_by (λ x. same_block x b) bs
counted b bs k h at = grind (arith, common_steps, Decides-same_block, count_more)

-- a block that is counted is listed
pub listed : (b : BlockView) (bs : List BlockView) → 1 ≤ count_by (λ x. same_block x b) bs → Contains bs b
listed b [] h = absurd (omega arith)
listed b (c ∷ cs) h =
    elim (same_block c b) as (λ t. same_block c b ≡ t → count_by (λ x. same_block x b) (c ∷ cs)
    ≡ cond t 1 0 + count_by (λ x. same_block x b) cs → Contains (c ∷ cs) b) [
      | true ↦ λ is e. (0, omega arith, (Decides-same_block c b).0 is)
      | false ↦ λ is e. (let rest = listed b cs (omega arith) in (suc rest.0, omega (arith, rest.1), rest.2))
    ] refl (count_more (λ x. same_block x b) c cs)
