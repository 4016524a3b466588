-- Stacks of the retired numbers.
use Rattle.std.proofs.Common.{◌≡◌, ◌≢◌, inl, inr, ℕ, suc, ◌+◌, ◌-◌, ◌<◌, ◌≤◌, ◌==◌, List, [], ◌∷◌, length, get_or, set}
use Rattle.std.proofs.Common.{count_by, replicate, Bool, true, false, cond, ◌||◌, refl, sym, ap, subst, ◌∙◌, arith, Option, None}
use Rattle.std.proofs.lemmas.Bool.{true≢false, false≢true, cases_eq, cases_lt, false_from_ne_true}
use Rattle.std.proofs.lemmas.List.{get_or-set_other, length-replicate, Folds.sum_by-replicate}
use Rattle.std.proofs.{lemmas.List.Sums.{sum_by-cons, count_by-le-length}, Math.ListN.length-set}
use Rattle.std.specs.Prelude.{sum_by}
use Rattle.std.proofs.lemmas.Grind.{common_steps}
use Rattle.block_reclamation.specs.declared.{copies.{PinCopy.PinCopy, TheConstants.SEATS}, status.BlockStatus.BlockStatus}
use Rattle.block_reclamation.specs.{declared.status.BlockStatus.TheVariants.{Free, Granted}, Status.{is_among, is_retired}}
use Rattle.block_reclamation.specs.Status.{is_reclaimable}
use Rattle.block_reclamation.proofs.Recycling.{past_retired}
use Rattle.graph_types.proofs.{Numbers.same_number, Sums.{count_more, count_true}}
use Rattle.block_pool.specs.{Chains.{Stacks, stack_of, below_top, AreAbsent}, declared.numbers.{Numbers.Numbers, TheConstants.{LOOSE, LATE}}}
use Rattle.block_pool.specs.Kept.{IsNumbers, AreRoomy, statuses, status_of, tally, AreNeeded, HasPins, IsSorted, FitsWitness, top_of, put_on, taken_off, moved}
use Rattle.block_pool.proofs.Tallies.{count_lt, tally_at, tally_has_one, tally_true}
use Rattle.block_pool.proofs.{Tallies.{tally_here, none_retired}, Grants.tally_once}

-- what is counted is in the list, and what is in it is counted
counted_in : (n : ℕ) (ns : List ℕ) → 1 ≤ count_by (λ k. k == n) ns → is_among n ns ≡ true
counted_in n [] h = absurd (omega arith)
counted_in n (m ∷ ns) h =
    elim (m == n) as (λ b. count_by (λ k. k == n) (m ∷ ns) ≡ cond b 1 0 + count_by (λ k. k == n) ns
    → (b || is_among n ns) ≡ true) [
      | true ↦ λ _. refl
      | false ↦ λ c. counted_in n ns (omega arith)
    ] (count_more (λ k. k == n) m ns)

in_counted : (n : ℕ) (ns : List ℕ) → is_among n ns ≡ true → 1 ≤ count_by (λ k. k == n) ns
in_counted n [] h = absurd (false≢true h)
in_counted n (m ∷ ns) h =
    elim (m == n) as (λ b. (b || is_among n ns) ≡ true
    → count_by (λ k. k == n) (m ∷ ns) ≡ cond b 1 0 + count_by (λ k. k == n) ns → 1 ≤ count_by (λ k. k == n) (m ∷ ns)) [
      | true ↦ λ _ c. omega arith
      | false ↦ λ is c. let rest = in_counted n ns is in omega arith
    ] h (count_more (λ k. k == n) m ns)

not_counted : (n : ℕ) (ns : List ℕ) → count_by (λ k. k == n) ns ≡ 0 → is_among n ns ≡ false
not_counted n ns none = false_from_ne_true (is_among n ns) (λ t. let c = in_counted n ns t in omega arith)

-- the numbers of all stacks, with one put on and with one taken off
sum_put : (q : ℕ → Bool) (lists : List (List ℕ)) (stack n : ℕ) → stack < length lists
    → sum_by (count_by q) (put_on stack n lists) ≡ sum_by (count_by q) lists + cond (q n) 1 0
sum_put q lists stack n lt = grind (arith, common_steps)

sum_taken : (q : ℕ → Bool) (lists : List (List ℕ)) (stack : ℕ) → stack < length lists → 0 < length (stack_of lists stack)
    → sum_by (count_by q) (taken_off stack lists) + cond (q (top_of (stack_of lists stack))) 1 0 ≡ sum_by (count_by q) lists
sum_taken q lists stack lt some = grind (arith, common_steps)

-- a stack's numbers are some of all
stack_count : (q : ℕ → Bool) (lists : List (List ℕ)) (stack : ℕ)
    → count_by q (stack_of lists stack) ≤ sum_by (count_by q) lists
stack_count q lists stack = grind (arith, common_steps)

-- what is counted is in a stack
stack_with : (q : ℕ → Bool) (lists : List (List ℕ)) → 1 ≤ sum_by (count_by q) lists
    → (stack : ℕ) × ((stack < length lists) × (1 ≤ count_by q (stack_of lists stack)))
stack_with q [] h = absurd (omega arith)
stack_with q (ns ∷ lists) h =
    let c = sum_by-cons (count_by q) ns lists in
    elim (cases_lt 0 (count_by q ns)) [
      | inl lt ↦ (0, (omega arith, omega arith))
      | inr le ↦ let rest = stack_with q lists (omega arith) in (suc rest.0, (omega (arith, rest.1.0), rest.1.1))
    ]

tally_none : (p : BlockStatus → Bool) (pool : List BlockStatus) (k : ℕ) → p (status_of pool k) ≡ false
    → tally p (λ n. n == k) 0 pool ≡ 0
tally_none p pool k not =
    elim (cases_lt 0 (tally p (λ n. n == k) 0 pool)) [
      | inl lt ↦
          let at = tally_at p k 0 pool Granted lt in
          let z : k - 0 ≡ k = omega arith in
          absurd (true≢false (sym at.2 ∙ ap (λ j. p (get_or pool j Granted)) z ∙ not))
      | inr le ↦ omega arith
    ]

-- what a copy needs
module _ (copy : PinCopy) (pool : List BlockStatus) where
  pub needed_none : AreNeeded copy pool []
  needed_none n is = absurd (false≢true is)

  needed_off : (lists : List (List ℕ)) (from at : ℕ) → from < length lists → AreNeeded copy pool (stack_of lists at)
      → AreNeeded copy pool (stack_of (taken_off from lists) at)
  needed_off lists from at lt are = grind (arith, common_steps)

  pub needed_moved : (lists : List (List ℕ)) (from to at : ℕ) → from < length lists → to < length lists
      → (at ≡ to → is_reclaimable copy (status_of pool (top_of (stack_of lists from))) ≡ false) → AreNeeded copy pool (stack_of lists at)
      → AreNeeded copy pool (stack_of (moved from to lists) at)
  needed_moved lists from to at lf lt fits are = grind (arith, common_steps)

  -- a status that isn't due
  needed_set : (k : ℕ) (s : BlockStatus) (ns : List ℕ) → k < length pool → is_reclaimable copy s ≡ false → AreNeeded copy pool ns
      → AreNeeded copy (set pool k s) ns
  needed_set k s ns lt never are n is = grind (arith, common_steps)

  -- a status of a number that isn't in the list
  needed_else : (k : ℕ) (s : BlockStatus) (ns : List ℕ) → is_among k ns ≡ false → AreNeeded copy pool ns
      → AreNeeded copy (set pool k s) ns
  needed_else k s ns out are n is = grind (arith, common_steps)

  pub needed_freed : (lists : List (List ℕ)) (at k : ℕ) → LOOSE < length lists → k < length pool
      → AreNeeded copy pool (stack_of lists at) → AreNeeded copy (set pool k Free) (stack_of (taken_off LOOSE lists) at)
  needed_freed lists at k lt within are =
      needed_set k Free (stack_of (taken_off LOOSE lists) at) within refl (needed_off lists LOOSE at lt are)

module _ {pool : List BlockStatus} {pins : List (Option ℕ)} {least : ℕ} {lists : List (List ℕ)} (are : IsSorted pool pins least lists)
  where
    all_count : (q : ℕ → Bool) (stack : ℕ) → count_by q (stack_of lists stack) ≤ tally is_retired q 0 pool
    all_count q stack = let c = stack_count q lists stack in let l = are.listed q in omega arith

    -- a number that isn't retired is in no stack
    pub absent : (k : ℕ) → is_retired (status_of pool k) ≡ false → AreAbsent k lists
    absent k not stack =
        let c = all_count (λ n. n == k) stack in
        let z = tally_none is_retired pool k not in
        not_counted k (stack_of lists stack) (omega arith)

    -- so there is room for it
    pub room : (k stack : ℕ) → k < length pool → is_retired (status_of pool k) ≡ false
        → length (stack_of lists stack) < length pool
    room k stack lt not =
        let c = all_count (λ _. true) stack in
        let few = count_lt is_retired pool k Granted lt not in
        let t = tally_true is_retired 0 pool in
        let e = count_true (stack_of lists stack) in
        omega arith

    -- a status that no list tells of
    pub sorted_set : (k : ℕ) (s : BlockStatus) → k < length pool → is_retired (status_of pool k) ≡ false → is_retired s ≡ false
        → ((copy : PinCopy) → is_reclaimable copy s ≡ false) → IsSorted (set pool k s) pins least lists
    sorted_set k s lt not not_now never = grind (arith, common_steps, tally_here, needed_set)

    -- a number that is retired is loose
    pub sorted_retired : (k : ℕ) (s : BlockStatus) → k < length pool → is_retired (status_of pool k) ≡ false → is_retired s ≡ true
        → IsSorted (set pool k s) pins least (put_on LOOSE k lists)
    sorted_retired k s lt not now =
        let many = are.many in
        let long = length-set lists LOOSE (k ∷ stack_of lists LOOSE) in
        record {
          many = omega arith;
          listed = λ q.
              let old = are.listed q in
              let put = sum_put q lists LOOSE k (omega arith) in
              let t = rw not at (rw now at (tally_here is_retired q pool k s lt)) in
              omega arith;
          held = λ copy seat low is.
              let ne : seat ≢ LOOSE = omega arith in
              rw (get_or-set_other lists LOOSE seat (k ∷ stack_of lists LOOSE) [] ne)
              (needed_else copy pool k s (stack_of lists seat) (absent k not seat) (are.held copy seat low is));
          late = λ copy less.
              let ne : LATE ≢ LOOSE = omega arith in
              rw (get_or-set_other lists LOOSE LATE (k ∷ stack_of lists LOOSE) [] ne)
              (needed_else copy pool k s (stack_of lists LATE) (absent k not LATE) (are.late copy less));
        }

    -- the pin of a seat with an empty stack
    pub sorted_pin : (seat : ℕ) (pin : Option ℕ) → stack_of lists seat ≡ [] → IsSorted pool (set pins seat pin) least lists
    sorted_pin seat pin empty = grind (arith, common_steps)

    pub sorted_least : (m : ℕ) → stack_of lists LATE ≡ [] → IsSorted pool pins m lists
    sorted_least m empty = grind (arith, common_steps)

    -- where each stack is needed, nothing is due
    pub all_sorted : (copy : PinCopy) → HasPins copy pins → AreNeeded copy pool (stack_of lists LATE)
        → stack_of lists LOOSE ≡ [] → (k : ℕ) → k < length pool → is_reclaimable copy (status_of pool k) ≡ false
    all_sorted copy has late empty k lt =
        elim (is_retired (status_of pool k)) as (λ b. is_retired (status_of pool k) ≡ b
        → is_reclaimable copy (status_of pool k) ≡ false) [
          | true ↦ λ t.
              let l = are.listed (λ n. n == k) in
              let one = tally_has_one is_retired k pool lt t in
              let found = stack_with (λ n. n == k) lists (omega arith) in
              in_stack found.0 (omega (arith, found.1.0, are.many)) (counted_in k (stack_of lists found.0) found.1.1)
          | false ↦ λ t. past_retired copy (status_of pool k) t
        ] refl
      where
        in_stack : (stack : ℕ) → stack ≤ LATE → is_among k (stack_of lists stack) ≡ true → is_reclaimable copy (status_of pool k) ≡ false
        in_stack stack within is =
            elim (cases_lt stack SEATS) [
              | inl low ↦ are.held copy stack low (has stack low) k is
              | inr high ↦ elim (cases_eq stack LATE) [
                | inl e ↦ late k (sym (ap (λ j. is_among k (stack_of lists j)) e) ∙ is)
                | inr ne ↦
                    let e : stack ≡ LOOSE = omega arith in
                    absurd (false≢true (sym (ap (is_among k) (ap (stack_of lists) e ∙ empty)) ∙ is))
              ]
            ]

    -- a stack's top
    module _ (from : ℕ) (low : from ≤ LATE) (some : 0 < length (stack_of lists from)) where
      pub top_listed : (top_of (stack_of lists from) < length pool)
          × (is_retired (status_of pool (top_of (stack_of lists from))) ≡ true)
      top_listed =
          let n : ℕ = top_of (stack_of lists from) in
          let many = are.many in
          let s = sum_taken (λ k. k == n) lists from (omega arith) some in
          let one : (let x : ℕ = cond (n == n) 1 0 in x) ≡ 1 = ap (λ b. cond b 1 0) (same_number n) in
          let l = are.listed (λ k. k == n) in
          let at = tally_at is_retired n 0 pool Granted (omega arith) in
          let z : n - 0 ≡ n = omega arith in
          (omega (arith, at.1), sym (ap (λ j. is_retired (get_or pool j Granted)) z) ∙ at.2)

      -- where it was taken off, it is in no stack, and there is room for it
      pub top_absent : AreAbsent (top_of (stack_of lists from)) (taken_off from lists)
      top_absent stack =
          let n : ℕ = top_of (stack_of lists from) in
          let many = are.many in
          let s = sum_taken (λ k. k == n) lists from (omega arith) some in
          let one : (let x : ℕ = cond (n == n) 1 0 in x) ≡ 1 = ap (λ b. cond b 1 0) (same_number n) in
          let l = are.listed (λ k. k == n) in
          let once = tally_once is_retired n 0 pool in
          let c = stack_count (λ k. k == n) (taken_off from lists) stack in
          not_counted n (stack_of (taken_off from lists) stack) (omega arith)

      pub top_room : (stack : ℕ) → length (stack_of (taken_off from lists) stack) < length pool
      top_room stack =
          let many = are.many in
          let s = sum_taken (λ _. true) lists from (omega arith) some in
          let l = are.listed (λ _. true) in
          let t = tally_true is_retired 0 pool in
          let few = count_by-le-length is_retired pool in
          let c = stack_count (λ _. true) (taken_off from lists) stack in
          let e = count_true (stack_of (taken_off from lists) stack) in
          omega arith

      pub sorted_moved : (to : ℕ) → to ≤ LATE → FitsWitness pool pins least to (top_of (stack_of lists from))
          → IsSorted pool pins least (moved from to lists)
      sorted_moved to lt fits =
          let n : ℕ = top_of (stack_of lists from) in
          let many = are.many in
          let long = length-set lists from (below_top (stack_of lists from)) in
          let long_after = length-set (taken_off from lists) to (n ∷ stack_of (taken_off from lists) to) in
          record {
            many = omega arith;
            listed = λ q.
                let old = are.listed q in
                let off = sum_taken q lists from (omega arith) some in
                let on = sum_put q (taken_off from lists) to n (omega arith) in
                omega arith;
            held = λ copy seat within is.
                needed_moved copy pool lists from to seat (omega arith) (omega arith)
                (λ e. fits.held copy (omega arith) (ap (λ j. get_or copy.settled j None) (sym e) ∙ is ∙ ap (λ j. get_or pins j None) e))
                (are.held copy seat within is);
            late = λ copy less.
                needed_moved copy pool lists from to LATE (omega arith) (omega arith) (λ e. fits.late copy (sym e) less)
                (are.late copy less);
          }

    -- the top of the loose numbers freed
    pub sorted_freed : 0 < length (stack_of lists LOOSE)
        → IsSorted (set pool (top_of (stack_of lists LOOSE)) Free) pins least (taken_off LOOSE lists)
    sorted_freed some =
        let n : ℕ = top_of (stack_of lists LOOSE) in
        let many = are.many in
        let is = top_listed LOOSE (omega arith) some in
        let within : n < length pool = is.0 in
        let now : is_retired (status_of pool n) ≡ true = is.1 in
        let long = length-set lists LOOSE (below_top (stack_of lists LOOSE)) in
        record {
          many = omega arith;
          listed = λ q.
              let old = are.listed q in
              let off = sum_taken q lists LOOSE (omega arith) some in
              let t = rw now at (tally_here is_retired q pool n Free within) in
              omega arith;
          held = λ copy seat low same. needed_freed copy pool lists seat n (omega arith) within (are.held copy seat low same);
          late = λ copy less. needed_freed copy pool lists LATE n (omega arith) within (are.late copy less);
        }

-- no number is retired at first
none_at : (k at : ℕ) → stack_of (replicate k []) at ≡ []
none_at h0 at = grind (arith, common_steps)

pub sorted_first : (count least : ℕ) (pins : List (Option ℕ)) → IsSorted (replicate count Free) pins least (replicate 18 [])
sorted_first count least pins = record {
  many = let empty : List ℕ = [] in length-replicate 18 empty;
  listed = λ q. sum_by-replicate (count_by q) 18 [] ∙ sym (none_retired q 0 count);
  held = λ copy seat low is. subst (AreNeeded copy (replicate count Free)) (sym (none_at 18 seat)) (needed_none copy (replicate count Free));
  late = λ copy less. subst (AreNeeded copy (replicate count Free)) (sym (none_at 18 LATE)) (needed_none copy (replicate count Free));
}

pub shorter_moved : (lists : List (List ℕ)) (from to : ℕ) → from < length lists → from ≢ to → 0 < length (stack_of lists from)
    → length (stack_of (moved from to lists) from) + 1 ≡ length (stack_of lists from)
shorter_moved lists from to lt ne some = grind (arith, common_steps)

-- other stacks of the same numbers, or other pins
pub restacked : (n : Numbers) → IsNumbers n → (retired : Stacks) (pins : List (Option ℕ)) (least : ℕ)
    → retired.bound ≡ n.retired.bound → retired.rooms ≡ n.retired.rooms → length pins ≡ SEATS
    → IsSorted (statuses n) pins least retired.lists → IsNumbers (record n { retired = retired; pins = pins; least = least })
restacked n k retired pins least bound rooms seats sorted = record {
  few = k.few;
  free_room = k.free_room;
  bound = bound ∙ k.bound;
  seats = seats;
  free_in = k.free_in;
  free_are = k.free_are;
  retired_in = k.retired_in;
  sorted = sorted;
  roomy = subst (λ r. AreRoomy (statuses n) n.free_len n.statuses.rooms r n.free.rooms) (sym rooms) k.roomy;
}
