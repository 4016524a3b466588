-- An expiry of a row of the program's blocks.
use Rattle.std.proofs.Common.{◌≡◌, ℕ, ◌+◌, ◌%◌, ◌^◌, ◌<◌, ◌≤◌, true, false, cond, List, length, get_or, set, take, sym, ap, ◌∙◌}
use Rattle.std.proofs.{Common.{arith, All}, lemmas.List.{map-set, get_or-map, length-map, Elements.All-set}}
use Rattle.std.specs.{List.{list_any, sum_by}, declared.option.Option.{Option, TheVariants.{None, Some}}}
use Rattle.std.proofs.lemmas.{List.Sums.{sum_by_more, sum_by-set}, Grind.common_steps}
use Rattle.graph_types.proofs.{OutcomeSteps.mod_more, Sums.count_there}
use Rattle.graph_types.proofs.MappedFirst.{map_first_there, map_first, map_first_more}
use Rattle.edge_block.specs.{Slots.{slots_since, has_before, old_in, holds}, Rows.{OpenBlock, touch, expire_block, expire_row}}
use Rattle.edge_block.proofs.OldSlots.{holds_since}
use Rattle.batch_shards.specs.{RowBlocks.{block_of, open_of, opens, IsOf}, Notes.IsNoted, Spending.{is_unspent, unspent}}
use Rattle.batch_shards.specs.declared.{notes.Notes.Notes, row_blocks.RowBlock.RowBlock}
use Rattle.batch_shards.proofs.Expiring.{expired_owes}

module _ (row : List RowBlock) (k : ℕ) (h : RowBlock) (lt : k < length row) (is : h ≡ get_or row k h) where
  pub open_there : get_or (opens row) k (open_of h) ≡ open_of h
  open_there = get_or-map open_of row k h (open_of h) lt ∙ ap open_of (sym is)

  inside : k < length (opens row)
  inside = let same = length-map row open_of in omega arith

  -- a block that owes one is one of those of its row
  pub owes_here : (time : ℕ) → is_unspent time (open_of h) ≡ true → 0 < unspent time (opens row)
  owes_here time e = count_there (is_unspent time) (opens row) k (open_of h) inside (ap (is_unspent time) open_there ∙ e)

  module _ (time : ℕ) (first : List OpenBlock) (done : opens row ≡ map_first (expire_block time) k first) where
    pub first_there : get_or first k (open_of h) ≡ open_of h
    first_there = grind (arith, common_steps, map_first_there, open_there)

    within : k < length first
    within = omega (arith, Rattle.graph_types.proofs.MappedFirst.map_first_long (expire_block time) k first, ap length done, inside)

    pub set_here : (y : RowBlock) → open_of y ≡ expire_block time (open_of h)
        → opens (set row k y) ≡ map_first (expire_block time) (k + 1) first
    set_here y shown = grind (arith, common_steps, map-set, map_first_more, within, first_there)

    pub count_here : (count gone : ℕ) → count ≡ sum_by (λ b. old_in time b.shape.slots) (take k first) % 2 ^ 64
        → gone ≡ old_in time (block_of h.block).slots
        → (count + gone) % 2 ^ 64 ≡ sum_by (λ b. old_in time b.shape.slots) (take (k + 1) first) % 2 ^ 64
    count_here count gone was is_gone =
        let f : OpenBlock → ℕ = λ b. old_in time b.shape.slots in
        ap (λ n. (n + gone) % 2 ^ 64) was
        ∙ mod_more (sum_by f (take k first)) gone (2 ^ 64)
        ∙ ap (λ n. (sum_by f (take k first) + n) % 2 ^ 64) (is_gone ∙ ap f (sym first_there))
        ∙ ap (λ n. n % 2 ^ 64) (sym (sum_by_more f first k (open_of h) within))

  pub few_here : (time t before now y_fresh : ℕ) (y : RowBlock) (owed : ℕ) → time ≤ t
      → open_of y ≡ expire_block time (open_of h)
      → before + unspent t (opens row) ≤ now + owed → now ≤ y_fresh + cond (is_unspent time (open_of h)) 1 0
      → before + unspent t (opens (set row k y)) ≤ y_fresh + owed
  few_here time t before now y_fresh y owed le shown few took =
      let a = sum_by-set (λ x. cond (is_unspent t x) 1 0) (opens row) k (open_of y) (open_of h) inside in
      let b = expired_owes time t (open_of h) le in
      let one : OpenBlock → ℕ = λ o. cond (is_unspent t o) 1 0 in
      let c : one (open_of y) ≡ one (expire_block time (open_of h)) = ap one shown in
      let d : one (get_or (opens row) k (open_of h)) ≡ one (open_of h) = ap one open_there in
      let e : unspent t (opens (set row k y)) ≡ unspent t (set (opens row) k (open_of y)) =
      ap (unspent t) (map-set open_of row k y) in
      omega (arith, a, b, c, d, e, few, took)

-- a row with one block changed is of its source
pub all_set : (row : List RowBlock) (k : ℕ) (h : RowBlock) → k < length row → h ≡ get_or row k h → (y : RowBlock) (source : ℕ)
    → (block_of y.block).source ≡ (block_of h.block).source → All (IsOf source) row → All (IsOf source) (set row k y)
all_set row k h lt is y source same all = grind (arith, common_steps, All-set)

-- notes of a row hold behind an expiry
module _ (time : ℕ) where
  stands_since : (target : ℕ) (o : OpenBlock) → list_any (holds target) (expire_block time o).shape.slots ≡ true
      → list_any (holds target) o.shape.slots ≡ true
  stands_since target o =
      elim (has_before time o.shape.slots) as (λ b. list_any (holds target) (cond b (touch (slots_since time) o) o).shape.slots ≡ true
      → list_any (holds target) o.shape.slots ≡ true) [
        | true ↦ λ e. holds_since time target o.shape.slots e
        | false ↦ λ e. e
      ]

  pub noted_since : (notes : Option Notes) (row new : List RowBlock) → opens new ≡ expire_row time (opens row)
      → IsNoted notes row → IsNoted notes new
  noted_since None row new e noted = tt
  noted_since (Some n) row new e noted = λ target i d lt has.
      let long : length new ≡ length row =
      sym (length-map new open_of) ∙ ap length e ∙ length-map (opens row) (expire_block time) ∙ length-map row open_of in
      let inside : i < length row = omega arith in
      let opened : i < length (opens row) = (let same = length-map row open_of in omega arith) in
      let shown : open_of (get_or new i d) ≡ expire_block time (open_of (get_or row i d)) =
      sym (get_or-map open_of new i d (open_of d) lt) ∙ ap (λ bs. get_or bs i (open_of d)) e
      ∙ get_or-map (expire_block time) (opens row) i (open_of d) (open_of d) opened
      ∙ ap (expire_block time) (get_or-map open_of row i d (open_of d) inside) in
      noted target i d inside (stands_since target (open_of (get_or row i d))
      (ap (λ (o : OpenBlock). list_any (holds target) o.shape.slots) (sym shown) ∙ has))
