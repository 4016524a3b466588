-- Rows that operations leave as they are: none is on one of their edges, and no expiry takes one.
use Rattle.std.proofs.Common.{◌≡◌, ℕ, ◌%◌, ◌<◌, ◌≤◌, true, false, cond, List, [], ◌∷◌, get_or, All, refl, sym, ap, ap₂, subst}
use Rattle.std.proofs.{Common.{◌∙◌, arith}, lemmas.{Bool.{false_from_ne_true, eqb-true, true≢false, eq-eqb}, Grind.common_steps}}
use Rattle.std.proofs.lemmas.List.Elements.{All-head, All-tail, All-nil, All-cons}
use Rattle.std.specs.List.{range_with_len}
use Rattle.graph_types.specs.declared.batches.Outcome.{Outcome, TheVariants.Expired}
use Rattle.graph_types.proofs.Times.{times}
use Rattle.edge_block.specs.Batches.{Resolved, AtKey, key_is_of, InAll, rows_step, rows_all, outcomes_all, key_outcome, IsPlaced}
use Rattle.edge_block.specs.{Batches.{is_in_shard, shard_ops}, Rows.{OpenBlock, expire_row, old_in_row}}
use Rattle.edge_block.proofs.BatchSums.{sum_all, sum_range}

-- the operation leaves a source's row as it is, and takes no edge of it
abbrev pub Spares : ℕ → List OpenBlock → Resolved → Type 0
Spares m row (AtKey of key change) = key_is_of m key ≡ false
Spares m row (InAll time) = (expire_row time row ≡ row) × (old_in_row time row ≡ 0)

row_spared : (m : ℕ) (r : Resolved) (rows : ℕ → List OpenBlock) → Spares m (rows m) r → rows_step r rows m ≡ rows m
row_spared m r rows h = grind (arith, common_steps)

later_spared : (m : ℕ) (r : Resolved) (rs : List Resolved) (rows : ℕ → List OpenBlock) → All (Spares m (rows m)) (r ∷ rs)
    → All (Spares m (rows_step r rows m)) rs
later_spared m r rs rows all =
    subst (λ row. All (Spares m row) rs) (sym (row_spared m r rows (All-head (Spares m (rows m)) r rs all)))
    (All-tail (Spares m (rows m)) r rs all)

pub rows_spared : (m : ℕ) (rs : List Resolved) (rows : ℕ → List OpenBlock) → All (Spares m (rows m)) rs
    → rows_all rs rows m ≡ rows m
rows_spared m [] rows all = refl
rows_spared m (r ∷ rs) rows all = rows_spared m rs (rows_step r rows) (later_spared m r rs rows all)
    ∙ row_spared m r rows (All-head (Spares m (rows m)) r rs all)

-- outcomes over different sources below n are those over all sources below n, where the others are spared
pub over_all : (n : ℕ) (xs : List ℕ) → ((m : ℕ) → times m xs ≤ 1) → All (λ x. x < n) xs → (rs : List Resolved)
    (rows : ℕ → List OpenBlock) → ((m : ℕ) → times m xs ≡ 0 → All (Spares m (rows m)) rs)
    → outcomes_all xs rs rows ≡ outcomes_all (range_with_len 0 n) rs rows
over_all n xs once within [] rows spared = refl
over_all n xs once within (AtKey of key change ∷ rs) rows spared =
    ap (λ (os : List Outcome). key_outcome change key rows ∷ os)
    (over_all n xs once within rs (rows_step (AtKey of key change) rows)
    (λ m none. later_spared m (AtKey of key change) rs rows (spared m none)))
over_all n xs once within (InAll time ∷ rs) rows spared =
    ap₂ (λ (k : ℕ) (os : List Outcome). Expired k ∷ os)
    (sum_all (λ s. old_in_row time (rows s)) n xs once within
    (λ m lt none. (All-head (Spares m (rows m)) (InAll time) rs (spared m none)).1)
    ∙ sym (sum_range (λ s. old_in_row time (rows s)) n))
    (over_all n xs once within rs (rows_step (InAll time) rows)
    (λ m none. later_spared m (InAll time) rs rows (spared m none)))

abbrev pub IsUpTo : ℕ → Resolved → Type 0
IsUpTo n (AtKey of key change) = Unit {0}
IsUpTo n (InAll time) = time ≤ n

higher : (a b : ℕ) → a ≤ b → (r : Resolved) → IsUpTo a r → IsUpTo b r
higher a b le r h = grind (arith, common_steps)

pub all_higher : (a b : ℕ) → a ≤ b → (rs : List Resolved) → All (IsUpTo a) rs → All (IsUpTo b) rs
all_higher a b le rs all k d lt = higher a b le (get_or rs k d) (all k d lt)

-- no operation on an edge is on one of the source's
abbrev pub KeepsOff : ℕ → Resolved → Type 0
KeepsOff m (AtKey of key change) = key_is_of m key ≡ false
KeepsOff m (InAll time) = Unit {0}

-- what a source's own shard keeps off, the batch does
module _ (workers m : ℕ) where
  abbrev own : ℕ
  own = m % workers

  elsewhere : (r : Resolved) → IsPlaced r → is_in_shard workers own r ≡ false → KeepsOff m r
  elsewhere r placed out = grind (arith, common_steps, false_from_ne_true, eqb-true, true≢false, eq-eqb)

  pub off_all : (rs : List Resolved) → All IsPlaced rs → All (KeepsOff m) (shard_ops workers own rs) → All (KeepsOff m) rs
  off_all [] placed off = All-nil (KeepsOff m)
  off_all (r ∷ rs) placed off =
      let later = off_all rs (All-tail IsPlaced r rs placed) in
      elim (is_in_shard workers own r) as (λ b. is_in_shard workers own r ≡ b
      → All (KeepsOff m) (cond b (r ∷ shard_ops workers own rs) (shard_ops workers own rs)) → All (KeepsOff m) (r ∷ rs)) [
        | true ↦ λ t all. All-cons (KeepsOff m) r rs (All-head (KeepsOff m) r (shard_ops workers own rs) all)
            (later (All-tail (KeepsOff m) r (shard_ops workers own rs) all))
        | false ↦ λ t all. All-cons (KeepsOff m) r rs (elsewhere r (All-head IsPlaced r rs placed) t) (later all)
      ] refl off
