-- The last of some blocks is moved, and then the rest.
use Rattle.std.proofs.Common.{◌≡◌, ℕ, ◌≤◌, Bool, true, List, [], ◌∷◌, ◌++◌, get_or, set, sym, ap, subst, ◌∙◌, arith}
use Rattle.std.proofs.lemmas.Grind.{common_steps}
use Rattle.std.specs.Prelude.{slice_get}
use Rattle.block_reclamation.specs.Status.{is_in_use, is_used, is_at}
use Rattle.block_reclamation.specs.declared.status.BlockStatus.{BlockStatus, TheVariants.Granted}
use Rattle.block_reclamation.proofs.ListedNumbers.{all_by}
use Rattle.graph_types.proofs.Times.{turned_times}
use Rattle.block_pool.specs.Pools.{marked, changed_numbers, retired, is_in_use_at, is_used_at}
use Rattle.epoch_core.proofs.Lists.{all_listed}
use Rattle.epoch_core.proofs.BlockSteps.{AreMovable}
use Rattle.store_steps.proofs.{Counting.{once_at_most, apart_if}, BlockMoves.moving}
use Rattle.store_steps.proofs.Handover.{turned_in, turned_marks, turned_changes}
use Rattle.desk.specs.Applying.{AreOnce, AreInUseOnce, AreUsedOnce}

turned : (test : BlockStatus → Bool) (n : ℕ) (ns : List ℕ) (pool : List BlockStatus) → AreOnce test (ns ++ n ∷ []) pool
    → AreMovable test (n ∷ ns) pool
turned test n ns pool once = record {
  pass = all_by (λ k. is_at test (slice_get pool k)) (n ∷ ns) (λ m is. all_listed (λ k. is_at test (slice_get pool k))
      (ns ++ n ∷ []) m once.pass (turned_in m n ns ∙ is));
  apart = apart_if (n ∷ ns)
      (λ m. subst (λ k. k ≤ 1) (turned_times m n ns) (once_at_most m (ns ++ n ∷ []) once.apart));
}

-- what stays to be moved, and what the pool will be
pub record IsMoving (numbers : List ℕ) (s : BlockStatus) (pool end : List BlockStatus) : Type 0 where
  pub once : AreInUseOnce numbers pool
  pub ends : marked numbers s pool ≡ end

pub last_used : (old ns : List ℕ) (n : ℕ) (s : BlockStatus) (pool end : List BlockStatus) → old ≡ ns ++ n ∷ [] → IsMoving old s pool end
    → is_in_use_at pool n ≡ true
last_used old ns n s pool end is m = grind (arith, common_steps)

pub rest_moving : (old ns : List ℕ) (n : ℕ) (s : BlockStatus) (pool next end : List BlockStatus) → old ≡ ns ++ n ∷ [] → next ≡ set pool n s
    → IsMoving old s pool end → IsMoving ns s next end
rest_moving old ns n s pool next end is moved m =
    let rest = (moving is_in_use n ns s pool (turned is_in_use n ns pool (subst (λ xs. AreInUseOnce xs pool) is m.once))).1 in
    record {
      once = subst (AreInUseOnce ns) (sym moved) (record { pass = rest.pass; apart = rest.apart });
      ends = ap (marked ns s) moved ∙ turned_marks n ns s pool ∙ ap (λ xs. marked xs s pool) (sym is) ∙ m.ends;
    }

-- what stays to be retired, and what the pool will be
pub record IsRetiring (numbers : List ℕ) (number : ℕ) (pool end : List BlockStatus) : Type 0 where
  pub once : AreUsedOnce numbers pool
  pub ends : changed_numbers (retired number) numbers pool ≡ end

pub last_born : (old ns : List ℕ) (n number : ℕ) (pool end : List BlockStatus) → old ≡ ns ++ n ∷ []
    → IsRetiring old number pool end → is_used_at pool n ≡ true
last_born old ns n number pool end is m = grind (arith, common_steps)

pub rest_retiring : (old ns : List ℕ) (n number : ℕ) (pool next end : List BlockStatus) → old ≡ ns ++ n ∷ []
    → next ≡ changed_numbers (retired number) (n ∷ []) pool → IsRetiring old number pool end → IsRetiring ns number next end
rest_retiring old ns n number pool next end is moved m =
    let once : AreUsedOnce (ns ++ n ∷ []) pool = subst (λ xs. AreUsedOnce xs pool) is m.once in
    let first : AreMovable is_used (n ∷ ns) pool = turned is_used n ns pool once in
    let rest = (moving is_used n ns (retired number (get_or pool n Granted)) pool first).1 in
    record {
      once = subst (AreUsedOnce ns) (sym moved) (record { pass = rest.pass; apart = rest.apart });
      ends = ap (changed_numbers (retired number) ns) moved ∙ turned_changes (retired number) n ns pool once.apart first.apart
          ∙ ap (λ xs. changed_numbers (retired number) xs pool) (sym is) ∙ m.ends;
    }
