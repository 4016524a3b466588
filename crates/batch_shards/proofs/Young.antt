-- Rows without an edge from before a time, and the times that expiries have reached.
use Rattle.std.proofs.Common.{◌≡◌, ℕ, zero, suc, ◌+◌, ◌<◌, ◌≤◌, false, List, [], ◌∷◌, ◌++◌, length}
use Rattle.std.proofs.{Common.{get_or, take, ap, ◌∙◌, arith, max}, lemmas.Bool.{le-ltb, ltb-true}}
use Rattle.std.proofs.lemmas.{Bool.{ltb-false, false≢true}, List.{take_more, get_or_append_left, get_or_push}}
use Rattle.std.proofs.lemmas.Grind.{common_steps}
use Rattle.batch_shards.specs.{Groups.{is_expiry, is_later, IsNextStep, LeadsToStep}, Spending.{latest, act_time, AreTimesReached}}
use Rattle.batch_shards.{specs.declared.shard.{Act.Act, Step.Step}, proofs.ShardSteps.first_step}

-- the greatest time of one operation more
latest_push : (steps : List Step) (s : Step) → latest (steps ++ s ∷ []) ≡ max (latest steps) (act_time s.act)
latest_push [] s = grind (arith, common_steps)
latest_push (x ∷ steps) s = ap (max (act_time x.act)) (latest_push steps s)
    ∙ regroup (act_time x.act) (latest steps) (act_time s.act) where
      regroup : (a b c : ℕ) → max a (max b c) ≡ max (max a b) c
      regroup a b c = omega arith

pub latest_more : (steps : List Step) (k : ℕ) → k < length steps
    → latest (take (k + 1) steps) ≡ max (latest (take k steps)) (act_time (get_or steps k first_step).act)
latest_more steps k lt = grind (arith, common_steps, take_more, first_step, latest_push)

latest_rises : (i j : ℕ) (steps : List Step) → i ≤ j → latest (take i steps) ≤ latest (take j steps)
latest_rises zero j steps le = omega arith
latest_rises (suc i) zero steps le = absurd (omega arith)
latest_rises (suc i) (suc j) [] le = omega arith
latest_rises (suc i) (suc j) (x ∷ steps) le =
    higher (act_time x.act) (latest (take i steps)) (latest (take j steps)) (latest_rises i j steps (omega arith)) where
      higher : (a b c : ℕ) → b ≤ c → max a b ≤ max a c
      higher a b c le = omega arith

-- one more time that is reached
pub reached_push : (steps : List Step) (v : List ℕ) (i n : ℕ) → length v ≡ i → n ≡ latest (take (i + 1) steps)
    → ((k : ℕ) → k < i → get_or v k 0 ≡ latest (take (k + 1) steps))
    → (k : ℕ) → k < i + 1 → get_or (v ++ n ∷ []) k 0 ≡ latest (take (k + 1) steps)
reached_push steps v i n long is are k lt = grind (arith, common_steps, ltb-true, get_or_append_left, ltb-false, get_or_push)

-- what is no expiry is no later one
none_later : (since : ℕ) (act : Act) → is_expiry act ≡ false → is_later since act ≡ false
none_later since act e = grind (arith, common_steps, false≢true)

module _ (steps : List Step) (reached : List ℕ) (are : AreTimesReached steps reached) where
  pub reached_rises : (i j : ℕ) → i ≤ j → j < length reached → get_or reached i 0 ≤ get_or reached j 0
  reached_rises i j le lt = grind (arith, common_steps, latest_rises)

  -- what has not been reached at a place is not the time of its operation
  not_reached : (since k : ℕ) (s : Step) → k < length steps → get_or reached k 0 ≤ since
      → is_later since (get_or steps k s).act ≡ false
  not_reached since k s lt le = grind (arith, common_steps, latest_more, first_step, le-ltb)

  -- no expiry before the place at which a time is passed is later, and the next expiry from there on may be
  pub leads_later : (since place first n : ℕ) → ((k : ℕ) → k < first → get_or reached k 0 ≤ since)
      → IsNextStep is_expiry steps (max place first) n → LeadsToStep (is_later since) is_expiry steps place n
  leads_later since place first n low next = grind (arith, common_steps, not_reached, ltb-true, ltb-false, none_later)
