-- What a copy of the pins needs and frees: one retired block, and all that a collection takes.
use Rattle.std.proofs.Common.{◌≡◌, ℕ, ◌+◌, ◌<◌, Bool, true, false, cond, not, ◌||◌, List, ◌∷◌, map, get_or, ◌==◌, None, Option}
use Rattle.std.proofs.{Common.{ap, arith}, lemmas.Grind.common_steps}
use Rattle.std.specs.{List.list_any, Option.option_map, Prelude.if◌then◌else◌, declared.option.Option.TheVariants.Some}
use Rattle.block_reclamation.specs.Copies.{is_between, reach_of, needs}
use Rattle.block_reclamation.specs.Status.{is_reclaimable, is_retired, recycled, is_at, is_used, is_among, is_free}
use Rattle.block_reclamation.specs.declared.{copies.PinCopy.PinCopy, status.BlockStatus.{BlockStatus, TheVariants.Retired}}
use Rattle.block_reclamation.proofs.Least.{reach_needed}

any_between : (birth retirement seat : ℕ) (pins : List (Option ℕ)) (pin : Option ℕ) → get_or pins seat None ≡ pin
    → is_between birth retirement pin ≡ true → list_any (is_between birth retirement) pins ≡ true
any_between birth retirement seat pins h4 at is = grind (arith, common_steps)

-- a seat's settled pin keeps what lies round it
pub pinned : (copy : PinCopy) (birth retirement seat : ℕ) (pin : Option ℕ) → get_or copy.settled seat None ≡ pin
    → is_between birth retirement pin ≡ true → is_reclaimable copy (Retired birth retirement) ≡ false
pinned copy birth retirement seat pin at is = grind (arith, common_steps)

-- what a copy doesn't reach isn't due
pub later : (birth retirement : ℕ) (copy : PinCopy) → reach_of copy < retirement → is_reclaimable copy (Retired birth retirement) ≡ false
later birth retirement copy lt = ap not (reach_needed copy birth retirement lt)

-- what a copy needs isn't due, and what it doesn't need is
pub kept_back : (birth retirement : ℕ) (copy : PinCopy) → needs copy birth retirement ≡ true → is_reclaimable copy (Retired birth retirement) ≡ false
kept_back birth retirement copy is = ap not is

pub due : (birth retirement : ℕ) (copy : PinCopy) → needs copy birth retirement ≡ false → is_reclaimable copy (Retired birth retirement) ≡ true
due birth retirement copy is = ap not is

pub past_retired : (copy : PinCopy) (s : BlockStatus) → is_retired s ≡ false → is_reclaimable copy s ≡ false
past_retired copy h1 e = grind (arith, common_steps)

-- one status is freed, or retired still, or was never retired
pub one_recycled : (copy : PinCopy) (x : BlockStatus) → cond (is_reclaimable copy x) 1 0 + cond (is_retired (recycled copy x)) 1 0
    ≡ cond (is_retired x) 1 0
one_recycled copy x = grind (arith, common_steps)

pub born_recycled : (copy : PinCopy) (o : Option BlockStatus) → is_at is_used (option_map (recycled copy) o) ≡ is_at is_used o
born_recycled copy o = grind (arith, common_steps)

pub in_cond : (t : Bool) (k n : ℕ) (rest : List (ℕ × BlockStatus)) (s : BlockStatus)
    → is_among n (map (λ p. p.0) (if t then (k, s) ∷ rest else rest))
    ≡ (if t then (k == n) || is_among n (map (λ p. p.0) rest) else is_among n (map (λ p. p.0) rest))
in_cond t k n rest s = grind (arith, common_steps)

-- what is still retired was retired and is needed
pub record StaysRetired (copy : PinCopy) (o : Option BlockStatus) : Type 0 where
  pub birth : ℕ
  pub retirement : ℕ
  pub was : o ≡ Some (Retired birth retirement)
  pub need : needs copy birth retirement ≡ true

pub stays_retired : (copy : PinCopy) (o : Option BlockStatus) → is_at is_retired (option_map (recycled copy) o) ≡ true
    → StaysRetired copy o
stays_retired copy o is = grind (arith, common_steps)

pub needed_stays : (copy : PinCopy) (o : Option BlockStatus) → StaysRetired copy o
    → is_at is_retired (option_map (recycled copy) o) ≡ true
needed_stays copy o stays = grind (arith, common_steps)

pub free_one : (copy : PinCopy) (s : BlockStatus) → cond {A = ℕ} (is_free (recycled copy s)) 1 0
    ≡ cond (is_free s) 1 0 + cond (is_reclaimable copy s) 1 0
free_one copy s = grind (arith, common_steps)
