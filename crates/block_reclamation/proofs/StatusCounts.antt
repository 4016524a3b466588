-- How many blocks of a pool have a status, after one of them has changed.
use Rattle.std.proofs.Common.{◌≡◌, ℕ, zero, suc, ◌+◌, cond, [], ◌∷◌, length, replicate, count_by, refl, ap, arith}
use Rattle.std.proofs.lemmas.Grind.{common_steps}
use Rattle.std.specs.{Prelude.{if◌then◌else◌, is_some}, declared.option.Option.Option}
use Rattle.block_reclamation.specs.Status.{is_at, is_free, is_granted, is_retired, is_used, is_in_use}
use Rattle.block_reclamation.specs.declared.status.BlockStatus.{BlockStatus, TheVariants.{Free, Granted, Used, Retired}}

pub one_part : (o : Option BlockStatus) → count_by (λ is_in. is_in)
    (is_at is_free o ∷ is_at is_granted o ∷ is_at is_retired o ∷ is_at is_used o ∷ []) ≡ (if is_some o then 1 else 0)
one_part o = grind (arith, common_steps)

-- no block is retired at an opening
pub none_retired : (n : ℕ) → count_by is_retired (replicate n Free) ≡ 0
none_retired n = grind (arith, common_steps)

-- each block is free, retired or used
pub parts_one : (s : BlockStatus) → (let n : ℕ = cond (is_free s) 1 0 in n) + cond (is_retired s) 1 0 + cond (is_in_use s) 1 0 ≡ 1
parts_one Free = refl
parts_one Granted = refl
parts_one (Used birth) = refl
parts_one (Retired birth retirement) = refl

pub length_free : (n : ℕ) → length (replicate n Free) ≡ n
length_free zero = refl
length_free (suc n) = ap suc (length_free n)
