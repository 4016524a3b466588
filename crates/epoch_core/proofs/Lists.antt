-- A list with one element changed, and numbers that all pass a test.
use Rattle.std.proofs.Common.{◌≡◌, ℕ, Bool, true, false, ◌||◌, List, [], ◌∷◌}
use Rattle.std.proofs.Common.{set, refl, subst, arith, eqb}
use Rattle.std.{proofs.lemmas.Grind.common_steps, specs.{Prelude.slice_get, List.list_all}}
use Rattle.std.specs.declared.option.Option.{Option, TheVariants.Some}
use Rattle.epoch_core.specs.Blocks.{changed_at}
use Rattle.block_reclamation.specs.Status.{is_among}
use Rattle.graph_types.proofs.Cases.{and_left, and_right}

-- what a change at i that is done says
pub record ChangedAt {A : Type 0} (change : A → Option A) (xs : List A) (i : ℕ) (ys : List A) : Type 0 where
  pub before : A
  pub after : A
  pub found : slice_get xs i ≡ Some before
  pub changed : change before ≡ Some after
  pub result : ys ≡ set xs i after

pub changed_at-some : {A : Type 0} (change : A → Option A) (xs : List A) (i : ℕ) (ys : List A) → changed_at change xs i
    ≡ Some ys → ChangedAt change xs i ys
changed_at-some change xs i ys is = grind (arith, common_steps)

pub all_listed : (p : ℕ → Bool) (bs : List ℕ) (b : ℕ) → list_all p bs ≡ true → is_among b bs ≡ true → p b ≡ true
all_listed p [] b all is = cc
all_listed p (c ∷ cs) b all is =
    elim (eqb c b) as (λ t. eqb c b ≡ t → (t || is_among b cs) ≡ true → p b ≡ true) [
      | true ↦ λ e _. let same : c ≡ b = grind (arith, e) in subst (λ x. p x ≡ true) same (and_left _ _ all)
      | false ↦ λ _ rest. all_listed p cs b (and_right _ _ all) rest
    ] refl is
