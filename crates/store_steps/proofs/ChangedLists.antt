-- Lists with some elements changed: what stands at a place afterwards.
use Rattle.std.proofs.Common.{◌≡◌, ℕ, zero, suc, ◌==◌, Bool, true, false, List, [], ◌∷◌, get_or, set, refl, sym, ap}
use Rattle.std.proofs.{Common.{subst, ◌∙◌, arith}, lemmas.Bool.eqb-true}
use Rattle.std.{proofs.lemmas.Grind.common_steps, specs.Option.option_map, specs.Prelude.slice_get, specs.Prelude.if◌then◌else◌}
use Rattle.std.specs.declared.option.Option.{Option, TheVariants.None}
use Rattle.block_reclamation.specs.{Status.is_among, declared.status.BlockStatus.{BlockStatus, TheVariants.Granted}}
use Rattle.graph_types.proofs.Numbers.{apart_test, suc_test}
use Rattle.graph_types.proofs.ListPlaces.{changed_if, changed_twice, changed_once}
use Rattle.block_pool.specs.Pools.{marked, changed_numbers}
use Rattle.epoch_core.specs.Blocks.{all_differ}
use Rattle.epoch_core.proofs.BlockSteps.{differ_tail, differ_head}

none_if : {A : Type 0} (b : Bool) (o : Option A) → o ≡ None → o ≡ (if b then o else o)
none_if b o e = grind (arith, common_steps)

-- one place is set to what a function makes of what stood there
set_at : {A : Type 0} (f : A → A) (xs : List A) (m n : ℕ) (d : A)
    → slice_get (set xs m (f (get_or xs m d))) n ≡ changed_if f (m == n) (slice_get xs n)
set_at f [] m n d = none_if (m == n) None refl
set_at f (y ∷ ys) zero zero d = refl
set_at f (y ∷ ys) zero (suc n) d = let apart : (0 == suc n) ≡ false =
    apart_test 0 (suc n) (λ e. absurd (omega arith)) in rw apart refl
set_at f (y ∷ ys) (suc m) zero d = let apart : (suc m == 0) ≡ false =
    apart_test (suc m) 0 (λ e. absurd (omega arith)) in rw apart refl
set_at f (y ∷ ys) (suc m) (suc n) d = set_at f ys m n d ∙ ap (λ t. changed_if f t (slice_get ys n)) (sym (suc_test m n))

-- what stands at a place, once some are marked
pub marked_at : {A : Type 0} (ns : List ℕ) (x : A) (xs : List A) (n : ℕ)
    → slice_get (marked ns x xs) n ≡ (if is_among n ns then option_map (λ _. x) (slice_get xs n) else slice_get xs n)
marked_at [] x xs n = refl
marked_at (m ∷ ns) x xs n =
    marked_at ns x (set xs m x) n ∙ ap (changed_if (λ _. x) (is_among n ns)) (set_at (λ _. x) xs m n x)
    ∙ changed_twice (m == n) (is_among n ns) x (slice_get xs n)

-- what stands at a number, once different numbers' statuses are changed
pub changed_at : (f : BlockStatus → BlockStatus) (ns : List ℕ) (pool : List BlockStatus) (n : ℕ) → all_differ ns ≡ true
    → slice_get (changed_numbers f ns pool) n ≡ (if is_among n ns then option_map f (slice_get pool n) else slice_get pool n)
changed_at f [] pool n apart = refl
changed_at f (m ∷ ns) pool n apart =
    changed_at f ns (set pool m (f (get_or pool m Granted))) n (differ_tail m ns apart)
    ∙ ap (changed_if f (is_among n ns)) (set_at f pool m n Granted)
    ∙ changed_once f (m == n) (is_among n ns) (slice_get pool n) (λ e. subst (λ x. is_among x ns
    ≡ false) (eqb-true m n e) (differ_head m ns apart))
