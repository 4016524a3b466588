-- The readers of a shelf at its opening.
use Rattle.std.{proofs.{Common.{◌≡◌, zero, suc, List, [], ◌∷◌, ◌++◌, arith}, lemmas.List.Elements.All-append}, specs.List.All}
use Rattle.std.proofs.{Common.{◌+◌, ◌<◌, length, take, drop}, lemmas.Grind.common_steps}
use Rattle.version_shelf.specs.Shelves.{ToldView}
use Rattle.std.specs.Prelude.{slice_index_or}

all_one : (t x : ToldView) → x ≡ t → All (λ (y : ToldView). y ≡ t) (x ∷ [])
all_one t x e zero d lt = e
all_one t x e (suc k) d lt = absurd (omega arith)

-- one more reader that keeps what the others keep
pub all_same_more : (t : ToldView) (xs : List ToldView) (x : ToldView) → All (λ (y : ToldView). y ≡ t) xs → x ≡ t
    → All (λ (y : ToldView). y ≡ t) (xs ++ x ∷ [])
all_same_more t xs x a e = All-append (λ (y : ToldView). y ≡ t) xs (x ∷ []) a (λ k d lt. all_one t x e k d lt)

-- the first reader taken off a list
pub first_off : (xs ys : List ToldView) (x : ToldView) → 0 < length xs → x ≡ slice_index_or xs 0 x → ys ≡ take 0 xs
    ++ drop (0 + 1) xs → xs ≡ x ∷ ys
first_off xs ys x some first rest = grind (arith, common_steps)
