-- A list whose elements are equal to another's, place by place, is that list.
use Rattle.std.proofs.{Common.{◌≡◌, ◌∙◌, List, [], ◌∷◌, refl}, lemmas.{List.map-id, Slice.Zip.AllZip-map}}
use Rattle.std.specs.List.{AllZip}

pub same_by_zip : {X : Type 0} (xs ys : List X) → AllZip (λ x y. y ≡ x) xs ys → ys ≡ xs
same_by_zip xs ys z = AllZip-map (λ x. x) xs ys z ∙ map-id xs

-- the same of lists of pairs, whose parts are equal
pub same_pairs : {X Y : Type 0} (xs ys : List (X × Y)) → AllZip (λ x y. (y.0 ≡ x.0) × (y.1 ≡ x.1)) xs ys → ys ≡ xs
same_pairs [] [] z = refl
same_pairs (x ∷ xs) (y ∷ ys) z =
    let tail : ys ≡ xs = same_pairs xs ys z.1 in let head : y ≡ x = (λ i. (z.0.0 i, z.0.1 i)) in cc
same_pairs _ _ z = absurd z
