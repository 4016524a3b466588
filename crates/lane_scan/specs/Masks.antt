-- Masks over the places of a list of at most 32 items: which places are in one, and the items that stand there.
use Rattle.std.specs.Prelude.{◌≡◌, ℕ, ◌+◌, ◌<◌, ◌≤◌, ◌^◌, ◌==◌, ℤ, nat_abs, List, [], ◌∷◌, length, take, slice_index}
use Rattle.std.specs.{Prelude.{if◌then◌else◌, All, Contains}, Int.bit_at, declared.option.Option.{Option, TheVariants.None}}
use Rattle.std.specs.declared.option.Option.TheVariants.{Some}

-- a place is in a mask where its bit is set
abbrev pub InMask : ℕ → ℕ → Type 0
InMask mask place = bit_at mask place ≡ 1

-- the items at the places in the mask, in order, of a list that begins at a place
abbrev pub selected_from : {X : Type 0} → ℕ → ℕ → List X → List X
selected_from mask place [] = []
selected_from mask place (x ∷ xs) =
    if bit_at mask place == 1 then x ∷ selected_from mask (place + 1) xs else selected_from mask (place + 1) xs

-- the items at the places in the mask, in order; bits at or past the length are ignored
abbrev pub selected : {X : Type 0} → ℕ → List X → List X
selected mask xs = selected_from mask 0 xs

-- the first items of a list, up to the last place in the mask or further
pub record IsUsedPart {X : Type 0} (mask : ℕ) (xs used : List X) : Type 0 where
  pub part : used ≡ take (length used) xs
  pub past : (place : ℕ) → length used ≤ place → place < length xs → InMask mask place → ⊥

-- a live place that holds the target
pub record IsPlaceOf (targets : List ℕ) (live target place : ℕ) : Type 0 where
  pub within : place < length targets
  pub lives : InMask live place
  pub holds : slice_index targets place ≡ target

-- the least live place that holds the target, or that there is none
abbrev pub IsFirstPlaceOf : List ℕ → ℕ → ℕ → Option ℕ → Type 0
IsFirstPlaceOf targets live target None = (place : ℕ) → IsPlaceOf targets live target place → ⊥
IsFirstPlaceOf targets live target (Some place) =
    IsPlaceOf targets live target place × ((other : ℕ) → IsPlaceOf targets live target other → place ≤ other)

-- a live place whose value is in a window, both ends included
pub record IsPlaceWithin (times : List ℕ) (live lo hi place : ℕ) : Type 0 where
  pub within : place < length times
  pub lives : InMask live place
  pub from_lo : lo ≤ slice_index times place
  pub to_hi : slice_index times place ≤ hi

-- a weight is a whole number of at most 2 ^ 40 in size
abbrev pub IsLaneWeight : ℤ → Type 0
IsLaneWeight weight = nat_abs weight ≤ 2 ^ 40

-- the least of the values, and the greatest
pub record IsLeastOf (values : List ℕ) (least : ℕ) : Type 0 where
  pub reached : Contains values least
  pub bound : All (λ value. least ≤ value) values

pub record IsGreatestOf (values : List ℕ) (greatest : ℕ) : Type 0 where
  pub reached : Contains values greatest
  pub bound : All (λ value. value ≤ greatest) values

-- the least and the greatest of the values, or that there are none
abbrev pub AreBoundsOf : List ℕ → Option (ℕ × ℕ) → Type 0
AreBoundsOf values None = values ≡ []
AreBoundsOf values (Some bounds) = IsLeastOf values bounds.0 × IsGreatestOf values bounds.1
