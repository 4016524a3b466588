-- Texts one after another, and where each ends.
use Rattle.std.specs.Prelude.{◌≡◌, ℕ, ◌+◌, ◌<◌, ◌≤◌, List, [], ◌∷◌, length, take, drop, flat_map, Result, Ok, Err}
use Rattle.version_columns.specs.declared.names.TextError.{TextError}
use Rattle.version_columns.specs.declared.names.TextError.TheVariants.{Fewer, NoRoom}
use Rattle.version_columns.specs.Lookups.{byte_count}

-- the bytes of texts
abbrev pub joined_texts : List (List ℕ) → List ℕ
joined_texts texts = flat_map (λ text. text) texts

-- where texts end that begin at a place
abbrev pub ends_from : ℕ → List (List ℕ) → List ℕ
ends_from at [] = []
ends_from at (text ∷ texts) = (at + length text) ∷ ends_from (at + length text) texts

-- so many names from one on
abbrev pub chosen : List (List ℕ) → ℕ → ℕ → List (List ℕ)
chosen names first count = take count (drop first names)

-- the texts stand at the beginning, and all behind them is as it was; the ends are theirs
pub record AreTexts (texts : List (List ℕ)) (old new : List ℕ) (ends : List ℕ) : Type 0 where
  pub bytes : take (byte_count texts) new ≡ joined_texts texts
  pub rest : drop (byte_count texts) new ≡ drop (byte_count texts) old
  pub ends_are : ends ≡ ends_from 0 texts

-- the names are written, or there are fewer than that, or the text has no room for them
abbrev pub WritesNames : List (List ℕ) → ℕ → List ℕ → List ℕ → List ℕ → Result (Unit {0}) TextError → Type 0
WritesNames names first old new ends (Ok _) =
    (first + length ends ≤ length names) × AreTexts (chosen names first (length ends)) old new ends
WritesNames names first old new ends (Err Fewer) = length names < first + length ends
WritesNames names first old new ends (Err NoRoom) =
    (first + length ends ≤ length names) × (length old < byte_count (chosen names first (length ends)))
