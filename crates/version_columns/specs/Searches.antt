-- Names that a text is in.
use Rattle.std.specs.Prelude.{◌≡◌, ◌⊎◌, ◌||◌, ◌-◌, ◌≤◌, ℕ, List, [], ◌∷◌, length, filter, slice_index_or, Bool, nat_eq}
use Rattle.std.specs.List.{range_with_len, starts_with}
use Rattle.version_columns.specs.Rows.{with_values}

-- whether a text is in a name, as a run of bytes: the name begins with it, or what follows the name's first byte has it
abbrev pub has_text : List ℕ → List ℕ → Bool
has_text text [] = starts_with nat_eq [] text
has_text text (byte ∷ rest) = starts_with nat_eq (byte ∷ rest) text || has_text text rest

-- the numbers that have such a name, of so many from a first one on
abbrev pub numbers_with : List ℕ → List (List ℕ) → ℕ → ℕ → List ℕ
numbers_with text names first count = filter (λ number. has_text text (slice_index_or names number [])) (range_with_len first count)

-- The numbers below `next` and from `from` on are looked at: those whose names have the text are written, rising, and counted. What
-- is behind them in the column is as it was. They are all, or fill the column. Where `from` is past the last name it stays.
pub record WritesNumbers (names : List (List ℕ)) (text : List ℕ) (from next : ℕ) (old new : List ℕ) (count : ℕ) : Type 0 where
  pub onward : from ≤ next
  pub most : (next ≤ length names) ⊎ (next ≡ from)
  pub written : new ≡ with_values 0 (numbers_with text names from (next - from)) old
  pub counted : count ≡ length (numbers_with text names from (next - from))
  pub fits : count ≤ length old
  pub whole : (length names ≤ next) ⊎ (count ≡ length old)
