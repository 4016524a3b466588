-- The records of a script, in the words of `csv`, which reads comma-separated values after RFC 4180.
use Rattle.std.specs.Prelude.{◌≡◌, ℕ, ◌+◌, List, [], ◌∷◌, length, Bool, true, false, Option, Some, None, option_map}
use Rattle.csv.specs.Reading.{Ready, default_config, has_failed, is_flexible, reader_config, reader_state, reader_trim, records}
use Rattle.csv.specs.{Reading.{records_from, source_of, strip_bom}, declared.reader.Reader.Reader}
use Rattle.csv.specs.declared.reader.Trim.TheVariants as trim
-- a feed gives no more records than these
pub use Rattle.graph_types.specs.Limits.{record_limit}

-- a record is its fields, and a field is its bytes
abbrev pub Row : Type 0
Row = List (List ℕ)

-- the records of a whole text, behind a byte order mark where it begins with one
abbrev pub records_of : List ℕ → List Row
records_of bytes = records default_config (strip_bom bytes)

-- a reader of records of any number of fields, without a header row, that trims nothing and has not failed
pub record IsPlain {R : Type 0} (reader : Reader R) : Type 0 where
  pub config : reader_config reader ≡ default_config
  pub untrimmed : reader_trim reader ≡ trim.None
  pub flexible : is_flexible reader ≡ true
  pub ready : Ready reader
  pub works : has_failed reader ≡ false

-- the records that a reader has left, where its bytes are known
abbrev pub rows_left : {R : Type 0} → (R → Option (List ℕ)) → Reader R → Option (List Row)
rows_left remaining reader =
    option_map (λ bytes. records_from default_config (length bytes + 1) (reader_state reader) bytes) (source_of remaining reader)

-- of the rows left, where they are known, the first was taken
abbrev pub TakesRecord : Option (List Row) → Row → Option (List Row) → Type 0
TakesRecord None row after = Unit {0}
TakesRecord (Some rows) row None = ⊥
TakesRecord (Some rows) row (Some rest) = rows ≡ row ∷ rest

-- where the rows left are known, there are none
abbrev pub IsOver : Option (List Row) → Type 0
IsOver None = Unit {0}
IsOver (Some rows) = rows ≡ []

-- a look for a record found this one, the first of the rows left before, or none since none were left
abbrev pub Finds : Bool → Option (List Row) → Row → Option (List Row) → Type 0
Finds true before row after = TakesRecord before row after
Finds false before row after = IsOver before
