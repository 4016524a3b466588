-- What a record's fields stand for, one at a time. Places are counted from 0, and the word of the command has place 0.
use Rattle.std.specs.Prelude.{ℕ, ℤ, nat_eq, bytes_eq, codes, List, [], length, if◌then◌else◌, Option, Some, None, unwrap_or}
use Rattle.std.specs.Prelude.{Result, Ok, Err}
use Rattle.csv.specs.Records.{field_at}
use Rattle.graph_types.specs.Valid.{is_kind_name, is_name}
use Rattle.feed_csv.specs.{Number.{slot_of, time_of, weight_of}, Records.Row, declared.command.FeedWord.FeedWord}
use Rattle.feed_csv.specs.declared.command.FeedWord.TheVariants.{BadFields, BadName, BadWeight, BadTime, BadSlot}

-- a value, and otherwise the first word of refusal
infixl 10 ◌>>=◌
abbrev pub ◌>>=◌ : {A B : Type 0} → Result A FeedWord → (A → Result B FeedWord) → Result B FeedWord
(Ok value) >>= next = next value
(Err word) >>= next = Err word

-- the value, where there is one
abbrev pub required : {A : Type 0} → FeedWord → Option A → Result A FeedWord
required word None = Err word
required word (Some value) = Ok value

-- a field's bytes
abbrev pub field : Row → ℕ → List ℕ
field row place = unwrap_or (field_at row place) []

-- the record, where it has so many fields
unfoldable pub of_length : ℕ → Row → Result Row FeedWord
of_length count row = if nat_eq (length row) count then Ok row else Err BadFields

unfoldable pub name_at : Row → ℕ → Result (List ℕ) FeedWord
name_at row place = if is_name (field row place) then Ok (field row place) else Err BadName

unfoldable pub kind_at : Row → ℕ → Result (List ℕ) FeedWord
kind_at row place = if is_kind_name (field row place) then Ok (field row place) else Err BadName

-- a kind, or * for any
unfoldable pub any_kind_at : Row → ℕ → Result (Option (List ℕ)) FeedWord
any_kind_at row place =
    if bytes_eq (field row place) (codes "*") then Ok None
    else (if is_kind_name (field row place) then Ok (Some (field row place)) else Err BadName)

unfoldable pub weight_at : Row → ℕ → Result ℤ FeedWord
weight_at row place = required BadWeight (weight_of (field row place))

unfoldable pub time_at : Row → ℕ → Result ℕ FeedWord
time_at row place = required BadTime (time_of (field row place))

unfoldable pub slot_at : Row → ℕ → Result ℕ FeedWord
slot_at row place = required BadSlot (slot_of (field row place))
