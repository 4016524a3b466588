-- Operations as comma-separated records, and back.
use Rattle.std.specs.Prelude.{◌≡◌, ◌++◌, ◌∷◌, [], ℕ, List, All, codes, decimal, flat_map, map, Ok}
use Rattle.std.specs.Fmt.{signed_decimal}
use Rattle.csv.specs.Writing.{comma, default_writer, field_text, row_text}
use Rattle.graph_types.specs.{Valid.IsValid, declared.batches.NamedOp.{NamedOp, TheVariants.{Insert, Incr, Remove, Expire}}}
use Rattle.feed_csv.specs.{Commands.item_of, Records.{Row, records_of}, declared.command.Command.TheVariants.Op}

-- an operation's record: the word of its command, and what it has
abbrev pub record_fields : NamedOp → Row
record_fields (Insert kind source target weight time) =
    codes "i" ∷ kind ∷ source ∷ target ∷ signed_decimal weight ∷ decimal time ∷ []
record_fields (Incr kind source target amount time) =
    codes "a" ∷ kind ∷ source ∷ target ∷ signed_decimal amount ∷ decimal time ∷ []
record_fields (Remove kind source target) = codes "r" ∷ kind ∷ source ∷ target ∷ []
record_fields (Expire time) = codes "x" ∷ decimal time ∷ []

-- the text of operations: their records in order, each as csv writes it by its defaults, with a line feed at its end
abbrev pub records_text : List NamedOp → List ℕ
records_text ops = flat_map (λ op. row_text default_writer (record_fields op)) ops

-- a text with further fields of the record at its end
abbrev pub with_fields : List ℕ → List (List ℕ) → List ℕ
with_fields text [] = text
with_fields text (field ∷ fields) = with_fields (text ++ comma ∷ field_text default_writer field) fields

-- the text of valid operations has as many records, and each is the command that adds the operation at its place
abbrev pub ReadBackAsTheyWere : Type 0
ReadBackAsTheyWere =
    (ops : List NamedOp) → All IsValid ops → map item_of (records_of (records_text ops)) ≡ map (λ op. Ok (Op op)) ops
