-- The text of operations reads as their records.
use Rattle.std.proofs.Common.{◌≡◌, ℕ, zero, suc, ◌+◌, ◌≤◌, ◌==◌, List, [], ◌∷◌, ◌++◌, length, map, All, false, if◌then◌else◌, Ok, ap, arith, refl}
use Rattle.std.proofs.{Common.{◌∙◌, length-append}, lemmas.List.Elements.{All-head, All-tail}}
use Rattle.csv.specs.{Machine.next_record, Reading.{default_config, records, records_from, strip_bom}}
use Rattle.csv.specs.Writing.{default_writer, is_blank, read_back, row_body, row_text}
use Rattle.csv.specs.declared.parser.State.TheVariants as st
use Rattle.csv.proofs.RoundTrip.{read-write, rows_text}
use Rattle.graph_types.specs.{Valid.IsValid, declared.batches.NamedOp.{NamedOp, TheVariants.{Insert, Incr, Remove, Expire}}}
use Rattle.feed_csv.specs.{Commands.item_of, Records.{Row, records_of}, declared.command.Command.TheVariants.Op}
use Rattle.batch_records.specs.Texts.{record_fields, records_text}
use Rattle.batch_records.proofs.ReadOps.{op_read}

-- The text

same_text : (ops : List NamedOp) → records_text ops ≡ rows_text (map record_fields ops)
unfolding rows_text
same_text [] = refl
same_text (op ∷ ops) = ap (λ (text : List ℕ). row_text default_writer (record_fields op) ++ text) (same_text ops)

-- a text that begins with a letter has no byte order mark
strip-letter : (letter : ℕ) (text : List ℕ) → (letter == 0xEF) ≡ false → strip_bom (letter ∷ text) ≡ letter ∷ text
unfolding strip_bom
strip-letter letter [] other = refl
strip-letter letter (a ∷ []) other = refl
strip-letter letter (a ∷ b ∷ text) other = rw other refl

stripped : (ops : List NamedOp) → strip_bom (records_text ops) ≡ records_text ops
unfolding strip_bom
stripped [] = refl
stripped (Insert kind source target weight time ∷ ops) = strip-letter 105 _ refl
stripped (Incr kind source target amount time ∷ ops) = strip-letter 97 _ refl
stripped (Remove kind source target ∷ ops) = strip-letter 114 _ refl
stripped (Expire time ∷ ops) = strip-letter 120 _ refl

-- The rows

none_left : (turns : ℕ) → records_from default_config turns st.StartRecord [] ≡ []
unfolding records_from next_record
none_left zero = refl
none_left (suc turns) = refl

-- turns that are as many as the rows, or more, read all of them
rows_read : (rows : List Row) (turns : ℕ) → length rows ≤ turns
    → records_from default_config turns st.StartRecord (rows_text rows) ≡ map read_back rows
unfolding records_from rows_text
rows_read [] turns few = none_left turns
rows_read (row ∷ rows) zero few = absurd (omega arith)
rows_read (row ∷ rows) (suc turns) few =
    rw (read-write row (rows_text rows)) (ap (λ (more : List Row). read_back row ∷ more) (rows_read rows turns (omega arith)))

-- a row has a byte at least, which ends it
has_end : (body blank : List ℕ) → 1 ≤ length (body ++ (blank ++ 10 ∷ []))
has_end body blank = omega (arith, length-append body (blank ++ 10 ∷ []), length-append blank (10 ∷ []))

row_long : (row : Row) → 1 ≤ length (row_text default_writer row)
row_long row = has_end (row_body default_writer row) (if is_blank default_writer row then 34 ∷ 34 ∷ [] else [])

rows_long : (rows : List Row) → length rows ≤ length (rows_text rows)
unfolding rows_text
rows_long [] = omega arith
rows_long (row ∷ rows) =
    let longer = length-append (row_text default_writer row) (rows_text rows) in
    let some = row_long row in
    let more = rows_long rows in
    omega arith

-- no record of an operation is blank
kept : (op : NamedOp) → read_back (record_fields op) ≡ record_fields op
kept (Insert kind source target weight time) = refl
kept (Incr kind source target amount time) = refl
kept (Remove kind source target) = refl
kept (Expire time) = refl

all_kept : (ops : List NamedOp) → map read_back (map record_fields ops) ≡ map record_fields ops
all_kept [] = refl
all_kept (op ∷ ops) = λ i. kept op i ∷ all_kept ops i

text_read : (ops : List NamedOp) → records_of (records_text ops) ≡ map record_fields ops
text_read ops =
    ap (records default_config) (stripped ops ∙ same_text ops)
    ∙ rows_read (map record_fields ops) (length (rows_text (map record_fields ops)) + 1) (omega (arith, rows_long (map record_fields ops)))
    ∙ all_kept ops

-- The operations

ops_read : (ops : List NamedOp) → All IsValid ops → map item_of (map record_fields ops) ≡ map (λ op. Ok (Op op)) ops
ops_read [] valid = refl
ops_read (op ∷ ops) valid =
    λ i. op_read op (All-head IsValid op ops valid) i ∷ ops_read ops (All-tail IsValid op ops valid) i

pub read_back_all : (ops : List NamedOp) → All IsValid ops
    → map item_of (records_of (records_text ops)) ≡ map (λ op. Ok (Op op)) ops
read_back_all ops valid = ap (map item_of) (text_read ops) ∙ ops_read ops valid
