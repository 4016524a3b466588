-- A record's text, field by field, and a text of records, one by one.
use Rattle.std.proofs.Common.{◌≡◌, ℕ, ◌+◌, ◌<◌, List, [], ◌∷◌, ◌++◌, length, take, get_or, append_assoc, ap, refl, sym, ◌∙◌}
use Rattle.std.proofs.lemmas.List.{append-nil, take_more}
use Rattle.csv.specs.Writing.{default_writer, field_text, fields_text, is_blank, row_text}
use Rattle.graph_types.specs.declared.batches.NamedOp.{NamedOp}
use Rattle.batch_records.specs.Texts.{record_fields, records_text, with_fields}

fields_are : (text : List ℕ) (fields : List (List ℕ)) → with_fields text fields ≡ text ++ fields_text default_writer fields
unfolding fields_text
fields_are text [] = sym (append-nil text)
fields_are text (field ∷ fields) =
    fields_are (text ++ 44 ∷ field_text default_writer field) fields
    ∙ append_assoc text (44 ∷ field_text default_writer field) (fields_text default_writer fields)

-- a word and further fields behind it, and what ends a line, are a record
pub row_pushed : (text : List ℕ) (word : ℕ) (field : List ℕ) (fields : List (List ℕ))
    → field_text default_writer (word ∷ []) ≡ word ∷ []
    → with_fields (text ++ word ∷ []) (field ∷ fields) ++ 10 ∷ [] ≡ text ++ row_text default_writer ((word ∷ []) ∷ field ∷ fields)
unfolding is_blank
row_pushed text word field fields plain =
    let rest = fields_text default_writer (field ∷ fields) in
    ap (λ (t : List ℕ). t ++ 10 ∷ []) (fields_are (text ++ word ∷ []) (field ∷ fields) ∙ append_assoc text (word ∷ []) rest)
    ∙ append_assoc text (word ∷ rest) (10 ∷ [])
    ∙ ap (λ (t : List ℕ). text ++ ((t ++ rest) ++ 10 ∷ [])) (sym plain)

-- the text after each call that appends to it: a word, an edge's names, a weight, a time and what ends a line
pub put_pushed : (text one two three four five : List ℕ) (word : ℕ) (kind source target weight time : List ℕ)
    → field_text default_writer (word ∷ []) ≡ word ∷ [] → one ≡ text ++ word ∷ []
    → two ≡ with_fields one (kind ∷ source ∷ target ∷ []) → three ≡ with_fields two (weight ∷ [])
    → four ≡ with_fields three (time ∷ []) → five ≡ four ++ 10 ∷ []
    → five ≡ text ++ row_text default_writer ((word ∷ []) ∷ kind ∷ source ∷ target ∷ weight ∷ time ∷ [])
put_pushed text one two three four five word kind source target weight time plain a b c d e =
    let names : two ≡ with_fields (text ++ word ∷ []) (kind ∷ source ∷ target ∷ []) =
    b ∙ ap (λ (t : List ℕ). with_fields t (kind ∷ source ∷ target ∷ [])) a in
    let numbers : four ≡ with_fields (text ++ word ∷ []) (kind ∷ source ∷ target ∷ weight ∷ time ∷ []) =
    d ∙ ap (λ (t : List ℕ). with_fields t (time ∷ [])) (c ∙ ap (λ (t : List ℕ). with_fields t (weight ∷ [])) names) in
    e ∙ (ap (λ (t : List ℕ). t ++ 10 ∷ []) numbers ∙ row_pushed text word kind (source ∷ target ∷ weight ∷ time ∷ []) plain)

pub removal_pushed : (text one two three : List ℕ) (kind source target : List ℕ) → one ≡ text ++ 114 ∷ []
    → two ≡ with_fields one (kind ∷ source ∷ target ∷ []) → three ≡ two ++ 10 ∷ []
    → three ≡ text ++ row_text default_writer ((114 ∷ []) ∷ kind ∷ source ∷ target ∷ [])
removal_pushed text one two three kind source target a b c =
    let names : two ≡ with_fields (text ++ 114 ∷ []) (kind ∷ source ∷ target ∷ []) =
    b ∙ ap (λ (t : List ℕ). with_fields t (kind ∷ source ∷ target ∷ [])) a in
    c ∙ (ap (λ (t : List ℕ). t ++ 10 ∷ []) names ∙ row_pushed text 114 kind (source ∷ target ∷ []) refl)

pub expiry_pushed : (text one two three time : List ℕ) → one ≡ text ++ 120 ∷ [] → two ≡ with_fields one (time ∷ [])
    → three ≡ two ++ 10 ∷ [] → three ≡ text ++ row_text default_writer ((120 ∷ []) ∷ time ∷ [])
expiry_pushed text one two three time a b c =
    let number : two ≡ with_fields (text ++ 120 ∷ []) (time ∷ []) = b ∙ ap (λ (t : List ℕ). with_fields t (time ∷ [])) a in
    c ∙ (ap (λ (t : List ℕ). t ++ 10 ∷ []) number ∙ row_pushed text 120 time [] refl)

records-append : (some others : List NamedOp) → records_text (some ++ others) ≡ records_text some ++ records_text others
records-append [] others = refl
records-append (op ∷ some) others =
    ap (λ (t : List ℕ). row_text default_writer (record_fields op) ++ t) (records-append some others)
    ∙ sym (append_assoc (row_text default_writer (record_fields op)) (records_text some) (records_text others))

-- one more operation
pub records_more : (ops : List NamedOp) (i : ℕ) (op : NamedOp) → i < length ops → op ≡ get_or ops i op
    → records_text (take (i + 1) ops) ≡ records_text (take i ops) ++ row_text default_writer (record_fields op)
records_more ops i op within here =
    ap records_text (take_more ops i op within ∙ ap (λ (o : NamedOp). take i ops ++ o ∷ []) (sym here))
    ∙ records-append (take i ops) (op ∷ [])
    ∙ ap (λ (t : List ℕ). records_text (take i ops) ++ t) (append-nil (row_text default_writer (record_fields op)))
