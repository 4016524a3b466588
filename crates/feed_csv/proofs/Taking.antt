-- A record that is taken from a text is the first of the text's records.
use Rattle.std.proofs.Common.{◌≡◌, ℕ, zero, suc, ◌+◌, ◌<◌, ◌⊎◌, inl, inr, List, [], ◌∷◌, ◌++◌, length, refl, ap, sym, ◌∙◌, Bool}
use Rattle.std.proofs.Common.{true, false, cond, Option, Some, None, Result, Ok, Err, arith, add-one}
use Rattle.std.specs.Prelude.{option_map, IfOk}
use Rattle.csv.specs.{Machine.{Read, next_record, ends_at_end, is_end, step, fields_after, field_after}, Reading.NextIs}
use Rattle.csv.specs.Reading.{ReadRecord, ReadsNext, Ready, default_config, pending_of, reader_trim, records_from, records_next}
use Rattle.csv.specs.{Reading.source_of, declared.{parser.{Config.Config, State.State}, reader.Reader.Reader, error.Error.Error}}
use Rattle.csv.specs.declared.parser.State.TheVariants as st
use Rattle.csv.specs.declared.reader.Trim.TheVariants as trim
use Rattle.feed_csv.specs.Records.{Finds, IsOver, IsPlain, TakesRecord, rows_left}

-- a record takes a byte at least, or it is the last of a text that is at its end
abbrev pub Shortens : List ℕ → Option Read → Type 0
Shortens bytes None = Unit {0}
Shortens bytes (Some read) = (length read.2 < length bytes) ⊎ ((read.1 ≡ st.StartRecord) × (read.2 ≡ []))

Shortens-more : (byte : ℕ) (bytes : List ℕ) (found : Option Read) → Shortens bytes found → Shortens (byte ∷ bytes) found
Shortens-more byte bytes None h = tt
Shortens-more byte bytes (Some read) (inl shorter) = inl (omega arith)
Shortens-more byte bytes (Some read) (inr end) = inr end

next_record-shortens : (config : Config) (state : State) (fields : List (List ℕ)) (field bytes : List ℕ)
    → Shortens bytes (next_record config state fields field bytes)
unfolding next_record
next_record-shortens config state fields field [] =
    elim (ends_at_end state) as (λ b. Shortens [] (cond b (Some (fields ++ (field ∷ []), st.StartRecord, [])) None)) [
      | true ↦
          inr (refl, refl)
      | false ↦ tt
    ]
next_record-shortens config state fields field (byte ∷ bytes) =
    let next = step config state byte in
    elim (is_end next.1) as (λ b. Shortens (byte ∷ bytes) (cond b (Some (fields_after next.1 fields field, next.0, bytes))
    (next_record config next.0 (fields_after next.1 fields field) (field_after next.1 byte field) bytes))) [
      | true ↦ inl (omega arith)
      | false ↦
          Shortens-more byte bytes _ (next_record-shortens config next.0 (fields_after next.1 fields field)
          (field_after next.1 byte field) bytes)
    ]

-- there is no record where nothing is left
records_from-nil : (config : Config) (turns : ℕ) → records_from config turns st.StartRecord [] ≡ []
unfolding records_from next_record
records_from-nil config zero = refl
records_from-nil config (suc turns) = refl

at_end : (config : Config) (m n : ℕ) (state : State) (bytes : List ℕ) → state ≡ st.StartRecord → bytes ≡ []
    → records_from config m state bytes ≡ records_from config n state bytes
at_end config m n state bytes start none = rw (start, none) (records_from-nil config m ∙ sym (records_from-nil config n))

-- turns past the text's length find no more records
records_from-turns : (config : Config) (m n : ℕ) (state : State) (bytes : List ℕ) → length bytes < m → length bytes < n
    → records_from config m state bytes ≡ records_from config n state bytes
unfolding records_from
records_from-turns config zero n state bytes low high = absurd (omega arith)
records_from-turns config (suc m) zero state bytes low high = absurd (omega arith)
records_from-turns config (suc m) (suc n) state bytes low high =
    elim (next_record config state [] [] bytes) as (λ (found : Option Read). Shortens bytes found
    → records_next (records_from config m) found ≡ records_next (records_from config n) found) [
      | None ↦ λ s. refl
      | Some read ↦ λ s. ap (λ (rows : List (List (List ℕ))). read.0 ∷ rows)
          (elim s [
            | inl shorter ↦ records_from-turns config m n read.1 read.2 (omega arith) (omega arith)
            | inr end ↦ at_end config m n read.1 read.2 end.0 end.1
          ])
    ]
    (next_record-shortens config state [] [] bytes)

after_first : (config : Config) (state : State) (bytes : List ℕ) (read : Read) → Shortens bytes (Some read)
    → records_from config (length bytes) read.1 read.2 ≡ records_from config (length read.2 + 1) read.1 read.2
after_first config state bytes read (inl shorter) =
    records_from-turns config (length bytes) (length read.2 + 1) read.1 read.2 shorter (omega arith)
after_first config state bytes read (inr end) = at_end config (length bytes) (length read.2 + 1) read.1 read.2 end.0 end.1

-- the record that is read first is the first of the records, and those after it are the others
records_from-first : (config : Config) (state : State) (bytes : List ℕ) (read : Read)
    → next_record config state [] [] bytes ≡ Some read
    → records_from config (length bytes + 1) state bytes ≡ read.0 ∷ records_from config (length read.2 + 1) read.1 read.2
unfolding records_from
records_from-first config state bytes read found =
    let shortens : Shortens bytes (Some read) = rw found at (next_record-shortens config state [] [] bytes) in
    rw (add-one (length bytes), found) (ap (λ (rows : List (List (List ℕ))). read.0 ∷ rows)
    (after_first config state bytes read shortens))

records_from-none : (config : Config) (state : State) (bytes : List ℕ) → next_record config state [] [] bytes ≡ None
    → records_from config (length bytes + 1) state bytes ≡ []
unfolding records_from
records_from-none config state bytes none = rw (add-one (length bytes), none) refl

takes_next : (state after : State) (bytes rest : List ℕ) (fields : List (List ℕ)) (found : Option Read)
    → next_record default_config state [] [] bytes ≡ found
    → NextIs found true fields after rest
    → records_from default_config (length bytes + 1) state bytes ≡ fields
    ∷ records_from default_config (length rest + 1) after rest
takes_next state after bytes rest fields None next is = cc is
takes_next state after bytes rest fields (Some read) next is =
    rw (is.1, is.2, is.3) (records_from-first default_config state bytes read next)

is_over_next : (state after : State) (bytes rest : List ℕ) (fields : List (List ℕ)) (found : Option Read)
    → next_record default_config state [] [] bytes ≡ found
    → NextIs found false fields after rest → records_from default_config (length bytes + 1) state bytes ≡ []
is_over_next state after bytes rest fields None next is = records_from-none default_config state bytes next
is_over_next state after bytes rest fields (Some read) next is = cc (is.0)

rows_in : State → Option (List ℕ) → Option (List (List (List ℕ)))
rows_in state source = option_map (λ bytes. records_from default_config (length bytes + 1) state bytes) source

takes_from : (state after : State) (before left : Option (List ℕ)) (fields : List (List ℕ))
    → ReadsNext default_config state before left true fields after
    → TakesRecord (rows_in state before) fields (rows_in after left)
unfolding rows_in
takes_from state after None left fields reads = tt
takes_from state after (Some bytes) None fields reads = absurd reads
takes_from state after (Some bytes) (Some rest) fields reads = takes_next state after bytes rest fields _ refl reads

is_over_from : (state after : State) (before left : Option (List ℕ)) (fields : List (List ℕ))
    → ReadsNext default_config state before left false fields after
    → IsOver (rows_in state before)
unfolding rows_in
is_over_from state after None left fields reads = tt
is_over_from state after (Some bytes) None fields reads = absurd reads
is_over_from state after (Some bytes) (Some rest) fields reads = is_over_next state after bytes rest fields _ refl reads

-- what a reader has left once it looked for a byte order mark
source_of-begun : {R : Type 0} (remaining : R → Option (List ℕ)) (reader : Reader R) → reader.bom_checked ≡ true
    → source_of remaining reader ≡ pending_of (remaining reader.rdr) reader
source_of-begun remaining reader begun = rw begun refl

-- a read that found a record took the first of those left
takes-first : {R : Type 0} (remaining : R → Option (List ℕ)) (old new : Reader R) (fields : List (List ℕ))
    → old.config ≡ default_config
    → ReadRecord remaining old new true fields → TakesRecord (rows_left remaining old) fields (rows_left remaining new)
unfolding rows_in
takes-first remaining old new fields plain reads =
    rw (source_of-begun remaining new reads.1)
    (takes_from old.state new.state (source_of remaining old) (pending_of (remaining new.rdr) new) fields (rw plain at reads.0))

-- a read that found none shows that none are left
is_over-none : {R : Type 0} (remaining : R → Option (List ℕ)) (old new : Reader R) (fields : List (List ℕ))
    → old.config ≡ default_config
    → ReadRecord remaining old new false fields → IsOver (rows_left remaining old)
unfolding rows_in
is_over-none remaining old new fields plain reads =
    is_over_from old.state new.state (source_of remaining old) (pending_of (remaining new.rdr) new) fields (rw plain at reads.0)

-- what a plain reader's read says
abbrev pub ReadsIf : {R : Type 0} → (R → Option (List ℕ)) → Reader R → Reader R → List (List ℕ) → Result Bool Error → Type 0
ReadsIf remaining old new fields result =
    IfOk result (λ found. (reader_trim old ≡ trim.None) → Ready old → ReadRecord remaining old new found fields)

pub finds_if_read : {R : Type 0} (remaining : R → Option (List ℕ)) (old new : Reader R) (fields : List (List ℕ))
    (result : Result Bool Error)
    → IsPlain old → ReadsIf remaining old new fields result
    → IfOk result (λ found. Finds found (rows_left remaining old) fields (rows_left remaining new))
finds_if_read remaining old new fields (Ok true) plain reads =
    takes-first remaining old new fields plain.config (reads plain.untrimmed plain.ready)
finds_if_read remaining old new fields (Ok false) plain reads =
    is_over-none remaining old new fields plain.config (reads plain.untrimmed plain.ready)
finds_if_read remaining old new fields (Err error) plain reads = tt
