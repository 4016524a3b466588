-- Names and their numbers, as entries of a dictionary are used.
use Rattle.std.proofs.Common.{◌≡◌, ℕ, ◌<◌, Bool, true, false, List, length, set, refl, sym, ap, subst, ◌∙◌, inl, inr, Option, Some, None, is_some, IsTrue, true≢false, get_or}
use Rattle.std.proofs.lemmas.{Bool.{and_parts, Decides.eqb_tells}, Option.{slice_get_within, slice_get-get_or}}
use Rattle.std.specs.List.{slice_get}
use Rattle.graph_types.specs.{Answer.is_listed, Step.{number_of, with_name}, Valid.{is_name}}
use Rattle.graph_types.proofs.{ListedNames.{entered, kept, placed, listed_below}, ListPlaces.{set_same, set_else}}
use Rattle.vertex_names.specs.Book.{Book, with_entry}
use Rattle.batch_columns.specs.Dictionaries.{name_ending, start_of}
use Rattle.opening_columns.specs.Numbers.{may_name, if_named, entry_name, HasItsNumber, AreSeen, Enters}

-- what may name anything is a name
pub named_is_name : (is_kind : Bool) (bytes : List ℕ) → may_name is_kind bytes ≡ true → is_name bytes ≡ true
named_is_name true bytes may = (and_parts (is_name bytes) _ may).0
named_is_name false bytes may = may

within_if : (is_kind : Bool) (text ends : List ℕ) (entry : ℕ) (name : List ℕ) (end : Option ℕ) → slice_get ends entry ≡ end
    → if_named is_kind (name_ending text (start_of ends entry) end) ≡ Some name → entry < length ends
within_if is_kind text ends entry name None at is = absurd (true≢false (sym (ap is_some is)))
within_if is_kind text ends entry name (Some end) at is = slice_get_within ends entry end at

-- an entry with a name is one of the dictionary
pub entry_within : (is_kind : Bool) (text ends : List ℕ) (entry : ℕ) (name : List ℕ) → entry_name is_kind text ends entry ≡ Some name
    → entry < length ends
entry_within is_kind text ends entry name is = within_if is_kind text ends entry name (slice_get ends entry) refl is

same_names : (names : List (List ℕ)) (name : List ℕ) → IsTrue (is_listed names name) → with_name names name ≡ names
same_names names name listed = rw listed refl

-- a name that was seen has appeared, and changes nothing
pub seen_enters : (is_kind : Bool) (text ends : List ℕ) (entry : ℕ) (book : Book) (n : ℕ)
    → HasItsNumber is_kind text ends entry book.names n → Enters is_kind text ends entry book n book
seen_enters is_kind text ends entry book n is = record {
  name = is.name;
  name_is = is.name_is;
  number_is = is.number_is;
  new_is = λ i. record { limit = book.limit; names = sym (same_names book.names is.name is.listed) i };
}

pub seen_below : (is_kind : Bool) (text ends : List ℕ) (entry : ℕ) (names : List (List ℕ)) (n : ℕ)
    → HasItsNumber is_kind text ends entry names n → n < length names
seen_below is_kind text ends entry names n is = listed_below names is.name n is.listed is.number_is

-- a name that was added
numbered_anew : (old new : Book) (name : List ℕ) (n : ℕ) → n ≡ number_of old.names name → new ≡ with_entry old name
    → n ≡ number_of new.names name
numbered_anew old new name n is added = is ∙ placed old.names name ∙ ap (λ (b : Book). number_of b.names name) (sym added)

listed_anew : (old new : Book) (name : List ℕ) → new ≡ with_entry old name → IsTrue (is_listed new.names name)
listed_anew old new name added = subst (λ (b : Book). IsTrue (is_listed b.names name)) (sym added) (entered old.names name)

pub added_enters : (is_kind : Bool) (text ends : List ℕ) (entry : ℕ) (old new : Book) (name : List ℕ) (n : ℕ)
    → entry_name is_kind text ends entry ≡ Some name → n ≡ number_of old.names name → new ≡ with_entry old name
    → Enters is_kind text ends entry old n new
added_enters is_kind text ends entry old new name n is number added =
    record { name = name; name_is = is; number_is = numbered_anew old new name n number added; new_is = added }

pub added_below : (old new : Book) (name : List ℕ) (n : ℕ) → n ≡ number_of old.names name → new ≡ with_entry old name
    → n < length new.names
added_below old new name n number added =
    listed_below new.names name n (listed_anew old new name added) (numbered_anew old new name n number added)

-- what was numbered stays so
kept_numbered : (is_kind : Bool) (text ends : List ℕ) (entry : ℕ) (old new : Book) (name : List ℕ) (n : ℕ) → new ≡ with_entry old name
    → HasItsNumber is_kind text ends entry old.names n → HasItsNumber is_kind text ends entry new.names n
kept_numbered is_kind text ends entry old new name n added is =
    let more = kept old.names name is.name is.listed in
    subst (λ (b : Book). HasItsNumber is_kind text ends entry b.names n) (sym added)
    (record { name = is.name; name_is = is.name_is; listed = more.0; number_is = is.number_is ∙ sym more.1 })

pub added_seen : (is_kind : Bool) (text ends : List ℕ) (entry : ℕ) (old new : Book) (name : List ℕ) (n : ℕ) (seen : List (Option ℕ))
    → AreSeen is_kind text ends old.names seen → entry_name is_kind text ends entry ≡ Some name → n ≡ number_of old.names name
    → new ≡ with_entry old name → entry < length seen → AreSeen is_kind text ends new.names (set seen entry (Some n))
added_seen is_kind text ends entry old new name n seen are is number added within = λ other m at.
    elim (eqb_tells other entry) [
      | inl same ↦
          let there : slice_get (set seen entry (Some n)) entry ≡ Some (Some n) =
          set_same seen entry (get_or seen entry None) (Some n) (slice_get-get_or seen entry None within) in
          let equal : Some (Some m) ≡ Some (Some n) = sym at ∙ ap (slice_get (set seen entry (Some n))) same.1 ∙ there in
          let number_same : n ≡ m = cc in
          subst (λ (e : ℕ). HasItsNumber is_kind text ends e new.names m) (sym same.1) (record {
            name = name;
            name_is = is;
            listed = listed_anew old new name added;
            number_is = sym number_same ∙ numbered_anew old new name n number added;
          })
      | inr apart ↦ kept_numbered is_kind text ends other old new name m added
          (are other m (sym (set_else seen entry other (Some n) apart.1) ∙ at))
    ]
