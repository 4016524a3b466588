-- What a row with its numbers leaves, and why a row has none.
use Rattle.std.proofs.Common.{◌≡◌, ◌<◌, ◌≤◌, ◌∙◌, ◌++◌, ◌∷◌, [], ℕ, ℤ, pos, Bool, true, false, List, Some, None, refl, sym, ap, subst, arith, length, IsTrue, true≢false}
use Rattle.std.proofs.lemmas.{Bool.{and_from, ltb-true, leb-true}}
use Rattle.std.specs.{Prelude.{slice_index_or}, FinMap.{FinMap, get, empty}}
use Rattle.graph_types.specs.{Graph.{Graph, Key, Stamp, key_cmp}, Limits.{LimitsView, IsWeight, IsTime}}
use Rattle.graph_types.specs.{Step.{after, changed, set_at, stamp_after, with_name, number_of}, Answer.is_listed, Valid.IsValid}
use Rattle.graph_types.specs.{Parts.{names_after, kinds_after}, declared.{batches.NamedOp.NamedOp}}
use Rattle.graph_types.proofs.{ListedNames.{entered, kept, listed_below}, NameLists.length-with_name}
use Rattle.vertex_names.specs.Book.{Book, with_entry}
use Rattle.batch_columns.specs.Operations.{OperationTable}
use Rattle.opening_columns.specs.{Puts.{put_at, put_key, after_puts, graph_of_puts}, declared.numbering.Put.Put}
use Rattle.opening_columns.specs.Numbers.{Enters, Takes, RefusesEntry, RefusesNumbers, vertex_refusal, kind_refusal, is_sound, entry_name}
use Rattle.opening_columns.specs.declared.numbering.EntryError.{EntryError}
use Rattle.opening_columns.specs.declared.numbering.EntryError.TheVariants as entries
use Rattle.opening_columns.proofs.{PutMaps.one_more, RowParts.{op_of, change_of, is_insertion, change_is, after_op, names_of_op, kinds_of_op, valid_op, sound_op}}
use Rattle.opening_columns.proofs.RowParts.{ArePutParts, put_parts, put_by, named, unnamed, sound_parts}

-- an operation that makes its names
made_op : (b : Bool) (k s g : List ℕ) (w : ℤ) (time : ℕ) (h : Graph) →
    let names = with_name (with_name h.names s) g in
    let kinds = with_name h.kinds k in
    let key : Key = record { kind = number_of kinds k; source = number_of names s; target = number_of names g } in
    changed (change_of b w time h.limits.weight) k s g h
    ≡ record {
      names = names;
      kinds = kinds;
      edges = set_at h.edges key (stamp_after (change_of b w time h.limits.weight) (get h.edges key));
      limits = h.limits;
    }
made_op true k s g w time h = refl
made_op false k s g w time h = refl

abbrev pub row_source : OperationTable → ℕ → ℕ
row_source t place = slice_index_or t.sources place 0

abbrev pub row_target : OperationTable → ℕ → ℕ
row_target t place = slice_index_or t.targets place 0

abbrev pub row_kind : OperationTable → ℕ → ℕ
row_kind t place = slice_index_or t.kinds place 0

abbrev pub put_of : ℕ → ℕ → ℕ → ℕ → Put
put_of source target place kind = record { source = source; target = target; place = place; kind = record { 0 = kind } }

entered_names : (old new : Book) (name : List ℕ) → new ≡ with_entry old name → new.names ≡ with_name old.names name
entered_names old new name is = ap (λ (b : Book). b.names) is

entered_limit : (old new : Book) (name : List ℕ) → new ≡ with_entry old name → new.limit ≡ old.limit
entered_limit old new name is = ap (λ (b : Book). b.limit) is

-- a row's numbers are those of its names
module _ (t : OperationTable) (place : ℕ) (names names1 names2 kinds kinds1 : Book) (source target kind : ℕ)
    (within : place < length t.sorts) (sound : is_sound t place ≡ true)
    (of_source : Enters false t.text t.ends (row_source t place) names source names1)
    (of_target : Enters false t.text t.ends (row_target t place) names1 target names2)
    (of_kind : Enters true t.kind_text t.kind_ends (row_kind t place) kinds kind kinds1)
    (names_fit : length names2.names ≤ names2.limit) (kinds_fit : length kinds1.names ≤ kinds1.limit)
    (names_few : names.limit ≤ 67108863) (kinds_few : kinds.limit ≤ 64) where
  abbrev the_source : List ℕ
  the_source = of_source.name

  abbrev the_target : List ℕ
  the_target = of_target.name

  abbrev the_kind : List ℕ
  the_kind = of_kind.name

  all_names : names2.names ≡ with_name (with_name names.names the_source) the_target
  all_names =
      entered_names names1 names2 the_target of_target.new_is
      ∙ ap (λ (l : List (List ℕ)). with_name l the_target) (entered_names names names1 the_source of_source.new_is)

  all_kinds : kinds1.names ≡ with_name kinds.names the_kind
  all_kinds = entered_names kinds kinds1 the_kind of_kind.new_is

  listed_source : IsTrue (is_listed names1.names the_source)
  listed_source =
      subst (λ (l : List (List ℕ)). IsTrue (is_listed l the_source)) (sym (entered_names names names1 the_source of_source.new_is)) (entered names.names the_source)

  source_stays : IsTrue (is_listed names2.names the_source) × (number_of names2.names the_source ≡ number_of names1.names the_source)
  source_stays =
      subst (λ (l : List (List ℕ)). IsTrue (is_listed l the_source) × (number_of l the_source ≡ number_of names1.names the_source))
      (sym (entered_names names1 names2 the_target of_target.new_is)) (kept names1.names the_target the_source listed_source)

  source_is : source ≡ number_of names2.names the_source
  source_is = of_source.number_is ∙ sym source_stays.1

  listed_target : IsTrue (is_listed names2.names the_target)
  listed_target =
      subst (λ (l : List (List ℕ)). IsTrue (is_listed l the_target)) (sym (entered_names names1 names2 the_target of_target.new_is)) (entered names1.names the_target)

  listed_kind : IsTrue (is_listed kinds1.names the_kind)
  listed_kind = subst (λ (l : List (List ℕ)). IsTrue (is_listed l the_kind)) (sym all_kinds) (entered kinds.names the_kind)

  names_limit : names2.limit ≡ names.limit
  names_limit = entered_limit names1 names2 the_target of_target.new_is ∙ entered_limit names names1 the_source of_source.new_is

  kinds_limit : kinds1.limit ≡ kinds.limit
  kinds_limit = entered_limit kinds kinds1 the_kind of_kind.new_is

  abbrev the_weight : ℤ
  the_weight = slice_index_or t.weights place (pos 0)

  abbrev the_time : ℕ
  the_time = slice_index_or t.times place 0

  abbrev is_insert : Bool
  is_insert = is_insertion t place

  abbrev the_op : NamedOp
  the_op = op_of is_insert the_kind the_source the_target the_weight the_time

  abbrev the_put : Put
  the_put = put_of source target place kind

  leaves : (limits : LimitsView) (puts : List Put) → after the_op (graph_of_puts t limits names.names kinds.names puts)
      ≡ graph_of_puts t limits names2.names kinds1.names (puts ++ the_put ∷ [])
  leaves limits puts =
      let h : Graph = graph_of_puts t limits names.names kinds.names puts in
      let edges : FinMap key_cmp Stamp = after_puts t limits.weight puts empty in
      let key : Key = record {
        kind = number_of (with_name kinds.names the_kind) the_kind;
        source = number_of (with_name (with_name names.names the_source) the_target) the_source;
        target = number_of (with_name (with_name names.names the_source) the_target) the_target;
      } in
      let same : key ≡ put_key the_put = (λ i. record {
        kind = (ap (λ (l : List (List ℕ)). number_of l the_kind) (sym all_kinds) ∙ sym of_kind.number_is) i;
        source = (ap (λ (l : List (List ℕ)). number_of l the_source) (sym all_names) ∙ sym source_is) i;
        target = (ap (λ (l : List (List ℕ)). number_of l the_target) (sym all_names) ∙ sym of_target.number_is) i;
      }) in
      let change = change_is t limits.weight place in
      after_op is_insert the_kind the_source the_target the_weight the_time h ∙ made_op is_insert the_kind the_source the_target the_weight the_time h
      ∙ (λ i. record {
        names = sym all_names i;
        kinds = sym all_kinds i;
        edges = set_at edges (same i) (stamp_after (change i) (get edges (same i)));
        limits = limits;
      })
      ∙ ap (λ (m : FinMap key_cmp Stamp). record { names = names2.names; kinds = kinds1.names; edges = m; limits = limits })
      (sym (one_more t limits.weight puts the_put empty))

  weight_is : IsWeight the_weight
  weight_is = leb-true _ _ (sound_parts t place sound).1

  time_is : IsTime the_time
  time_is = ltb-true _ _ (sound_parts t place sound).2

  pub takes_by : Takes t place names kinds the_put names2 kinds1
  takes_by =
      let parts = sound_parts t place sound in
      let source_low = listed_below names2.names the_source source source_stays.0 source_is in
      let target_low = listed_below names2.names the_target target listed_target of_target.number_is in
      let kind_low = listed_below kinds1.names the_kind kind listed_kind of_kind.number_is in
      let kind_named = named true t.kind_text t.kind_ends (row_kind t place) the_kind of_kind.name_is in
      let source_named = named false t.text t.ends (row_source t place) the_source of_source.name_is in
      let target_named = named false t.text t.ends (row_target t place) the_target of_target.name_is in
      let of_names = names_limit in
      let of_kinds = kinds_limit in
      record {
        op = the_op;
        op_is = put_by t place the_kind the_source the_target parts.0 kind_named.0 source_named.0 target_named.0;
        valid = valid_op is_insert the_kind the_source the_target the_weight the_time (record {
          kind = kind_named.1;
          source = source_named.1;
          target = target_named.1;
          weight = parts.1;
          time_is = parts.2;
        });
        leaves = leaves;
        put = record {
          place = within;
          weight = weight_is;
          time = time_is;
          walls = record { source = omega arith; kind = omega arith; target = omega arith };
        };
        names_fit = (names_limit, names_fit);
        kinds_fit = (kinds_limit, kinds_fit);
      }

-- Why a row has no numbers

-- it isn't sound
pub unsound : (t : OperationTable) (place : ℕ) → is_sound t place ≡ false → (op : NamedOp) → put_at t place ≡ Some op → IsValid op → ⊥
unsound t place none op is valid =
    let parts = put_parts t place op is in
    let of_op = subst IsValid parts.op_is valid in
    let sound = sound_op _ parts.kind parts.source parts.target _ _ of_op in
    true≢false (sym (and_from _ _ parts.sort (and_from _ _ sound.weight sound.time_is)) ∙ none)

-- one of its entries has no name
pub no_source : (t : OperationTable) (place : ℕ) → entry_name false t.text t.ends (row_source t place) ≡ None
    → (op : NamedOp) → put_at t place ≡ Some op → IsValid op → ⊥
no_source t place none op is valid =
    let parts = put_parts t place op is in
    let sound = sound_op _ parts.kind parts.source parts.target _ _ (subst IsValid parts.op_is valid) in
    unnamed false t.text t.ends (row_source t place) parts.source none parts.source_is sound.source

pub no_target : (t : OperationTable) (place : ℕ) → entry_name false t.text t.ends (row_target t place) ≡ None
    → (op : NamedOp) → put_at t place ≡ Some op → IsValid op → ⊥
no_target t place none op is valid =
    let parts = put_parts t place op is in
    let sound = sound_op _ parts.kind parts.source parts.target _ _ (subst IsValid parts.op_is valid) in
    unnamed false t.text t.ends (row_target t place) parts.target none parts.target_is sound.target

pub no_kind : (t : OperationTable) (place : ℕ) → entry_name true t.kind_text t.kind_ends (row_kind t place) ≡ None
    → (op : NamedOp) → put_at t place ≡ Some op → IsValid op → ⊥
no_kind t place none op is valid =
    let parts = put_parts t place op is in
    let sound = sound_op _ parts.kind parts.source parts.target _ _ (subst IsValid parts.op_is valid) in
    unnamed true t.kind_text t.kind_ends (row_kind t place) parts.kind none parts.kind_is sound.kind

-- names that a row's operation leaves, by its entries
names_by_row : (t : OperationTable) (place : ℕ) (op : NamedOp) (names : List (List ℕ)) (parts : ArePutParts t place op)
    → names_after op names ≡ with_name (with_name names parts.source) parts.target
names_by_row t place op names parts =
    ap (λ (o : NamedOp). names_after o names) parts.op_is ∙ names_of_op _ parts.kind parts.source parts.target _ _ names

-- a name is its entry's
same_entry : (is_kind : Bool) (text ends : List ℕ) (entry : ℕ) (name other : List ℕ) → entry_name is_kind text ends entry ≡ Some name
    → Rattle.batch_columns.specs.Dictionaries.name_in text ends entry ≡ Some other → name ≡ other
same_entry is_kind text ends entry name other is at =
    let there : Some name ≡ Some other = sym (named is_kind text ends entry name is).0 ∙ at in cc

-- its source is one name too many
pub full_source : (t : OperationTable) (place : ℕ) (names : Book) (name : List ℕ)
    → entry_name false t.text t.ends (row_source t place) ≡ Some name → names.limit < length (with_name names.names name)
    → (op : NamedOp) → put_at t place ≡ Some op → names.limit < length (names_after op names.names)
full_source t place names name at full op is =
    let parts = put_parts t place op is in
    let same : name ≡ parts.source = same_entry false t.text t.ends (row_source t place) name parts.source at parts.source_is in
    let all = ap length (names_by_row t place op names.names parts) in
    let grows = length-with_name (with_name names.names parts.source) parts.target in
    let here : length (with_name names.names name) ≡ length (with_name names.names parts.source) =
    ap (λ (n : List ℕ). length (with_name names.names n)) same in
    omega arith

-- or its target
pub full_target : (t : OperationTable) (place : ℕ) (names names1 : Book) (source : ℕ) (name : List ℕ)
    → Enters false t.text t.ends (row_source t place) names source names1
    → entry_name false t.text t.ends (row_target t place) ≡ Some name → names1.limit < length (with_name names1.names name)
    → (op : NamedOp) → put_at t place ≡ Some op → names.limit < length (names_after op names.names)
full_target t place names names1 source name of_source at full op is =
    let parts = put_parts t place op is in
    let of_s : of_source.name ≡ parts.source =
    same_entry false t.text t.ends (row_source t place) of_source.name parts.source of_source.name_is parts.source_is in
    let of_g : name ≡ parts.target = same_entry false t.text t.ends (row_target t place) name parts.target at parts.target_is in
    let all = ap length (names_by_row t place op names.names parts) in
    let more : length (with_name names1.names name) ≡ length (with_name (with_name names.names parts.source) parts.target) =
    ap length ((λ i. with_name (entered_names names names1 of_source.name of_source.new_is i) (of_g i))
    ∙ ap (λ (n : List ℕ). with_name (with_name names.names n) parts.target) of_s) in
    let limit = entered_limit names names1 of_source.name of_source.new_is in
    omega arith

-- or its kind is one too many, and its names are not
pub full_kind : (t : OperationTable) (place : ℕ) (names names1 names2 kinds : Book) (source target : ℕ) (name : List ℕ)
    → Enters false t.text t.ends (row_source t place) names source names1
    → Enters false t.text t.ends (row_target t place) names1 target names2 → length names2.names ≤ names2.limit
    → entry_name true t.kind_text t.kind_ends (row_kind t place) ≡ Some name → kinds.limit < length (with_name kinds.names name)
    → (op : NamedOp) → put_at t place ≡ Some op
    → (length (names_after op names.names) ≤ names.limit) × (kinds.limit < length (kinds_after op kinds.names))
full_kind t place names names1 names2 kinds source target name of_source of_target fit at full op is =
    let parts = put_parts t place op is in
    let of_s : of_source.name ≡ parts.source =
    same_entry false t.text t.ends (row_source t place) of_source.name parts.source of_source.name_is parts.source_is in
    let of_g : of_target.name ≡ parts.target =
    same_entry false t.text t.ends (row_target t place) of_target.name parts.target of_target.name_is parts.target_is in
    let of_k : name ≡ parts.kind = same_entry true t.kind_text t.kind_ends (row_kind t place) name parts.kind at parts.kind_is in
    let all = ap length (names_by_row t place op names.names parts) in
    let more : length names2.names ≡ length (with_name (with_name names.names parts.source) parts.target) =
    ap length (entered_names names1 names2 of_target.name of_target.new_is
    ∙ (λ i. with_name (entered_names names names1 of_source.name of_source.new_is i) (of_g i))
    ∙ ap (λ (n : List ℕ). with_name (with_name names.names n) parts.target) of_s) in
    let limit : names2.limit ≡ names.limit = entered_limit names1 names2 of_target.name of_target.new_is
    ∙ entered_limit names names1 of_source.name of_source.new_is in
    let of_kinds : length (kinds_after op kinds.names) ≡ length (with_name kinds.names name) =
    ap length (ap (λ (o : NamedOp). kinds_after o kinds.names) parts.op_is
    ∙ kinds_of_op _ parts.kind parts.source parts.target _ _ kinds.names
    ∙ ap (with_name kinds.names) (sym of_k)) in
    (omega arith, omega arith)

-- as errors tell it
pub source_refused : (t : OperationTable) (place : ℕ) (names kinds : Book) (error : EntryError)
    → RefusesEntry false t.text t.ends (row_source t place) names error → RefusesNumbers t place names kinds (vertex_refusal error)
source_refused t place names kinds entries.Bad is = λ op at valid. no_source t place is op at valid
source_refused t place names kinds entries.Full is = λ op at valid. full_source t place names is.0 is.1 is.2 op at
source_refused t place names kinds entries.OutOfMemory is = tt

pub target_refused : (t : OperationTable) (place : ℕ) (names names1 kinds : Book) (source : ℕ) (error : EntryError)
    → Enters false t.text t.ends (row_source t place) names source names1
    → RefusesEntry false t.text t.ends (row_target t place) names1 error → RefusesNumbers t place names kinds (vertex_refusal error)
target_refused t place names names1 kinds source entries.Bad of_source is = λ op at valid. no_target t place is op at valid
target_refused t place names names1 kinds source entries.Full of_source is =
    λ op at valid. full_target t place names names1 source is.0 of_source is.1 is.2 op at
target_refused t place names names1 kinds source entries.OutOfMemory of_source is = tt

pub kind_refused : (t : OperationTable) (place : ℕ) (names names1 names2 kinds : Book) (source target : ℕ) (error : EntryError)
    → Enters false t.text t.ends (row_source t place) names source names1
    → Enters false t.text t.ends (row_target t place) names1 target names2 → length names2.names ≤ names2.limit
    → RefusesEntry true t.kind_text t.kind_ends (row_kind t place) kinds error → RefusesNumbers t place names kinds (kind_refusal error)
kind_refused t place names names1 names2 kinds source target entries.Bad of_source of_target fit is =
    λ op at valid. no_kind t place is op at valid
kind_refused t place names names1 names2 kinds source target entries.Full of_source of_target fit is =
    λ op at valid. full_kind t place names names1 names2 kinds source target is.0 of_source of_target fit is.1 is.2 op at
kind_refused t place names names1 names2 kinds source target entries.OutOfMemory of_source of_target fit is = tt
