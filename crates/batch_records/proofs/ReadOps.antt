-- A valid operation's record is the command that adds it.
use Rattle.std.proofs.Common.{◌≡◌, ◌&&◌, ℕ, ℤ, List, ◌∷◌, [], true, Ok, Some, codes, decimal, refl}
use Rattle.std.proofs.lemmas.Bool.{and_parts}
use Rattle.std.specs.Fmt.{signed_decimal}
use Rattle.csv.specs.Records.{field_at}
use Rattle.graph_types.specs.Valid.{IsValid, are_names, is_kind_name, is_name}
use Rattle.graph_types.specs.declared.batches.NamedOp.{NamedOp, TheVariants.{Insert, Incr, Remove, Expire}}
use Rattle.feed_csv.specs.Commands.{edge_command, edge_fields, expire_of, item_of, names_at, remove_of}
use Rattle.feed_csv.specs.{Fields.{kind_at, name_at, of_length, time_at, weight_at}, Number.{time_of, weight_of}}
use Rattle.feed_csv.specs.declared.command.Command.TheVariants.{Op}
use Rattle.batch_records.specs.Texts.{record_fields}
use Rattle.batch_records.proofs.Numbers.{time_read, weight_read}

record AreNames (kind source target : List ℕ) : Type 0 where
  of_kind : is_kind_name kind ≡ true
  of_source : is_name source ≡ true
  of_target : is_name target ≡ true

names_are : (kind source target : List ℕ) → are_names kind source target ≡ true → AreNames kind source target
names_are kind source target all =
    let both = and_parts (is_kind_name kind && is_name source) (is_name target) all in
    let first = and_parts (is_kind_name kind) (is_name source) both.0 in
    record { of_kind = first.0; of_source = first.1; of_target = both.1 }

insertion_read : (kind source target weight_text time_text : List ℕ) (weight : ℤ) (time : ℕ) → AreNames kind source target
    → weight_of weight_text ≡ Some weight → time_of time_text ≡ Some time
    → item_of (codes "i" ∷ kind ∷ source ∷ target ∷ weight_text ∷ time_text ∷ []) ≡ Ok (Op (Insert kind source target weight time))
unfolding item_of edge_command edge_fields names_at of_length kind_at name_at weight_at time_at field_at
insertion_read kind source target weight_text time_text weight time names w t =
    rw (names.of_kind, names.of_source, names.of_target, w, t) refl

addition_read : (kind source target weight_text time_text : List ℕ) (weight : ℤ) (time : ℕ) → AreNames kind source target
    → weight_of weight_text ≡ Some weight → time_of time_text ≡ Some time
    → item_of (codes "a" ∷ kind ∷ source ∷ target ∷ weight_text ∷ time_text ∷ []) ≡ Ok (Op (Incr kind source target weight time))
unfolding item_of edge_command edge_fields names_at of_length kind_at name_at weight_at time_at field_at
addition_read kind source target weight_text time_text weight time names w t =
    rw (names.of_kind, names.of_source, names.of_target, w, t) refl

removal_read : (kind source target : List ℕ) → AreNames kind source target
    → item_of (codes "r" ∷ kind ∷ source ∷ target ∷ []) ≡ Ok (Op (Remove kind source target))
unfolding item_of remove_of names_at of_length kind_at name_at field_at
removal_read kind source target names = rw (names.of_kind, names.of_source, names.of_target) refl

expiry_read : (time_text : List ℕ) (time : ℕ) → time_of time_text ≡ Some time
    → item_of (codes "x" ∷ time_text ∷ []) ≡ Ok (Op (Expire time))
unfolding item_of expire_of of_length time_at field_at
expiry_read time_text time t = rw t refl

pub op_read : (op : NamedOp) → IsValid op → item_of (record_fields op) ≡ Ok (Op op)
op_read (Insert kind source target weight time) is =
    insertion_read kind source target (signed_decimal weight) (decimal time) weight time (names_are kind source target is.names)
    (weight_read weight is.weight) (time_read time is.time)
op_read (Incr kind source target amount time) is =
    addition_read kind source target (signed_decimal amount) (decimal time) amount time (names_are kind source target is.names)
    (weight_read amount is.weight) (time_read time is.time)
op_read (Remove kind source target) is = removal_read kind source target (names_are kind source target is.names)
op_read (Expire time) is = expiry_read (decimal time) time (time_read time is.time)
