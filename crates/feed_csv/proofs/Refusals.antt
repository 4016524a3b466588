-- A record is refused for what it says, and never because a read failed or memory ran out; and an operation that it gives is valid.
use Rattle.std.proofs.Common.{◌≡◌, ◌≢◌, ℕ, ◌+◌, ◌≤◌, ℤ, pos, neg_ℤ, Bool, true, false, cond, codes, List, Option, Some, None}
use Rattle.std.proofs.Common.{Result, Ok, Err, IsTrue, length, nat_eq, IfOk, IfSome, option_map, drop, refl, subst, arith}
use Rattle.std.{proofs.lemmas.Grind.common_steps, specs.Str.bytes_eq}
use Rattle.graph_types.specs.{Limits.is_time, Limits.is_weight, Valid.{IsValid, are_names, is_kind_name, is_name}}
use Rattle.graph_types.specs.declared.batches.NamedOp.{NamedOp, TheVariants.{Insert, Incr}}
use Rattle.graph_types.specs.declared.requests.{NamedFilter.NamedFilter, Request.{Request, TheVariants.{Labels, Cores, Degrees}}}
use Rattle.graph_types.proofs.NameTexts.{names_are}
use Rattle.feed_csv.specs.declared.command.Command.TheVariants.{Commit, OpenSlot, CloseSlot, Stat, Collect, Rebase}
use Rattle.feed_csv.specs.Commands.{HasValidOp, RefusesItem, bare_command, edge_command, edge_fields, edge_of, expire_of, filter_at}
use Rattle.feed_csv.specs.Commands.{filter_command, filter_fields, item_of, levels_of, names_at, remove_of, slot_command}
use Rattle.feed_csv.specs.Fields.{◌>>=◌, any_kind_at}
use Rattle.feed_csv.specs.{Fields.{field, kind_at, name_at, of_length, required, slot_at, time_at, weight_at}, Number.at_most}
use Rattle.feed_csv.specs.{Number.{has_minus, number_in_text, slot_of, time_of, weight_of}, Records.Row, Script.{FaultStepIn, NextStepIn}}
use Rattle.feed_csv.specs.{Script.{Script, TakesRowIn}, declared.command.{Command.Command, FeedFault.FeedFault, FeedWord.FeedWord}}
use Rattle.feed_csv.specs.declared.command.FeedWord.TheVariants.{Read, BadCommand, BadFields, BadName, BadWeight, BadTime}
use Rattle.feed_csv.specs.declared.command.FeedWord.TheVariants.{BadSlot, Memory}

abbrev pub IsOfRecord : FeedWord → Type 0
IsOfRecord Read = ⊥
IsOfRecord Memory = ⊥
IsOfRecord _ = Unit {0}

-- a result whose word, where it has one, is of the record, and whose value is good
pub record Judges {A : Type 0} (Good : A → Type 0) (result : Result A FeedWord) : Type 0 where
  pub fails : (word : FeedWord) → result ≡ Err word → IsOfRecord word
  pub gives : (value : A) → result ≡ Ok value → Good value

abbrev Any : {A : Type 0} → A → Type 0
Any value = Unit {0}

given : {A : Type 0} {Good : A → Type 0} (value : A) → Good value → Judges Good (Ok value)
given {Good = Good} value good = record {
  fails = λ word same. cc same;
  gives = λ other same. let e : value ≡ other = cc same in subst Good e good;
}

refused : {A : Type 0} {Good : A → Type 0} (word : FeedWord) → IsOfRecord word → Judges Good (Err word)
refused word of = record {
  fails = λ other same. let e : word ≡ other = cc same in rw (← e) of;
  gives = λ value same. cc same;
}

then : {A B : Type 0} {Here : A → Type 0} {Good : B → Type 0} (first : Result A FeedWord) (next : A → Result B FeedWord)
    → Judges Here first → ((value : A) → Here value → Judges Good (next value)) → Judges Good (first >>= next)
then (Ok value) next here there = there value (here.gives value refl)
then (Err word) next here there = refused word (here.fails word refl)

tested : {A : Type 0} {Good : A → Type 0} (test : Bool) (one other : Result A FeedWord) → (IsTrue test → Judges Good one)
    → Judges Good other → Judges Good (cond test one other)
tested true one other a b = a refl
tested false one other a b = b

needed : {A : Type 0} {Good : A → Type 0} (word : FeedWord) (value : Option A) → IsOfRecord word
    → ((some : A) → value ≡ Some some → Good some) → Judges Good (required word value)
needed word None of good = refused word of
needed word (Some value) of good = given value (good value refl)

-- a number that is at most another is at most it
within : (most : ℕ) (value : Option ℕ) (n : ℕ) → at_most most value ≡ Some n → n ≤ most
within most None n same = cc same
within most (Some value) n same = grind (arith, common_steps, same)

signed : (minus : Bool) (one other : Option ℕ) (weight : ℤ)
    → cond minus (option_map (λ size. neg_ℤ (pos size)) (at_most 1099511627776 one))
    (option_map pos (at_most 1099511627776 other))
    ≡ Some weight → IsTrue (is_weight weight)
signed true None other weight same = cc same
signed true (Some size) other weight same = grind (arith, common_steps, same)
signed false one None weight same = cc same
signed false one (Some size) weight same = grind (arith, common_steps, same)

weight_in_range : (text : List ℕ) (weight : ℤ) → weight_of text ≡ Some weight → IsTrue (is_weight weight)
weight_in_range text weight same = signed (has_minus text) (number_in_text (drop 1 text)) (number_in_text text) weight same

time_in_range : (text : List ℕ) (time : ℕ) → time_of text ≡ Some time → IsTrue (is_time time)
time_in_range text time same =
    let most : time ≤ 9223372036854775807 = within 9223372036854775807 (number_in_text text) time same in
    grind (arith, common_steps, most)

of_length-judges : (count : ℕ) (row : Row) → Judges Any (of_length count row)
unfolding of_length
of_length-judges count row =
    tested (nat_eq (length row) count) (Ok row) (Err BadFields) (λ _. given row tt) (refused BadFields tt)

sized : {A : Type 0} {Good : A → Type 0} (count : ℕ) (row : Row) (next : Row → Result A FeedWord)
    → ((fit : Row) → Judges Good (next fit)) → Judges Good (of_length count row >>= next)
sized count row next there = then (of_length count row) next (of_length-judges count row) (λ fit _. there fit)

name_at-judges : (row : Row) (place : ℕ) → Judges (λ name. IsTrue (is_name name)) (name_at row place)
unfolding name_at
name_at-judges row place =
    let text = field row place in tested (is_name text) (Ok text) (Err BadName) (λ is. given text is) (refused BadName tt)

kind_at-judges : (row : Row) (place : ℕ) → Judges (λ kind. IsTrue (is_kind_name kind)) (kind_at row place)
unfolding kind_at
kind_at-judges row place =
    let text = field row place in tested (is_kind_name text) (Ok text) (Err BadName) (λ is. given text is) (refused BadName tt)

any_kind_at-judges : (row : Row) (place : ℕ) → Judges Any (any_kind_at row place)
unfolding any_kind_at
any_kind_at-judges row place =
    let text = field row place in
    let kind = cond (is_kind_name text) (Ok (Some text)) (Err BadName) in
    tested (bytes_eq text (codes "*")) (Ok None) kind (λ _. given None tt)
    (tested (is_kind_name text) (Ok (Some text)) (Err BadName) (λ _. given (Some text) tt) (refused BadName tt))

weight_at-judges : (row : Row) (place : ℕ) → Judges (λ weight. IsTrue (is_weight weight)) (weight_at row place)
unfolding weight_at
weight_at-judges row place = let text = field row place in needed BadWeight (weight_of text) tt (weight_in_range text)

time_at-judges : (row : Row) (place : ℕ) → Judges (λ time. IsTrue (is_time time)) (time_at row place)
unfolding time_at
time_at-judges row place = let text = field row place in needed BadTime (time_of text) tt (time_in_range text)

slot_at-judges : (row : Row) (place : ℕ) → Judges Any (slot_at row place)
unfolding slot_at
slot_at-judges row place = needed BadSlot (slot_of (field row place)) tt (λ _ _. tt)

names_at-judges : (row : Row) (place : ℕ) → Judges (λ n. IsTrue (are_names n.kind n.source n.target)) (names_at row place)
unfolding names_at
names_at-judges row place =
    then (kind_at row place) _ (kind_at-judges row place) (λ v0 kind.
    then (name_at row (place + 1)) _ (name_at-judges row (place + 1)) (λ v1 source.
    then (name_at row (place + 2)) _ (name_at-judges row (place + 2)) (λ v2 target.
    given _ (names_are v0 v1 v2 kind source target))))

edge_fields-judges : (row : Row) → Judges (λ e. IsTrue (are_names e.names.kind e.names.source e.names.target)
    × IsTrue (is_weight e.amount) × IsTrue (is_time e.time)) (edge_fields row)
unfolding edge_fields
edge_fields-judges row =
    sized 6 row _ (λ r. then (names_at r 1) _ (names_at-judges r 1) (λ v0 names.
    then (weight_at r 4) _ (weight_at-judges r 4) (λ v1 weight. then (time_at r 5) _ (time_at-judges r 5) (λ v2 time.
    given _ (names, weight, time)))))

edge_command-judges : (op : List ℕ → List ℕ → List ℕ → ℤ → ℕ → NamedOp) (row : Row)
    → ((kind source target : List ℕ) (weight : ℤ) (time : ℕ) → IsTrue (are_names kind source target)
    × IsTrue (is_weight weight) × IsTrue (is_time time) → IsValid (op kind source target weight time))
    → Judges HasValidOp (edge_command op row)
unfolding edge_command
edge_command-judges op row valid = then (edge_fields row) _ (edge_fields-judges row) (λ e is. given _ (valid _ _ _ _ _ is))

remove_of-judges : (row : Row) → Judges HasValidOp (remove_of row)
unfolding remove_of
remove_of-judges row =
    sized 4 row _ (λ r. then (names_at r 1) _ (names_at-judges r 1) (λ v0 names.
    given _ (record { names = names; weight = refl; time = refl })))

expire_of-judges : (row : Row) → Judges HasValidOp (expire_of row)
unfolding expire_of
expire_of-judges row =
    sized 2 row _ (λ r. then (time_at r 1) _ (time_at-judges r 1) (λ v0 time.
    given _ (record { names = refl; weight = refl; time = time })))

bare_command-judges : (command : Command) (row : Row) → HasValidOp command → Judges HasValidOp (bare_command command row)
unfolding bare_command
bare_command-judges command row valid = sized 1 row _ (λ r. given _ valid)

slot_command-judges : (command : ℕ → Command) (row : Row) → ((slot : ℕ) → HasValidOp (command slot))
    → Judges HasValidOp (slot_command command row)
unfolding slot_command
slot_command-judges command row valid =
    sized 2 row _ (λ r. then (slot_at r 1) _ (slot_at-judges r 1) (λ slot _. given _ (valid slot)))

filter_at-judges : (row : Row) (place : ℕ) → Judges Any (filter_at row place)
unfolding filter_at
filter_at-judges row place =
    then (any_kind_at row place) _ (any_kind_at-judges row place) (λ v0 _.
    then (time_at row (place + 1)) _ (time_at-judges row (place + 1)) (λ v1 _.
    then (time_at row (place + 2)) _ (time_at-judges row (place + 2)) (λ v2 _. given _ tt)))

filter_fields-judges : (row : Row) → Judges Any (filter_fields row)
unfolding filter_fields
filter_fields-judges row =
    sized 5 row _ (λ r. then (filter_at r 2) _ (filter_at-judges r 2) (λ v0 _.
    then (slot_at r 1) _ (slot_at-judges r 1) (λ v1 _. given _ tt)))

levels_of-judges : (row : Row) → Judges HasValidOp (levels_of row)
unfolding levels_of
levels_of-judges row =
    sized 6 row _ (λ r. then (name_at r 2) _ (name_at-judges r 2) (λ v0 _.
    then (filter_at r 3) _ (filter_at-judges r 3) (λ v1 _. then (slot_at r 1) _ (slot_at-judges r 1) (λ v2 _. given _ tt))))

filter_command-judges : (request : NamedFilter → Request) (row : Row) → Judges HasValidOp (filter_command request row)
unfolding filter_command
filter_command-judges request row = then (filter_fields row) _ (filter_fields-judges row) (λ _ _. given _ tt)

edge_of-judges : (row : Row) → Judges HasValidOp (edge_of row)
unfolding edge_of
edge_of-judges row =
    sized 5 row _ (λ r. then (names_at r 2) _ (names_at-judges r 2) (λ v0 _.
    then (slot_at r 1) _ (slot_at-judges r 1) (λ v1 _. given _ tt)))

-- no record is refused for Read or Memory, and each operation is valid
pub item_of-judges : (row : Row) → Judges HasValidOp (item_of row)
unfolding item_of
item_of-judges row =
    let is = λ (text : List ℕ). bytes_eq (field row 0) text in
    tested (is (codes "i")) _ _
    (λ _. edge_command-judges Insert row (λ _ _ _ _ _ edge. record { names = edge.0; weight = edge.1; time = edge.2 }))
    (tested (is (codes "a")) _ _
    (λ _. edge_command-judges Incr row (λ _ _ _ _ _ edge. record { names = edge.0; weight = edge.1; time = edge.2 }))
    (tested (is (codes "r")) _ _ (λ _. remove_of-judges row) (tested (is (codes "x")) _ _ (λ _. expire_of-judges row)
    (tested (is (codes "commit")) _ _ (λ _. bare_command-judges Commit row tt)
    (tested (is (codes "open")) _ _ (λ _. slot_command-judges OpenSlot row (λ _. tt))
    (tested (is (codes "close")) _ _ (λ _. slot_command-judges CloseSlot row (λ _. tt))
    (tested (is (codes "bfs")) _ _ (λ _. levels_of-judges row)
    (tested (is (codes "comp")) _ _ (λ _. filter_command-judges Labels row)
    (tested (is (codes "core")) _ _ (λ _. filter_command-judges Cores row)
    (tested (is (codes "deg")) _ _ (λ _. filter_command-judges Degrees row)
    (tested (is (codes "edge")) _ _ (λ _. edge_of-judges row)
    (tested (is (codes "stat")) _ _ (λ _. bare_command-judges Stat row tt)
    (tested (is (codes "collect")) _ _ (λ _. bare_command-judges Collect row tt)
    (tested (is (codes "rebase")) _ _ (λ _. slot_command-judges Rebase row (λ _. tt)) (refused BadCommand tt)))))))))))))))

-- a record that was taken and refused is a step of the feed
pub refused_step : (word : FeedWord) (row : Row) (old new : Script) → word ≢ Memory → RefusesItem word (item_of row)
    → TakesRowIn None old row new → FaultStepIn None word old new
refused_step Read row old new other same takes = absurd ((item_of-judges row).fails Read same)
refused_step Memory row old new other same takes = absurd (other refl)
refused_step _ row old new other same takes = (row, same, takes)

-- an operation that a step gives is valid
pub step_valid : (result : Result (Option Command) FeedFault) (old new : Script) → NextStepIn None old result new
    → IfOk result (λ found. IfSome found HasValidOp)
step_valid (Ok (Some command)) old new step = (item_of-judges step.0).gives command step.1
step_valid _ old new step = tt
