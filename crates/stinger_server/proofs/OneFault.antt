-- What clap finds wrong with a command line has one meaning, whichever of its kinds of error comes.
use Rattle.std.proofs.Common.{◌≡◌, ◌⊎◌, ◌==◌, ◌&&◌, ◌||◌, ◌+◌, ℕ, Bool, true}
use Rattle.std.proofs.Common.{false, codes, List, [], ◌∷◌, refl, sym, ap, inl, inr}
use Rattle.std.specs.Prelude.{Option, None, Some, find, if◌then◌else◌, is_some, length, nat_lt, not, slice_get, drop, encode_utf8}
use Rattle.std.specs.{Prelude.{min, suc, zero}, List.list_any, Option.option_map_or, Str.{bytes_eq, chars}}
use Rattle.clap.specs.{Facts.{explicit_source, parser_of_value, unwrap_or_range}, Lexer.{long_of, short_of}, Faults.action_fault}
use Rattle.clap.specs.Faults.{bundle_step_fault, check_fault, count_fault, default_fault, defaults_fault, entered_fault, fault_of}
use Rattle.clap.specs.Faults.{flag_word_fault, flags_fault, level_fault, long_fault, option_fault, other_fault, positional_fault}
use Rattle.clap.specs.Faults.{react_fault, set_fault, settle_fault, short_fault, step_fault, stray_fault, turn_fault, use_fault}
use Rattle.clap.specs.{Faults.walk_fault, Matches.count_text, Kinds.{IsAmong, Kinds, or_else, range_kinds, request_kinds}}
use Rattle.clap.specs.{Kinds.{value_kinds, values_kinds}, Simple.{App, Shape, built, entered, label_of, names_of}, Takes.is_given}
use Rattle.clap.specs.{ValueTests.accepts, Values.refused_kind, declared.builder.action.ArgAction.ArgAction}
use Rattle.clap.specs.{declared.{builder.value_parser.ValueParser.ValueParser, error.kind.ErrorKind.ErrorKind}, Walk.Held}
use Rattle.clap.specs.Walk.{Names, Row, Rule, Step, Text, Waiting, Walk, action_of, answers_to, arg_by_id, arg_by_index}
use Rattle.clap.specs.Walk.{arg_by_long, arg_by_short, attached_value, count_of, most_values, has_row, idle, is_empty, is_pending}
use Rattle.clap.specs.Walk.{next, nothing_held, option, positional, reacted, settled, subcommand, subcommand_met, takes_several}
use Rattle.clap.specs.Walk.{takes_values, trailing, value, values_or_missing, finished, walk, walk_from, walked, with_default}
use Rattle.clap.specs.Walk.{word_met}
use Rattle.clap.specs.declared.builder.action.ArgAction.TheVariants as action
use Rattle.clap.specs.declared.error.kind.ErrorKind.TheVariants as kind
use Rattle.stinger_server.specs.Program.{Asked, asked_by, asked_by_kind, program}

-- whichever of the kinds comes, the command line asks for the same
abbrev pub HasOneMeaning : Kinds → Type 0
HasOneMeaning kinds = (k : ErrorKind) → IsAmong k kinds → (found : Asked) → asked_by kinds found ≡ asked_by_kind k

none : HasOneMeaning []
none k among found = absurd among

one : (j : ErrorKind) → HasOneMeaning (j ∷ [])
one j k (inl is) found = ap asked_by_kind (sym is)
one j k (inr nowhere) found = absurd nowhere

first : (x y : Kinds) → HasOneMeaning x → HasOneMeaning y → HasOneMeaning (or_else x y)
first [] y m n = n
first (k ∷ ks) y m n = m

choice : (b : Bool) (x y : Kinds) → HasOneMeaning x → HasOneMeaning y → HasOneMeaning (if b then x else y)
choice true x y m n = m
choice false x y m n = n

optional : {X : Type 0} (f : X → Kinds) → ((x : X) → HasOneMeaning (f x)) → (o : Option X)
    → HasOneMeaning (option_map_or f o [])
optional f all None = none
optional f all (Some x) = all x

-- ---- one use of an argument

value_meaning : (b : Bool) (p : ValueParser) (text : Text) → HasOneMeaning (value_kinds b p text)
value_meaning b p text = choice (accepts b p text) [] (refused_kind p ∷ []) none (one (refused_kind p))

values_meaning : (b : Bool) (p : ValueParser) (values : List Text) → HasOneMeaning (values_kinds b p values)
values_meaning b p [] = none
values_meaning b p (v ∷ vs) = first _ _ (value_meaning b p v) (values_meaning b p vs)

range_meaning : (least most n : ℕ) → HasOneMeaning (range_kinds least most n)
range_meaning least most n =
    choice (nat_lt 0 least && n == 0) _ _ (one kind.InvalidValue)
    (choice (least == most) _ _ (choice (least == n) _ _ none (one kind.WrongNumberOfValues))
    (choice (nat_lt n least) _ _ (one kind.TooFewValues) (choice (nat_lt most n) _ _ (one kind.TooManyValues) none)))

request_meaning : (a : ArgAction) → HasOneMeaning (request_kinds a)
request_meaning action.Set = none
request_meaning action.Append = none
request_meaning action.SetTrue = none
request_meaning action.SetFalse = none
request_meaning action.Count = none
request_meaning action.Help = one kind.DisplayHelp
request_meaning action.HelpShort = one kind.DisplayHelp
request_meaning action.HelpLong = one kind.DisplayHelp
request_meaning action.Version = one kind.DisplayVersion

passing_meaning : (a : Rule) (values : List Text) → HasOneMeaning (values_kinds a.ignore_case (parser_of_value a.parser) values)
passing_meaning a values = values_meaning a.ignore_case (parser_of_value a.parser) values

count_meaning : (a : Rule) (values : List Text) (rows : List Row) → HasOneMeaning (count_fault a values rows)
count_meaning a [] rows =
    value_meaning a.ignore_case (parser_of_value a.parser) (count_text (min (count_of a.id rows + 1) 255))
count_meaning a (v ∷ vs) rows = passing_meaning a (v ∷ vs)

set_meaning : (again : Bool) (a : Rule) (values : List Text) (rows : List Row) → HasOneMeaning (set_fault again a values rows)
set_meaning again a values rows =
    first _ _ (choice (has_row a.id rows && not again) _ _ (one kind.ArgumentConflict) none) (passing_meaning a values)

action_meaning : (x : ArgAction) (again : Bool) (a : Rule) (values : List Text) (rows : List Row)
    → HasOneMeaning (action_fault x again a values rows)
action_meaning action.Set again a values rows = set_meaning again a values rows
action_meaning action.SetTrue again a values rows = set_meaning again a values rows
action_meaning action.SetFalse again a values rows = set_meaning again a values rows
action_meaning action.Append again a values rows = passing_meaning a values
action_meaning action.Count again a values rows = count_meaning a values rows
action_meaning action.Help again a values rows = request_meaning action.Help
action_meaning action.HelpShort again a values rows = request_meaning action.HelpShort
action_meaning action.HelpLong again a values rows = request_meaning action.HelpLong
action_meaning action.Version again a values rows = request_meaning action.Version

use_meaning : (again : Bool) (a : Rule) (values : List Text) (rows : List Row) → HasOneMeaning (use_fault again a values rows)
use_meaning again a values rows =
    first _ _ (range_meaning (unwrap_or_range a.range).start_inclusive (most_values a) (length values))
    (action_meaning (action_of a) again a (values_or_missing a values) rows)

-- ---- the walk

settle_meaning : (c : List Rule) (again : Bool) (h : Held) → HasOneMeaning (settle_fault c again h)
settle_meaning c again h =
    optional _ (λ p. optional _ (λ a. use_meaning again a p.1 h.rows) (arg_by_id c p.0)) h.pending

react_meaning : (c : List Rule) (again : Bool) (a : Rule) (values : List Text) (h : Held)
    → HasOneMeaning (react_fault c again a values h)
react_meaning c again a values h = first _ _ (settle_meaning c again h) (use_meaning again a values (settled c h).rows)

option_meaning : (c : List Rule) (again : Bool) (a : Rule) (v : Option Text) (h : Held)
    → HasOneMeaning (option_fault c again a v h)
option_meaning c again a (Some v) h = react_meaning c again a (v ∷ []) h
option_meaning c again a None h = settle_meaning c again h

long_meaning : (c : List Rule) (again : Bool) (a : Option Rule) (v : Option Text) (h : Held)
    → HasOneMeaning (long_fault c again a v h)
long_meaning c again None v h = one kind.UnknownArgument
long_meaning c again (Some a) v h =
    choice (takes_values a) _ _ (option_meaning c again a v h)
    (choice (is_some v) _ _ (one kind.TooManyValues) (react_meaning c again a [] h))

short_meaning : (c : List Rule) (again : Bool) (a : Option Rule) (rest : Text) (h : Held) (more : Held → Kinds)
    → ((held : Held) → HasOneMeaning (more held)) → HasOneMeaning (short_fault c again a rest h more)
short_meaning c again None rest h more all = one kind.UnknownArgument
short_meaning c again (Some a) rest h more all =
    choice (takes_values a) _ _ (option_meaning c again a (attached_value rest) h)
    (first _ _ (react_meaning c again a [] h) (all (reacted c a [] h)))

bundle_step_meaning : (c : List Rule) (again : Bool) (x : Option ℕ) (flags : Text) (skip : ℕ) (h : Held)
    (more : Text → ℕ → Held → Kinds) → ((rest : Text) (left : ℕ) (held : Held) → HasOneMeaning (more rest left held))
    → HasOneMeaning (bundle_step_fault c again x flags skip h more)
bundle_step_meaning c again None flags skip h more all = none
bundle_step_meaning c again (Some x) flags zero h more all =
    let rest = drop (length (encode_utf8 x)) flags in
    short_meaning c again (arg_by_short c x) rest h (more rest 0) (all rest 0)
bundle_step_meaning c again (Some x) flags (suc skip) h more all = all (drop (length (encode_utf8 x)) flags) skip h

flags_meaning : (c : List Rule) (again : Bool) (k : ℕ) (flags : Text) (skip : ℕ) (h : Held)
    → HasOneMeaning (flags_fault c again k flags skip h)
unfolding flags_fault
flags_meaning c again zero flags skip h = none
flags_meaning c again (suc k) flags skip h =
    bundle_step_meaning c again (slice_get (chars flags) 0) flags skip h (flags_fault c again k) (flags_meaning c again k)

flag_word_meaning : (c : List Rule) (again : Bool) (l : Option (Text × Option Text)) (word : Text) (h : Held)
    → HasOneMeaning (flag_word_fault c again l word h)
flag_word_meaning c again (Some p) word h = long_meaning c again (arg_by_long c p.0) p.1 h
flag_word_meaning c again None word h =
    optional _ (λ flags. flags_meaning c again (length flags) flags h.skip (record h { skip = 0 })) (short_of word)

-- where there is no subcommand `help`
no_topic : (b d : Bool) → d ≡ true → HasOneMeaning (if b && not d then kind.DisplayHelp ∷ kind.InvalidSubcommand ∷ [] else [])
no_topic true d e = rw e none
no_topic false d e = none

other_meaning : (s : Shape) (met : Option Text) (word : Text) (h : Held) → (s.disable_help_subcommand ≡ true) ⊎ (met ≡ None)
    → HasOneMeaning (other_fault s met word h)
other_meaning s (Some name) word h (inl off) = no_topic (bytes_eq name (codes "help")) s.disable_help_subcommand off
other_meaning s (Some name) word h (inr bad) = cc
other_meaning s None word h either =
    choice (bytes_eq word (45 ∷ 45 ∷ [])) _ _ none (flag_word_meaning s.rules s.args_override_self (long_of word) word h)

-- no word is the subcommand `help`
abbrev NeverHelp : Shape → Names → Type 0
NeverHelp s names = (waiting : Waiting) (word : Text)
    → (s.disable_help_subcommand ≡ true) ⊎ (subcommand_met names waiting word ≡ None)

stray_meaning : (s : Shape) → HasOneMeaning (stray_fault s)
stray_meaning s = choice s.is_leaf _ _ (one kind.UnknownArgument) two
  where
    two : HasOneMeaning (kind.UnknownArgument ∷ kind.InvalidSubcommand ∷ [])
    two k (inl is) found = ap asked_by_kind (sym is)
    two k (inr (inl is)) found = ap asked_by_kind (sym is)
    two k (inr (inr nowhere)) found = absurd nowhere

positional_meaning : (c : List Rule) (again : Bool) (a : Rule) (h : Held) → HasOneMeaning (positional_fault c again a h)
positional_meaning c again a h = choice (is_pending a h.pending && takes_several a) _ _ none (settle_meaning c again h)

step_meaning : (s : Shape) (position : ℕ) (h : Held) (step : Step) → HasOneMeaning (step_fault s position h step)
step_meaning s position h value = go (arg_by_index s.rules position)
  where
    go : (o : Option Rule)
        → HasOneMeaning (option_map_or (λ a. positional_fault s.rules s.args_override_self a h) o (stray_fault s))
    go None = stray_meaning s
    go (Some a) = positional_meaning s.rules s.args_override_self a h
step_meaning s position h (next w) = none
step_meaning s position h (trailing n) = none
step_meaning s position h (subcommand name) = none

turn_meaning : (s : Shape) (names : Names) (w : Walk) (word : Text) → NeverHelp s names
    → HasOneMeaning (turn_fault s names w word)
turn_meaning s names w word never =
    let met = word_met s.rules names w.is_trailing w.waiting w.position word w.held in
    choice (is_some w.stopped) _ _ none
    (first _ _ (choice w.is_trailing _ _ none
    (other_meaning s (subcommand_met names w.waiting word) word w.held (never w.waiting word)))
    (step_meaning s w.position met.0 met.1))

walk_meaning : (s : Shape) (names : Names) (w : Walk) (words : List Text) → NeverHelp s names
    → HasOneMeaning (walk_fault s names w words)
unfolding walk_fault
walk_meaning s names w [] never = none
walk_meaning s names w (word ∷ rest) never =
    first _ _ (turn_meaning s names w word never) (walk_meaning s names (walked s.rules names w word) rest never)

-- ---- after the walk

default_meaning : (rows : List Row) (a : Rule) → HasOneMeaning (default_fault rows a)
default_meaning rows a =
    choice (has_row a.id rows || is_empty a.defaults) _ _ none
    (first _ _ (request_meaning (action_of a)) (passing_meaning a a.defaults))

defaults_meaning : (rows : List Row) (rules : List Rule) → HasOneMeaning (defaults_fault rows rules)
unfolding defaults_fault
defaults_meaning rows [] = none
defaults_meaning rows (a ∷ rest) = first _ _ (default_meaning rows a) (defaults_meaning (with_default rows a) rest)

check_meaning : (s : Shape) (rows : List Row) (has_subcommand : Bool) → HasOneMeaning (check_fault s rows has_subcommand)
check_meaning s rows has_subcommand =
    choice (not has_subcommand
    && (s.arg_required_else_help && not (list_any (λ r. explicit_source r.source) rows))) _ _
    (one kind.DisplayHelpOnMissingArgumentOrSubcommand)
    (choice (not has_subcommand && s.subcommand_required) _ _ (one kind.MissingSubcommand)
    (choice (not (s.subcommand_negates_reqs && has_subcommand)
    && list_any (λ a. a.required && not (is_given a.id rows)) s.rules) _ _ (one kind.MissingRequiredArgument) none))

level_meaning : (s : Shape) (names : Names) (h : Held) (words : List Text) (has_subcommand : Bool) (below : Kinds)
    → NeverHelp s names → HasOneMeaning below → HasOneMeaning (level_fault s names h words has_subcommand below)
level_meaning s names h words has_subcommand below never under =
    let end = (walk s.rules names h words).held in
    first _ _ (walk_meaning s names (walk_from h) words never)
    (first _ _ under (first _ _ (settle_meaning s.rules s.args_override_self end)
    (first _ _ (defaults_meaning (settled s.rules end).rows s.rules)
    (check_meaning s (finished s.rules end) has_subcommand))))

no_names : (s : Shape) → NeverHelp s []
no_names s idle word = inr refl
no_names s (option id) word = inr refl
no_names s positional word = inr refl

entered_meaning : (a : App) (stop : Option (Text × List Text)) → HasOneMeaning (entered_fault a stop)
entered_meaning a stop =
    optional _ (λ p. optional _ (λ s. level_meaning s [] nothing_held p.1 false [] (no_names s) none)
    (find (λ s. answers_to p.0 (label_of s)) a.subs)) stop

pub fault_meaning : (words : List Text) → HasOneMeaning (fault_of program words)
fault_meaning words =
    let stop = (walk (built program).top.rules (names_of (built program)) nothing_held words).stopped in
    level_meaning (built program).top (names_of (built program)) nothing_held words (is_some (entered (built program) stop))
    (entered_fault (built program) stop) (λ waiting word. inl refl) (entered_meaning (built program) stop)
