-- Which kinds of errors clap finds at one level of a command line without options.
use Rattle.std.proofs.Common.{◌≡◌, ◌==◌, ℕ, Bool, true, false, codes, List, [], ◌∷◌, refl, ap}
use Rattle.std.specs.{Prelude.{Option, None, Some, if◌then◌else◌, slice_get, unwrap_or}, Str.{bytes_eq, chars}}
use Rattle.clap.specs.Faults.{bundle_fault, flags_fault, level_fault, long_fault, step_fault, stray_fault, turn_fault, walk_fault}
use Rattle.clap.specs.{Kinds.Kinds, Kinds.or_else, Lexer.long_of, Lexer.short_of, Simple.Shape, Simple.built, Simple.names_of}
use Rattle.clap.specs.Walk.{Names, Rule, Text, arg_by_index, arg_by_long, arg_by_short, bundle_met, idle, nothing_held}
use Rattle.clap.specs.{Walk.short_word, Walk.subcommand_met, Walk.walk_from, declared.error.kind.ErrorKind.ErrorKind}
use Rattle.clap.specs.declared.error.kind.ErrorKind.TheVariants.{DisplayHelp, InvalidSubcommand, TooManyValues, UnknownArgument}
use Rattle.stinger_server.specs.Program.{Asked, Drive, Help, Serve, Usage, Version, asks_for_help, begins_with_h, program}
use Rattle.stinger_server.specs.Program.{is_drive_option, is_help_flag, is_option, is_wish_for_help}

-- the kinds of errors that come of what the command is asked for, where it has no options: a drive has one
abbrev pub HasKinds : Asked → Kinds → Type 0
HasKinds (Serve asks) kinds = kinds ≡ []
HasKinds (Drive readers) kinds = ⊥
HasKinds Help kinds = kinds ≡ DisplayHelp ∷ []
HasKinds Version kinds = ⊥
HasKinds Usage kinds = (k : ErrorKind) × (ks : Kinds) × (kinds ≡ k ∷ ks) × (is_wish_for_help k ≡ false)

pub one_mistake : (k : ErrorKind) → is_wish_for_help k ≡ false → HasKinds Usage (k ∷ [])
one_mistake k is = (k, [], refl, is)

pub two_mistakes : (k l : ErrorKind) → is_wish_for_help k ≡ false → HasKinds Usage (k ∷ l ∷ [])
two_mistakes k l is = (k, l ∷ [], refl, is)

abbrev pub flagged : Bool → Asked
flagged b = if b then Help else Usage

-- the first step that fails gives the kinds
first_kinds : (b : Bool) (x y : Kinds) → HasKinds (flagged b) x → HasKinds (flagged b) (or_else x y)
first_kinds true x y h = ap (λ kinds. or_else kinds y) h
first_kinds false x y h = (h.0, h.1, ap (λ kinds. or_else kinds y) h.2, h.3)

pub as_asked : (a b : Asked) (kinds : Kinds) → a ≡ b → HasKinds b kinds → HasKinds a kinds
as_asked a b kinds e h = rw e h

pub or_else_nil : (x : Kinds) → or_else x [] ≡ x
or_else_nil [] = refl
or_else_nil (k ∷ ks) = refl

abbrev pub top : Shape
top = (built program).top

abbrev pub names : Names
names = names_of (built program)

-- the level of `run`
abbrev pub run : Shape
run = unwrap_or (slice_get (built program).subs 0) top

-- the level of `drive`
abbrev pub drive : Shape
drive = unwrap_or (slice_get (built program).subs 1) top

-- the rule for help alone
abbrev pub flag_rules : List Rule
flag_rules = top.rules

-- a level that has no short option but the flag for help, and takes no words
abbrev IsPlainLevel : Shape → Type 0
IsPlainLevel s = ((c : ℕ) → arg_by_short s.rules c ≡ arg_by_short flag_rules c) × (arg_by_index s.rules 1 ≡ None)

-- an option of the level is none but the flag for help
abbrev IsPlainWord : Shape → Text → Type 0
IsPlainWord s argument = (name : Text) (value : Option Text) → long_of argument ≡ Some (name, value)
    → arg_by_long s.rules name ≡ arg_by_long flag_rules name

stray_kinds : (s : Shape) → HasKinds Usage (stray_fault s)
stray_kinds s = go s.is_leaf
  where
    go : (b : Bool) → HasKinds Usage (if b then UnknownArgument ∷ [] else UnknownArgument ∷ InvalidSubcommand ∷ [])
    go true = one_mistake UnknownArgument refl
    go false = two_mistakes UnknownArgument InvalidSubcommand refl

-- `--name` and `--name=value`
long_kinds : (rules : List Rule) (again : Bool) (name : Text) (value flags : Option Text)
    → arg_by_long rules name ≡ arg_by_long flag_rules name
    → HasKinds (flagged (is_help_flag (Some (name, value)) flags))
    (long_fault rules again (arg_by_long rules name) value nothing_held)
long_kinds rules again name value flags is = go (bytes_eq (codes "help") name) refl value
  where
    go : (b : Bool) → bytes_eq (codes "help") name ≡ b → (value : Option Text)
        → HasKinds (flagged (is_help_flag (Some (name, value)) flags))
        (long_fault rules again (arg_by_long rules name) value nothing_held)
    go true e None = rw (is, e) refl
    go true e (Some v) = rw (is, e) (one_mistake TooManyValues refl)
    go false e None = rw (is, e) (one_mistake UnknownArgument refl)
    go false e (Some v) = rw (is, e) (one_mistake UnknownArgument refl)

no_letter : slice_get (chars []) 0 ≡ None
unfolding chars
no_letter = refl

-- what follows one hyphen
short_kinds : (s : Shape) (argument flags : Text) → IsPlainLevel s
    → HasKinds (flagged (begins_with_h flags)) (or_else (bundle_fault s.rules s.args_override_self flags nothing_held)
    (step_fault s 1 (short_word s.rules idle argument flags nothing_held).0
    (short_word s.rules idle argument flags nothing_held).1))
unfolding flags_fault bundle_met
short_kinds s argument [] level = rw (no_letter, level.1) (stray_kinds s)
short_kinds s argument (x ∷ xs) level = go (slice_get (chars (x ∷ xs)) 0) refl
  where
    go : (first : Option ℕ) → slice_get (chars (x ∷ xs)) 0 ≡ first
        → HasKinds (flagged (begins_with_h (x ∷ xs)))
        (or_else (bundle_fault s.rules s.args_override_self (x ∷ xs) nothing_held)
        (step_fault s 1 (short_word s.rules idle argument (x ∷ xs) nothing_held).0
        (short_word s.rules idle argument (x ∷ xs) nothing_held).1))
    go None e = rw (e, level.1) (stray_kinds s)
    go (Some c) e = letter (104 == c) refl
      where
        letter : (b : Bool) → (104 == c) ≡ b
            → HasKinds (flagged (begins_with_h (x ∷ xs)))
            (or_else (bundle_fault s.rules s.args_override_self (x ∷ xs) nothing_held)
            (step_fault s 1 (short_word s.rules idle argument (x ∷ xs) nothing_held).0
            (short_word s.rules idle argument (x ∷ xs) nothing_held).1))
        letter true h = rw (e, level.0 c, h) refl
        letter false h = rw (e, level.0 c, h) (one_mistake UnknownArgument refl)

-- a first argument that names no subcommand and is not `--`
turn_kinds : (s : Shape) (known : Names) (argument : Text) → IsPlainLevel s → IsPlainWord s argument
    → subcommand_met known idle argument ≡ None → bytes_eq argument (codes "--") ≡ false
    → HasKinds (flagged (asks_for_help argument)) (turn_fault s known (walk_from nothing_held) argument)
turn_kinds s known argument level word met dashes = go (long_of argument) refl (short_of argument) refl
  where
    go : (l : Option (Text × Option Text)) → long_of argument ≡ l → (f : Option Text) → short_of argument ≡ f
        → HasKinds (flagged (asks_for_help argument)) (turn_fault s known (walk_from nothing_held) argument)
    go (Some (name, value)) l f is = rw (met, dashes, l)
        (first_kinds (is_help_flag (Some (name, value)) (short_of argument)) _ _
        (long_kinds s.rules s.args_override_self name value (short_of argument) (word name value l)))
    go None l (Some flags) f = rw (met, dashes, l, f) (short_kinds s argument flags level)
    go None l None f = rw (met, dashes, l, f, level.1) (stray_kinds s)

pub level_kinds : (s : Shape) (known : Names) (argument : Text) (rest : List Text) (has_subcommand : Bool) (below : Kinds)
    → IsPlainLevel s → IsPlainWord s argument
    → subcommand_met known idle argument ≡ None → bytes_eq argument (codes "--") ≡ false
    → HasKinds (flagged (asks_for_help argument))
    (level_fault s known nothing_held (argument ∷ rest) has_subcommand below)
unfolding walk_fault
level_kinds s known argument rest has_subcommand below level word met dashes =
    first_kinds (asks_for_help argument) _ _ (first_kinds (asks_for_help argument) _ _
    (turn_kinds s known argument level word met dashes))

pub top_level : IsPlainLevel top
top_level = (λ c. refl, refl)

pub top_word : (argument : Text) → IsPlainWord top argument
top_word argument name value l = refl

pub run_level : IsPlainLevel run
run_level = (λ c. refl, refl)

pub run_word : (argument : Text) → is_option argument ≡ false → IsPlainWord run argument
run_word argument e name value l = go (bytes_eq (codes "workers") name) refl (bytes_eq (codes "blocks") name) refl
    (bytes_eq (codes "seats") name) refl (bytes_eq (codes "quiet") name) refl
  where
    go : (w : Bool) → bytes_eq (codes "workers") name ≡ w → (b : Bool) → bytes_eq (codes "blocks") name ≡ b → (s : Bool)
        → bytes_eq (codes "seats") name ≡ s → (q : Bool) → bytes_eq (codes "quiet") name ≡ q
        → arg_by_long run.rules name ≡ arg_by_long flag_rules name
    go true is b f s g q h =
        let bad : true ≡ false = rw (l, is) at e in
        cc
    go false is true f s g q h =
        let bad : true ≡ false = rw (l, is, f) at e in
        cc
    go false is false f true g q h =
        let bad : true ≡ false = rw (l, is, f, g) at e in
        cc
    go false is false f false g true h =
        let bad : true ≡ false = rw (l, is, f, g, h) at e in
        cc
    go false is false f false g false h = rw (is, f, g, h) refl

pub drive_level : IsPlainLevel drive
drive_level = (λ c. refl, refl)

pub drive_word : (argument : Text) → is_drive_option argument ≡ false → IsPlainWord drive argument
drive_word argument e name value l = go (bytes_eq (codes "readers") name) refl
  where
    go : (r : Bool) → bytes_eq (codes "readers") name ≡ r → arg_by_long drive.rules name ≡ arg_by_long flag_rules name
    go true is =
        let bad : true ≡ false = rw (l, is) at e in
        cc
    go false is = rw is refl
