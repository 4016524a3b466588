-- Without options, what the arguments ask for is what the kinds of clap's errors say of them.
use Rattle.std.proofs.Common.{◌≡◌, ◌⊎◌, ◌++◌, ◌∙◌, Bool, true, false, codes, List, [], ◌∷◌, append_assoc, append-nil, refl, subst}
use Rattle.std.proofs.{Common.{sym, ap, ap₂, fold, inl, inr}, lemmas.Slice.Eq.bytes_eq-Decides}
use Rattle.std.specs.{Prelude.None, Prelude.Some, Prelude.if◌then◌else◌, Str.bytes_eq}
use Rattle.clap.specs.{Faults.fault_of, Faults.level_fault, Faults.walk_fault, Kinds.Kinds, Simple.Shape, Simple.subcommand_of}
use Rattle.clap.specs.Walk.{Names, Rule, Text, Walk, idle, nothing_held, subcommand_met, walk_from, walked}
use Rattle.clap.specs.declared.error.kind.ErrorKind.TheVariants.{DisplayHelp, InvalidSubcommand, MissingRequiredArgument}
use Rattle.clap.specs.declared.error.kind.ErrorKind.TheVariants.{MissingSubcommand, UnknownArgument}
use Rattle.clap.proofs.OnLiterals.{clap_on_literals}
use Rattle.stinger_server.specs.Program.{Asked, Drive, Help, RunView, Serve, Usage, Version, asked_with, asked_by, asked_of_command}
use Rattle.stinger_server.specs.Program.{asked_of_subcommand, asks_for_help, begins_with_option, default_run, help_words}
use Rattle.stinger_server.specs.Program.{is_drive_option, is_option, is_version, plainly_asked, plainly_asked_of_command}
use Rattle.stinger_server.specs.Program.{plainly_asked_of_drive, plainly_asked_of_run, program, without_help}
use Rattle.stinger_server.proofs.Levels.{HasKinds, one_mistake, two_mistakes, flagged, as_asked, or_else_nil, top, names, run}
use Rattle.stinger_server.proofs.Levels.{drive, flag_rules, level_kinds, top_level, top_word, run_level, run_word, drive_level}
use Rattle.stinger_server.proofs.Levels.{drive_word}

-- behind a subcommand, the arguments are not this level's
stopped_fault : (s : Shape) (known : Names) (w : Walk) (p : Text × List Text) (rest : List Text)
    → walk_fault s known (record w { stopped = Some p }) rest ≡ []
unfolding walk_fault walked
stopped_fault s known w p [] = refl
stopped_fault s known w p (x ∷ rest) = stopped_fault s known w (p.0, p.1 ++ x ∷ []) rest

stopped_walk : (rules : List Rule) (known : Names) (w : Walk) (name : Text) (before rest : List Text)
    → fold (walked rules known) (record w { stopped = Some (name, before) }) rest
    ≡ record w { stopped = Some (name, before ++ rest) }
unfolding walked
stopped_walk rules known w name before [] =
    ap (λ arguments. record w { stopped = Some (name, arguments) }) (sym (append-nil before))
stopped_walk rules known w name before (x ∷ rest) =
    stopped_walk rules known w name (before ++ x ∷ []) rest
    ∙ ap (λ arguments. record w { stopped = Some (name, arguments) }) (append_assoc before (x ∷ []) rest)

-- so behind a subcommand of the program
past_walk : (name : Text) (rest : List Text)
    → fold (walked flag_rules names) (record (walk_from nothing_held) { stopped = Some (name, []) }) rest
    ≡ record (walk_from nothing_held) { stopped = Some (name, rest) }
past_walk name rest = stopped_walk flag_rules names (walk_from nothing_held) name [] rest

past_fault : (name : Text) (rest : List Text)
    → walk_fault top names (record (walk_from nothing_held) { stopped = Some (name, []) }) rest ≡ []
past_fault name rest = stopped_fault top names (walk_from nothing_held) (name, []) rest

-- the arguments behind `run` are those of its own level
run_fault : (rest : List Text) → fault_of program (codes "run" ∷ rest) ≡ level_fault run [] nothing_held rest false []
unfolding clap_on_literals
run_fault rest = rw (past_walk (codes "run") rest, past_fault (codes "run") rest) (or_else_nil _)

-- those behind `drive` are of that one's
drive_fault : (rest : List Text) → fault_of program (codes "drive" ∷ rest) ≡ level_fault drive [] nothing_held rest false []
unfolding clap_on_literals
drive_fault rest = rw (past_walk (codes "drive") rest, past_fault (codes "drive") rest) (or_else_nil _)

plain_after_run : (argument : Text) → bytes_eq argument (codes "--") ≡ false
    → plainly_asked_of_run (argument ∷ []) ≡ flagged (asks_for_help argument)
plain_after_run argument e = rw e refl

-- no option comes first
abbrev BeginsPlainly : (Text → Bool) → List Text → Type 0
BeginsPlainly is_one [] = Unit {0}
BeginsPlainly is_one (argument ∷ rest) = is_one argument ≡ false

run_kinds : (rest : List Text) → BeginsPlainly is_option rest
    → HasKinds (plainly_asked_of_run rest) (level_fault run [] nothing_held rest false [])
unfolding clap_on_literals
run_kinds [] plain = refl
run_kinds (argument ∷ []) plain = go (bytes_eq argument (codes "--")) refl
  where
    go : (b : Bool) → bytes_eq argument (codes "--") ≡ b
        → HasKinds (plainly_asked_of_run (argument ∷ [])) (level_fault run [] nothing_held (argument ∷ []) false [])
    go true e = rw ((bytes_eq-Decides argument (codes "--")).0 e) refl
    go false e = as_asked _ _ _ (plain_after_run argument e)
        (level_kinds run [] argument [] false [] run_level (run_word argument plain) refl e)
run_kinds (argument ∷ next ∷ rest) plain = go (bytes_eq argument (codes "--")) refl
  where
    go : (b : Bool) → bytes_eq argument (codes "--") ≡ b
        → HasKinds (plainly_asked_of_run (argument ∷ next ∷ rest))
        (level_fault run [] nothing_held (argument ∷ next ∷ rest) false [])
    go true e = rw ((bytes_eq-Decides argument (codes "--")).0 e) (one_mistake UnknownArgument refl)
    go false e = level_kinds run [] argument (next ∷ rest) false [] run_level (run_word argument plain) refl e

drive_kinds : (rest : List Text) → BeginsPlainly is_drive_option rest
    → HasKinds (plainly_asked_of_drive rest) (level_fault drive [] nothing_held rest false [])
unfolding clap_on_literals
drive_kinds [] plain = one_mistake MissingRequiredArgument refl
drive_kinds (argument ∷ rest) plain = go (bytes_eq argument (codes "--")) refl rest
  where
    go : (b : Bool) → bytes_eq argument (codes "--") ≡ b → (rest : List Text)
        → HasKinds (plainly_asked_of_drive (argument ∷ rest)) (level_fault drive [] nothing_held (argument ∷ rest) false [])
    go true e [] = rw ((bytes_eq-Decides argument (codes "--")).0 e) (one_mistake MissingRequiredArgument refl)
    go true e (next ∷ more) = rw ((bytes_eq-Decides argument (codes "--")).0 e) (one_mistake UnknownArgument refl)
    go false e rest = level_kinds drive [] argument rest false [] drive_level (drive_word argument plain) refl e

-- behind `--` every argument is a stray one
dashes_kinds : (rest : List Text) → HasKinds Usage (fault_of program (codes "--" ∷ rest))
unfolding clap_on_literals
dashes_kinds [] = one_mistake MissingSubcommand refl
dashes_kinds (next ∷ rest) = two_mistakes UnknownArgument InvalidSubcommand refl

plain_asked : (argument : Text) (rest : List Text) → bytes_eq (codes "run") argument ≡ false
    → bytes_eq (codes "drive") argument ≡ false → bytes_eq (codes "help") argument ≡ false
    → plainly_asked_of_command (argument ∷ rest) ≡ flagged (asks_for_help argument)
plain_asked argument rest e d f = rw (e, d, f) refl

plain_fault : (argument : Text) (rest : List Text) → bytes_eq (codes "help") argument ≡ false
    → without_help (argument ∷ rest) ≡ argument ∷ rest
plain_fault argument rest f = rw f refl

no_subcommand : (argument : Text) → bytes_eq (codes "run") argument ≡ false → bytes_eq (codes "drive") argument ≡ false
    → subcommand_met names idle argument ≡ None
no_subcommand argument e d = rw (e, d) refl

-- behind `run` and behind `drive`
plain_run : (rest : List Text) → begins_with_option (codes "run" ∷ rest) ≡ false → BeginsPlainly is_option rest
plain_run [] e = tt
plain_run (next ∷ rest) e = go (is_option next) refl
  where
    go : (b : Bool) → is_option next ≡ b → is_option next ≡ false
    go true is =
        let bad : true ≡ false = rw is at e in
        cc
    go false is = is

plain_drive : (rest : List Text) → begins_with_option (codes "drive" ∷ rest) ≡ false → BeginsPlainly is_drive_option rest
plain_drive [] e = tt
plain_drive (next ∷ rest) e = e

-- `help` asks for help, whatever follows it
help_kinds : (rest : List Text) → fault_of program (help_words rest) ≡ DisplayHelp ∷ []
unfolding clap_on_literals
help_kinds [] = refl
help_kinds (argument ∷ rest) = go (bytes_eq (codes "run") argument) (bytes_eq (codes "drive") argument)
  where
    go : (b d : Bool) → fault_of program (if b then codes "run" ∷ codes "--help" ∷ []
        else (if d then codes "drive" ∷ codes "--help" ∷ [] else codes "--help" ∷ [])) ≡ DisplayHelp ∷ []
    go true d = refl
    go false true = refl
    go false false = refl

asked_kinds : (arguments : List Text) → begins_with_option arguments ≡ false
    → HasKinds (plainly_asked_of_command arguments) (fault_of program (without_help arguments))
unfolding clap_on_literals
asked_kinds [] plain = one_mistake MissingSubcommand refl
asked_kinds (argument ∷ rest) plain = go (bytes_eq (codes "run") argument) refl (bytes_eq (codes "drive") argument) refl
    (bytes_eq (codes "help") argument) refl (bytes_eq argument (codes "--")) refl
  where
    begins : {command : Text} → command ≡ argument → begins_with_option (command ∷ rest) ≡ false
    begins is = subst (λ a. begins_with_option (a ∷ rest) ≡ false) (sym is) plain

    ran : codes "run" ≡ argument
        → HasKinds (plainly_asked_of_command (argument ∷ rest)) (fault_of program (without_help (argument ∷ rest)))
    ran is = rw (sym is) (rw (run_fault rest) (run_kinds rest (plain_run rest (begins is))))

    driven : codes "drive" ≡ argument
        → HasKinds (plainly_asked_of_command (argument ∷ rest)) (fault_of program (without_help (argument ∷ rest)))
    driven is = rw (sym is) (rw (drive_fault rest) (drive_kinds rest (plain_drive rest (begins is))))

    go : (r : Bool) → bytes_eq (codes "run") argument ≡ r → (v : Bool) → bytes_eq (codes "drive") argument ≡ v
        → (h : Bool) → bytes_eq (codes "help") argument ≡ h → (d : Bool) → bytes_eq argument (codes "--") ≡ d
        → HasKinds (plainly_asked_of_command (argument ∷ rest)) (fault_of program (without_help (argument ∷ rest)))
    go true e v g h f d k = ran ((bytes_eq-Decides (codes "run") argument).0 e)
    go false e true g h f d k = driven ((bytes_eq-Decides (codes "drive") argument).0 g)
    go false e false g true f d k = rw (sym ((bytes_eq-Decides (codes "help") argument).0 f)) (help_kinds rest)
    go false e false g false f true k = rw ((bytes_eq-Decides argument (codes "--")).0 k) (dashes_kinds rest)
    go false e false g false f false k =
        as_asked _ _ _ (plain_asked argument rest e g f)
        (rw (ap (fault_of program) (plain_fault argument rest f))
        (level_kinds top names argument rest _ _ top_level (top_word argument) (no_subcommand argument e g) k))

-- ---- the arguments that serve

never_serves : (a b : Bool) (asks : RunView) → (if a then Help else flagged b) ≡ Serve asks → ⊥
never_serves true b asks e = cc
never_serves false true asks e = cc
never_serves false false asks e = cc

run_serves : (rest : List Text) (asks : RunView) → plainly_asked_of_run rest ≡ Serve asks
    → (rest ≡ []) ⊎ (rest ≡ codes "--" ∷ [])
run_serves [] asks e = inl refl
run_serves (argument ∷ []) asks e = go (bytes_eq argument (codes "--")) refl
  where
    go : (b : Bool) → bytes_eq argument (codes "--") ≡ b → (argument ∷ [] ≡ []) ⊎ (argument ∷ [] ≡ codes "--" ∷ [])
    go true d = inr (ap (λ w. w ∷ []) ((bytes_eq-Decides argument (codes "--")).0 d))
    go false d = absurd (never_serves false (asks_for_help argument) asks (sym (plain_after_run argument d) ∙ e))
run_serves (argument ∷ next ∷ rest) asks e = absurd (never_serves false (asks_for_help argument) asks e)

drive_serves : (rest : List Text) (asks : RunView) → plainly_asked_of_drive rest ≡ Serve asks → ⊥
drive_serves [] asks e = cc
drive_serves (argument ∷ rest) asks e = never_serves false (asks_for_help argument) asks e

command_serves : (arguments : List Text) (asks : RunView) → plainly_asked_of_command arguments ≡ Serve asks
    → (arguments ≡ codes "run" ∷ []) ⊎ (arguments ≡ codes "run" ∷ codes "--" ∷ [])
command_serves [] asks e = cc
command_serves (argument ∷ rest) asks e = go (bytes_eq (codes "run") argument) refl (bytes_eq (codes "drive") argument) refl
  where
    behind : codes "run" ≡ argument → (rest ≡ []) ⊎ (rest ≡ codes "--" ∷ [])
        → (argument ∷ rest ≡ codes "run" ∷ []) ⊎ (argument ∷ rest ≡ codes "run" ∷ codes "--" ∷ [])
    behind is (inl none) = inl (ap₂ (λ w ws. w ∷ ws) (sym is) none)
    behind is (inr dashes) = inr (ap₂ (λ w ws. w ∷ ws) (sym is) dashes)

    go : (b : Bool) → bytes_eq (codes "run") argument ≡ b → (d : Bool) → bytes_eq (codes "drive") argument ≡ d
        → (argument ∷ rest ≡ codes "run" ∷ []) ⊎ (argument ∷ rest ≡ codes "run" ∷ codes "--" ∷ [])
    go true r d f = behind ((bytes_eq-Decides (codes "run") argument).0 r) (run_serves rest asks (rw r at e))
    go false r true f = absurd (drive_serves rest asks (rw (r, f) at e))
    go false r false f = absurd (never_serves (bytes_eq (codes "help") argument) (asks_for_help argument) asks (rw (r, f) at e))

-- what the subcommand asks for, where clap finds nothing wrong
abbrev found_in : List Text → Asked
found_in arguments = asked_of_subcommand (subcommand_of program (without_help arguments))

default_found : found_in (codes "run" ∷ []) ≡ Serve default_run
unfolding clap_on_literals
default_found = refl

default_behind_dashes : found_in (codes "run" ∷ codes "--" ∷ []) ≡ Serve default_run
unfolding clap_on_literals
default_behind_dashes = refl

serves_default : (arguments : List Text) (asks : RunView) → plainly_asked_of_command arguments ≡ Serve asks
    → found_in arguments ≡ Serve asks
serves_default arguments asks e = elim (command_serves arguments asks e) [
  | inl is ↦ ap found_in is ∙ (default_found ∙ (sym (ap plainly_asked_of_command is) ∙ e))
  | inr is ↦ ap found_in is ∙ (default_behind_dashes ∙ (sym (ap plainly_asked_of_command is) ∙ e))
]

by_kinds : (a : Asked) (kinds : Kinds) (found : Asked) → HasKinds a kinds
    → ((asks : RunView) → a ≡ Serve asks → found ≡ Serve asks) → asked_by kinds found ≡ a
by_kinds (Serve asks) kinds found has serves = rw (has, serves asks refl) refl
by_kinds (Drive readers) kinds found has serves = absurd has
by_kinds Help kinds found has serves = rw has refl
by_kinds Version kinds found has serves = absurd has
by_kinds Usage kinds found has serves = rw (has.2, has.3) refl

pub reads_plainly : (arguments : List Text) → begins_with_option arguments ≡ false → asked_with arguments ≡ plainly_asked arguments
reads_plainly arguments plain = go (is_version arguments)
  where
    go : (b : Bool) → (if b then Version else asked_of_command arguments)
        ≡ (if b then Version else plainly_asked_of_command arguments)
    go true = refl
    go false = by_kinds (plainly_asked_of_command arguments) (fault_of program (without_help arguments)) (found_in arguments)
        (asked_kinds arguments plain) (serves_default arguments)
