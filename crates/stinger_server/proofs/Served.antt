-- A script is served with sizes within their limits alone, and a drive has one to four readers; and what clap answers decides
-- what is asked for.
use Rattle.std.proofs.Common.{◌≡◌, ◌≢◌, ◌⊎◌, ◌∙◌, ℕ, Bool, true, false, codes, List, [], ◌∷◌, ap, ap₂, inl, inr, refl, subst, sym}
use Rattle.std.specs.Prelude.{Err, IfOk, Ok, OnOk, Option, None, Result, Some, if◌then◌else◌, option_map}
use Rattle.std.specs.{Option.option_map_or, Str.bytes_eq}
use Rattle.clap.specs.{Faults.fault_of, Kinds.IsAmong, Kinds.Kinds, Simple.subcommand_of, Walk.Row, Walk.Text, Walk.one_of}
use Rattle.clap.specs.declared.error.kind.ErrorKind.{ErrorKind, TheVariants.OutOfMemory}
use Rattle.stinger_server.proofs.{OneFault.fault_meaning, Options.number_limits, Options.sizes_limits}
use Rattle.stinger_server.specs.Program.{Asked, Drive, Help, RunView, Serve, Usage, Version, asked_with, asked_by, asked_by_kind}
use Rattle.stinger_server.specs.Program.{asked_for, asked_of_command, asked_of_subcommand, is_quiet, is_version, is_wish_for_help}
use Rattle.stinger_server.specs.{Program.{program, readers_of, sizes_of, without_help}, declared.arguments.Order.Order}
use Rattle.stream_store.specs.Configs.{AreSizesWithin, ConfigView}
use Rattle.store_drive.specs.Reports.{IsReaderCount}

abbrev Met : Type 0
Met = Option (Text × List Row)

-- what is asked for has its numbers within their limits
abbrev HasLimits : Asked → Type 0
HasLimits (Serve run) = AreSizesWithin run.sizes.workers run.sizes.blocks run.sizes.seats
HasLimits (Drive readers) = IsReaderCount readers
HasLimits Help = Unit {0}
HasLimits Version = Unit {0}
HasLimits Usage = Unit {0}

run_limits : (options : List Row) (found : Option ConfigView) → sizes_of options ≡ found
    → HasLimits (option_map_or Serve (option_map (λ sizes. record { sizes = sizes; quiet = is_quiet options }) found) Usage)
run_limits options None is = tt
run_limits options (Some sizes) is = sizes_limits options sizes is

drive_limits : (options : List Row) (found : Option ℕ) → readers_of options ≡ found
    → HasLimits (option_map_or Drive found Usage)
drive_limits options None is = tt
drive_limits options (Some readers) is =
    let limits = number_limits 1 4 (one_of (codes "readers") options) readers is in
    record { some = limits.0; few = limits.1 }

found_limits : (met : Met) → HasLimits (asked_of_subcommand met)
found_limits None = tt
found_limits (Some (name, options)) = go (bytes_eq name (codes "drive"))
  where
    go : (b : Bool) → HasLimits (if b then option_map_or Drive (readers_of options) Usage
        else option_map_or Serve (option_map (λ sizes. record { sizes = sizes; quiet = is_quiet options })
        (sizes_of options)) Usage)
    go true = drive_limits options (readers_of options) refl
    go false = run_limits options (sizes_of options) refl

kind_limits : (b : Bool) → HasLimits (if b then Help else Usage)
kind_limits true = tt
kind_limits false = tt

by_limits : (kinds : Kinds) (found : Asked) → HasLimits found → HasLimits (asked_by kinds found)
by_limits [] found limits = limits
by_limits (k ∷ ks) found limits = kind_limits (is_wish_for_help k)

asked_limits : (arguments : List Text) → HasLimits (asked_with arguments)
asked_limits arguments = go (is_version arguments)
  where
    go : (b : Bool) → HasLimits (if b then Version else asked_of_command arguments)
    go true = tt
    go false = by_limits (fault_of program (without_help arguments))
        (asked_of_subcommand (subcommand_of program (without_help arguments)))
        (found_limits (subcommand_of program (without_help arguments)))

pub serves_within : (arguments : List Text) (run : RunView) → asked_with arguments ≡ Serve run
    → AreSizesWithin run.sizes.workers run.sizes.blocks run.sizes.seats
serves_within arguments run e = subst HasLimits e (asked_limits arguments)

pub drives_within : (arguments : List Text) (readers : ℕ) → asked_with arguments ≡ Drive readers → IsReaderCount readers
drives_within arguments readers e = subst HasLimits e (asked_limits arguments)

-- clap found nothing wrong
pub asked_well : (arguments : List Text) (kinds : Kinds) (met : Met) (found : Asked)
    → kinds ≡ fault_of program (without_help arguments) → kinds ≡ []
    → met ≡ subcommand_of program (without_help arguments) → found ≡ asked_of_subcommand met
    → found ≡ asked_of_command arguments
asked_well arguments kinds met found is none command same =
    ap₂ asked_by (sym none ∙ is) (same ∙ ap asked_of_subcommand command)

-- clap found something wrong
pub asked_ill : (arguments : List Text) (kinds : Kinds) (k : ErrorKind) → kinds ≡ fault_of program (without_help arguments)
    → (k ≡ OutOfMemory) ⊎ IsAmong k kinds → k ≢ OutOfMemory → asked_by_kind k ≡ asked_of_command arguments
asked_ill arguments kinds k is (inl memory) known = absurd (known memory)
asked_ill arguments kinds k is (inr among) known =
    sym (fault_meaning (without_help arguments) k (subst (IsAmong k) is among)
    (asked_of_subcommand (subcommand_of program (without_help arguments))))

pub explained : {E : Type 0} (order : Result Order E) (arguments : List Text) (kinds : Kinds) (k : ErrorKind)
    → kinds ≡ fault_of program (without_help arguments) → (k ≡ OutOfMemory) ⊎ IsAmong k kinds → OnOk order (k ≢ OutOfMemory)
    → IfOk order (λ given. asked_for given ≡ asked_by_kind k) → IfOk order (λ given. asked_for given ≡ asked_of_command arguments)
explained (Ok given) arguments kinds k is fails known same = same ∙ asked_ill arguments kinds k is fails known
explained (Err e) arguments kinds k is fails known same = tt
