-- The program over its arguments: what they ask for, and what is done and told.
use Rattle.std.specs.Prelude.{◌≡◌, ◌⊎◌, ◌==◌, ◌++◌, ◌&&◌, ◌||◌, ℕ, Bool, true, false, codes, decimal, List, [], ◌∷◌, slice_get}
use Rattle.std.specs.Prelude.{if◌then◌else◌, map, IfOk, IfSome, Option, None, Some, Result, Ok, Err, option_and_then, option_map}
use Rattle.std.specs.{Prelude.not, Str.{bytes_eq, chars, Parse.{digits_value, without_leading_plus}}, Option.option_map_or}
use Rattle.clap.specs.{Faults.fault_of, Kinds.Kinds, Lexer.{long_of, short_of}, Simple.{App, new_app, new_rule, new_shape}}
use Rattle.clap.specs.{Simple.{subcommand_of, with_rule, with_subcommand}, Walk.{Row, Rule, first_of, one_of}}
use Rattle.clap.specs.{ValueTests.is_unsigned_in, declared.builder.value_parser.ValueParser.TheVariants.Unsigned}
use Rattle.clap.specs.declared.{builder.action.ArgAction.TheVariants.SetTrue, error.kind.ErrorKind.ErrorKind}
use Rattle.clap.specs.declared.error.kind.ErrorKind.TheVariants.{DisplayHelp}
use Rattle.feed_csv.specs.Records.{records_of}
use Rattle.stream_store.specs.{Configs.{ConfigView, AreSizesWithin, standard_config}, declared.config.BadConfig.BadConfig}
use Rattle.stinger_server.specs.declared.arguments.{RunOptions.RunOptions, Order.Order}
use Rattle.stinger_server.specs.declared.arguments.Order.TheVariants as order
use Rattle.script_server.specs.declared.script.{ServeFault.{ServeFault, TheVariants.{Read, Start, Write}}, Summary.Summary}
use Rattle.script_server.specs.{Executions.input, Segments.IsMachineText, Texts.IsText}
use Rattle.script_server.specs.Writes.{AppendsPart, AppendsSome}
use Rattle.script_commands.specs.States.{set_up}
use Rattle.store_drive.specs.{Reports.{IsReaderCount, IsReport, drive_word_text}, declared.reports.DriveFault.DriveFault}
use Rattle.store_drive.specs.declared.reports.DriveReport.{DriveReport}

-- a run: its sizes, and whether no progress is to be shown
pub record RunView : Type 0 where
  pub sizes : ConfigView
  pub quiet : Bool

-- what arguments may ask for: a script served, a drive of so many readers, help, the version, or nothing that there is
pub data Asked : Type 0 where
  Serve : RunView → Asked
  Drive : ℕ → Asked
  Help : Asked
  Version : Asked
  Usage : Asked

-- a run of the default sizes, with its progress
abbrev pub default_run : RunView
default_run = record { sizes = standard_config 4 16384 2; quiet = false }

-- a script is to be served
abbrev pub is_served : Asked → Bool
is_served (Serve run) = true
is_served _ = false

-- a script is to be served, and its progress may be shown
abbrev pub shows_progress : Asked → Bool
shows_progress (Serve run) = not run.quiet
shows_progress _ = false

-- ---- the command line

-- an option whose value is a whole number from `least` to `most`; one that has such a value where it is left out; and one
-- that may not be left out
abbrev pub number_rule : List ℕ → ℕ → ℕ → Rule
number_rule name least most = record (new_rule name) { long = Some name; value_names = 1; parser = Some (Unsigned least most) }

abbrev pub size_rule : List ℕ → ℕ → ℕ → List ℕ → Rule
size_rule name least most default = record (number_rule name least most) { defaults = default ∷ [] }

abbrev pub required_rule : List ℕ → ℕ → ℕ → Rule
required_rule name least most = record (number_rule name least most) { required = true }

-- an option without a value
abbrev pub flag_rule : List ℕ → Rule
flag_rule name = record (new_rule name) { long = Some name; action = Some SetTrue }

-- the subcommand `run`, with its four options
abbrev pub run_app : App
run_app = with_rule
    (with_rule
    (with_rule (with_rule (new_app (codes "run")) (size_rule (codes "workers") 1 8 (codes "4")))
    (size_rule (codes "blocks") 16 65536 (codes "16384")))
    (size_rule (codes "seats") 1 16 (codes "2")))
    (flag_rule (codes "quiet"))

-- the subcommand `drive`, with its one option
abbrev pub drive_app : App
drive_app = with_rule (new_app (codes "drive")) (required_rule (codes "readers") 1 4)

-- the command `stinger`, with its two subcommands
abbrev pub program : App
program =
    let top = record (new_shape (codes "stinger")) {
      no_binary_name = true;
      disable_help_subcommand = true;
      subcommand_required = true;
    } in
    with_subcommand (with_subcommand (record { top = top; subs = [] }) run_app.top) drive_app.top

-- `help run` stands for `run --help`, `help drive` for `drive --help`, and `help` for `--help`, whatever else follows it
abbrev pub help_words : List (List ℕ) → List (List ℕ)
help_words [] = codes "--help" ∷ []
help_words (argument ∷ rest) =
    if bytes_eq (codes "run") argument then codes "run" ∷ codes "--help" ∷ []
    else (if bytes_eq (codes "drive") argument then codes "drive" ∷ codes "--help" ∷ [] else codes "--help" ∷ [])

abbrev pub without_help : List (List ℕ) → List (List ℕ)
without_help [] = []
without_help (argument ∷ rest) = if bytes_eq (codes "help") argument then help_words rest else argument ∷ rest

-- ---- what arguments ask for

-- the number from `least` to `most` that an option's text stands for
abbrev pub number_within : ℕ → ℕ → Option (List ℕ) → Option ℕ
number_within least most text = option_and_then
    (λ t. if is_unsigned_in least most t then Some (digits_value 10 (without_leading_plus t)) else None) text

-- the sizes that the options of `run` stand for
abbrev pub sizes_of : List Row → Option ConfigView
sizes_of options =
    option_and_then (λ workers. option_and_then (λ blocks. option_and_then
    (λ seats. Some (standard_config workers blocks seats))
    (number_within 1 16 (one_of (codes "seats") options)))
    (number_within 16 65536 (one_of (codes "blocks") options)))
    (number_within 1 8 (one_of (codes "workers") options))

-- `--quiet` was given
abbrev pub is_quiet : List Row → Bool
is_quiet options = option_map_or (λ text. bytes_eq text (codes "true")) (first_of (codes "quiet") options) false

-- the run that the options of `run` stand for
abbrev pub run_of : List Row → Option RunView
run_of options = option_map (λ sizes. record { sizes = sizes; quiet = is_quiet options }) (sizes_of options)

-- the readers that the option of `drive` stands for
abbrev pub readers_of : List Row → Option ℕ
readers_of options = number_within 1 4 (one_of (codes "readers") options)

-- what a subcommand asks for, by its name and its options
abbrev pub asked_of_subcommand : Option (List ℕ × List Row) → Asked
asked_of_subcommand None = Usage
asked_of_subcommand (Some (name, options)) =
    if bytes_eq name (codes "drive") then option_map_or Drive (readers_of options) Usage
    else option_map_or Serve (run_of options) Usage

-- an error of the command line is a wish for help, or a mistake
abbrev pub is_wish_for_help : ErrorKind → Bool
is_wish_for_help DisplayHelp = true
is_wish_for_help _ = false

abbrev pub asked_by_kind : ErrorKind → Asked
asked_by_kind kind = if is_wish_for_help kind then Help else Usage

-- a command line without an error asks for what its subcommand does
abbrev pub asked_by : Kinds → Asked → Asked
asked_by [] asked_with = asked_with
asked_by (kind ∷ more) asked_with = asked_by_kind kind

-- what the arguments ask of the command `stinger`, as `clap` reads a command line
abbrev pub asked_of_command : List (List ℕ) → Asked
asked_of_command arguments =
    asked_by (fault_of program (without_help arguments)) (asked_of_subcommand (subcommand_of program (without_help arguments)))

-- `--version` or `-V` comes first
abbrev pub is_version : List (List ℕ) → Bool
is_version [] = false
is_version (argument ∷ rest) = bytes_eq (codes "--version") argument || bytes_eq (codes "-V") argument

-- what the arguments after the program's name ask for
abbrev pub asked_with : List (List ℕ) → Asked
asked_with arguments = if is_version arguments then Version else asked_of_command arguments

-- what the options of a run, a configuration and an order of the program stand for
abbrev pub sizes_in : RunOptions → ConfigView
sizes_in options = standard_config options.workers options.blocks options.seats

abbrev pub run_in : RunOptions → RunView
run_in options = record { sizes = sizes_in options; quiet = options.quiet }

abbrev pub sizes_given : Result ConfigView BadConfig → Option ConfigView
sizes_given (Ok config) = Some config
sizes_given (Err fault) = None

abbrev pub asked_for : Order → Asked
asked_for (order.Serve options) = Serve (run_in options)
asked_for (order.Drive readers) = Drive readers
asked_for (order.Help text) = Help
asked_for order.Version = Version
asked_for (order.Usage text) = Usage

-- what an order, or a fault in its place, stands for
abbrev pub asked_if_any : Result Order BadConfig → Asked
asked_if_any (Ok order) = asked_for order
asked_if_any (Err fault) = Usage

-- ---- the same without options, in words of our own

-- the first letter after one hyphen is an h
abbrev pub begins_with_h : List ℕ → Bool
begins_with_h flags = option_map_or (λ c. 104 == c) (slice_get (chars flags) 0) false

-- `--help`, or `-h`, behind which more letters mean nothing
abbrev pub is_help_flag : Option (List ℕ × Option (List ℕ)) → Option (List ℕ) → Bool
is_help_flag (Some (name, None)) flags = bytes_eq (codes "help") name
is_help_flag None (Some flags) = begins_with_h flags
is_help_flag _ _ = false

abbrev pub asks_for_help : List ℕ → Bool
asks_for_help argument = is_help_flag (long_of argument) (short_of argument)

-- behind `run`: nothing, or `--` alone, or a flag for help
abbrev pub plainly_asked_of_run : List (List ℕ) → Asked
plainly_asked_of_run [] = Serve default_run
plainly_asked_of_run (argument ∷ []) =
    if bytes_eq argument (codes "--") then Serve default_run
    else (if asks_for_help argument then Help else Usage)
plainly_asked_of_run (argument ∷ next ∷ rest) = if asks_for_help argument then Help else Usage

-- behind `drive`, which can't do without its option: a flag for help
abbrev pub plainly_asked_of_drive : List (List ℕ) → Asked
plainly_asked_of_drive [] = Usage
plainly_asked_of_drive (argument ∷ rest) = if asks_for_help argument then Help else Usage

-- what the arguments ask of the command `stinger`, where `run` and `drive` have no options
abbrev pub plainly_asked_of_command : List (List ℕ) → Asked
plainly_asked_of_command [] = Usage
plainly_asked_of_command (argument ∷ rest) =
    if bytes_eq (codes "run") argument then plainly_asked_of_run rest
    else (if bytes_eq (codes "drive") argument then plainly_asked_of_drive rest
    else (if bytes_eq (codes "help") argument then Help else (if asks_for_help argument then Help else Usage)))

abbrev pub plainly_asked : List (List ℕ) → Asked
plainly_asked arguments = if is_version arguments then Version else plainly_asked_of_command arguments

-- the argument is `--workers`, `--blocks`, `--seats` or `--quiet`, with a value behind `=` or without
abbrev pub is_option : List ℕ → Bool
is_option argument = option_map_or
    (λ option. bytes_eq (codes "workers") option.0
    || (bytes_eq (codes "blocks") option.0
    || (bytes_eq (codes "seats") option.0 || bytes_eq (codes "quiet") option.0)))
    (long_of argument) false

-- the argument is `--readers`, with a value behind `=` or without
abbrev pub is_drive_option : List ℕ → Bool
is_drive_option argument = option_map_or (λ option. bytes_eq (codes "readers") option.0) (long_of argument) false

-- an option comes first behind `run`, or behind `drive`
abbrev pub begins_with_option : List (List ℕ) → Bool
begins_with_option (command ∷ argument ∷ rest) =
    (bytes_eq (codes "run") command && is_option argument) || (bytes_eq (codes "drive") command && is_drive_option argument)
begins_with_option arguments = false

-- all other arguments are read as if there were no options
abbrev pub ReadsPlainly : Type 0
ReadsPlainly = (arguments : List (List ℕ)) → begins_with_option arguments ≡ false → asked_with arguments ≡ plainly_asked arguments

-- a script is served with sizes within their limits alone
abbrev pub ServesWithinLimits : Type 0
ServesWithinLimits = (arguments : List (List ℕ)) → (run : RunView) → asked_with arguments ≡ Serve run
    → AreSizesWithin run.sizes.workers run.sizes.blocks run.sizes.seats

-- and a drive has one to four readers
abbrev pub DrivesWithinLimits : Type 0
DrivesWithinLimits = (arguments : List (List ℕ)) → (readers : ℕ) → asked_with arguments ≡ Drive readers → IsReaderCount readers

-- the arguments of a line, which single blanks part
abbrev pub arguments_from : List ℕ → List ℕ → List (List ℕ)
arguments_from argument [] = argument ∷ []
arguments_from argument (byte ∷ rest) =
    if byte == 32 then argument ∷ arguments_from [] rest else arguments_from (argument ++ byte ∷ []) rest

abbrev pub arguments_of : List ℕ → List (List ℕ)
arguments_of line = arguments_from [] line

-- each of these lists of arguments asks for that
abbrev pub EachAsks : Asked → List (List (List ℕ)) → Type 0
EachAsks wanted [] = Unit {0}
EachAsks wanted (arguments ∷ more) = (asked_with arguments ≡ wanted) × EachAsks wanted more

-- the arguments of each of these lines ask for a script served with so many workers, blocks and seats, with its progress
abbrev pub EachServes : ℕ → ℕ → ℕ → List (List ℕ) → Type 0
EachServes workers blocks seats lines =
    EachAsks (Serve (record { sizes = standard_config workers blocks seats; quiet = false }))
    (map arguments_of lines)

-- the same without its progress
abbrev pub EachServesQuietly : ℕ → ℕ → ℕ → List (List ℕ) → Type 0
EachServesQuietly workers blocks seats lines =
    EachAsks (Serve (record { sizes = standard_config workers blocks seats; quiet = true }))
    (map arguments_of lines)

-- the arguments of each of these lines ask for a drive of so many readers
abbrev pub EachDrives : ℕ → List (List ℕ) → Type 0
EachDrives readers lines = EachAsks (Drive readers) (map arguments_of lines)

-- the arguments of each of these lines ask for nothing that there is
abbrev pub EachIsRefused : List (List ℕ) → Type 0
EachIsRefused lines = EachAsks Usage (map arguments_of lines)

-- ---- what is done and told

-- the status of a run: 0 where it came to the end of the script without an error line
abbrev pub exit_status : Result Summary ServeFault → ℕ
exit_status (Ok summary) = if summary.errors == 0 then 0 else 1
exit_status (Err fault) = 1

-- what is said on standard error of a run that came to this: these lines where the output could not be written, where the
-- store was not opened, and where the input could not be read or had a record too many
abbrev pub fault_line : List ℕ → List ℕ → List ℕ → Result Summary ServeFault → Option (List ℕ)
fault_line unwritten unopened unread (Err Read) = Some unread
fault_line unwritten unopened unread (Err Start) = Some unopened
fault_line unwritten unopened unread (Err Write) = Some unwritten
fault_line unwritten unopened unread _ = None

-- standard error is as it was; or, where there is a line to say, it grew by a first part of that
abbrev pub IsNotedLine : {F : Type 0} → (F → Option (List ℕ)) → Option (List ℕ) → F → F → Type 0
IsNotedLine contents None old new = new ≡ old
IsNotedLine contents (Some line) old new = AppendsPart (contents old) (contents new) line

-- the bytes that were to be read were served, in a run of these sizes: the run came to this, with its status, its text, which is
-- the machine's too, and its line on standard error
pub record IsServed {F : Type 0} (sizes : ConfigView) (remaining : Option (List ℕ)) (status : ℕ) (old new : Option (List ℕ))
    (contents : F → Option (List ℕ)) (line_of : Result Summary ServeFault → Option (List ℕ)) (faults faults' : F) : Type 0 where
  pub outcome : Result Summary ServeFault
  pub ends : status ≡ exit_status outcome
  pub text : IfSome remaining (λ bytes. (done : ℕ) × AppendsSome old new
      (IsText (input (set_up sizes) (records_of bytes)) done outcome))
  pub machine : IfSome remaining (λ bytes. (done : ℕ) × AppendsSome old new
      (IsMachineText (input (set_up sizes) (records_of bytes)) done outcome))
  pub noted : IsNotedLine contents (line_of outcome) faults faults'

abbrev pub EndsWith : List ℕ → List ℕ → Type 0
EndsWith end text = (front : List ℕ) × (text ≡ front ++ end)

-- such a text was told, with the status for it; or a part of one, with status 1
abbrev pub IsToldFault : (List ℕ → Type 0) → ℕ → ℕ → Option (List ℕ) → Option (List ℕ) → Type 0
IsToldFault IsSaid told status old new =
    ((status ≡ told) × AppendsSome old new IsSaid)
    ⊎ ((status ≡ 1) × ((text : List ℕ) × IsSaid text × AppendsPart old new text))

-- what a drive tells: the counts of its report, or its fault's word
abbrev pub drive_line : Result DriveReport DriveFault → List ℕ
drive_line (Ok report) =
    codes "drive readers=" ++ (decimal report.readers
    ++ (codes " batches=" ++ (decimal report.batches
    ++ (codes " checked=" ++ (decimal report.checked
    ++ (codes " wrong=" ++ (decimal report.wrong
    ++ (codes " last=" ++ (decimal report.last ++ codes "\n")))))))))
drive_line (Err fault) = codes "drive fault " ++ (drive_word_text fault.word ++ codes "\n")

-- its status: 0 where no answer was wrong and the last batch was seen
abbrev pub drive_status : Result DriveReport DriveFault → ℕ
drive_status (Ok report) = if (report.wrong == 0) && (report.last == 64) then 0 else 1
drive_status (Err fault) = 1

-- a drive of so many readers came to this: its report tells that it checked 80 answers of each reader, and that none was wrong.
-- Its line was told with its status; or a part of that, with status 1, and the line on standard error for it
pub record IsDriven {F : Type 0} (readers status : ℕ) (old new : Option (List ℕ)) (contents : F → Option (List ℕ))
    (unwritten : List ℕ) (faults faults' : F) : Type 0 where
  pub outcome : Result DriveReport DriveFault
  pub report : IfOk outcome (IsReport readers)
  pub told : IsToldFault (λ text. text ≡ drive_line outcome) (drive_status outcome) status old new
  pub noted : (faults' ≡ faults) ⊎ ((status ≡ 1) × AppendsPart (contents faults) (contents faults') unwritten)
