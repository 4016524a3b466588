-- A run between its records, and one turn of it: from the record that the feed gives to what is written of it.
use Rattle.std.specs.Prelude.{◌≡◌, ◌≢◌, ◌≤◌, ◌⊎◌, ℕ, ◌+◌, Bool, true, false, List, [], Option, None, Some, Result, Ok, Err}
use Rattle.std.specs.{Prelude.{MatchOption, MatchResult, option_map}, Io.KnownBytes.Appends}
use Rattle.feed_csv.specs.{Commands.item_of, Records.Row, Script.{MeetsEnd, Script, StopsAt, TakesRow}}
use Rattle.feed_csv.specs.declared.{command.{Command.Command, FeedWord.FeedWord}, phase.Phase.TheVariants.Reading}
use Rattle.script_server.specs.declared.script.{Run.Run, ServeFault.{ServeFault, TheVariants.{Memory, Start, Write}}}
use Rattle.script_commands.specs.declared.server.{Server.Server, Stop.Stop, Response.{Response, TheVariants.{Lines, Refused}}}
use Rattle.script_commands.specs.declared.server.Stop.TheVariants as stopped
use Rattle.script_commands.specs.{Machine.{MovesMachine, ShowsMachine}, Servers.{IsServer, ShowsServer, result_of}}
use Rattle.script_commands.specs.States.{IsRecordResult, Progress, Setup, after_record, beginning, printed}
use Rattle.epoch_core.specs.Worlds.{IsStart, MachineState}
use Rattle.script_server.specs.{Ends.{CanEnd, End, HasCause, NoMemory, TellsEnd, Unread, fault_of, records_done}, Writes.Output}

-- a feed that gave nothing yet
pub record IsFresh (feed : Script) : Type 0 where
  pub reading : feed.phase ≡ Reading
  pub works : feed.failed ≡ false
  pub given : feed.given ≡ 0

-- a run that may take the next record: as many records as the feed gave, and no more error lines
pub record IsReadyRun (feed : Script) (run : Run) : Type 0 where
  pub server : IsServer run.server
  pub reading : feed.phase ≡ Reading
  pub works : feed.failed ≡ false
  pub records : run.records ≡ feed.given
  pub errors : run.errors ≤ run.records

-- the fields are those of a run that has come this far
pub record ShowsRun (run : Run) (here : Progress) : Type 0 where
  pub server : ShowsServer run.server here.state
  pub records : run.records ≡ here.records
  pub errors : run.errors ≡ here.errors

-- the start of a run, by its result: nothing is counted or written; or the store was not opened, and nothing is written; or there
-- is no memory for a first record, which is told
abbrev pub IsStartup : Setup → Result Run ServeFault → Output → Type 0
IsStartup setup (Ok run) output =
    IsServer run.server × (run.records ≡ 0) × (run.errors ≡ 0) × ShowsRun run (beginning setup) × (output.after ≡ output.before)
IsStartup setup (Err fault) output = ((fault ≡ Start) × (output.after ≡ output.before)) ⊎ TellsEnd NoMemory 0 fault output

-- the server shows a start of the machine
abbrev pub ShowsStart : Server → Type 0
ShowsStart server = (start : MachineState) × IsStart start × ShowsMachine server start.world

-- what is reported of a server that did not begin: that no store was opened; or that memory ran out after the opening, or that a
-- write failed where this is reported
abbrev pub TellsStop : {T : Type 0} → Stop → Result T ServeFault → Type 0
TellsStop (stopped.Start error) result = result ≡ Err Start
TellsStop stopped.Memory result = (result ≡ Err Memory) ⊎ (result ≡ Err Write)

abbrev pub refusals : Response → ℕ
refusals Lines = 0
refusals (Refused word) = 1

-- one more record is counted, and nothing else changes but the buffer
pub record CountsRecord (old : Run) (response : Response) (new : Run) : Type 0 where
  pub server : new.server ≡ old.server
  pub records : new.records ≡ old.records + 1
  pub errors : new.errors ≡ old.errors + refusals response

-- the record was executed to its end: what it came to was written and counted, and the machine does what the server did for the
-- command; where the record is none, the server did nothing
pub record CompletesRecord (item : Result Command FeedWord) (old new : Run) (output : Output) : Type 0 where
  pub server : IsServer new.server
  pub records : new.records ≡ old.records + 1
  pub errors : new.errors ≤ old.errors + 1
  pub response : Response
  pub lines : List ℕ
  pub step : (here : Progress) → ShowsRun old here → IsRecordResult item here.state (result_of response lines)
      × Appends output.before output.after (printed (here.records + 1) (result_of response lines))
      × ShowsRun new (after_record item (result_of response lines) here)
  pub machine : MatchResult item (λ command. MovesMachine command old.server response lines new.server)
      (λ word. new.server ≡ old.server)

-- a run ended at this record, or at none, and this fault is answered. Where a record was given, reading has not failed; and where
-- none was, no write failed in what one came to
pub record EndsRun (item : Option (Result Command FeedWord)) (run : Run) (fault : ServeFault) (output : Output) : Type 0 where
  pub end : End
  pub given : MatchOption item (fault_of end ≢ Write) (λ item. end ≢ Unread)
  pub can : (here : Progress) → ShowsRun run here → CanEnd end item here
  pub told : TellsEnd end run.records fault output

-- a run between two records, and its feed
pub record FedRun : Type 0 where
  pub feed : Script
  pub run : Run

abbrev pub fed : Script → Run → FedRun
fed feed run = record { feed = feed; run = run }

-- the feed gave this record; or it stopped, and gave none
abbrev pub GivesRow : Script → Option Row → Script → Type 0
GivesRow old (Some row) new = TakesRow old row new
GivesRow old None new = StopsAt old new

-- a turn that ended the run, for which its feed shows a cause, behind the records that were done before
pub record EndsTurn (old : FedRun) (fault : ServeFault) (feed : Script) (output : Output) : Type 0 where
  pub row : Option Row
  pub gives : GivesRow old.feed row feed
  pub ends : EndsRun (option_map item_of row) old.run fault output
  pub done : records_done feed ≡ old.run.records
  pub cause : HasCause feed (Err (fault_of ends.end))

-- a turn, by its result: the next record was executed to its end; or there is none; or the run ended
abbrev pub IsTurn : FedRun → Result Bool ServeFault → FedRun → Output → Type 0
IsTurn old (Ok true) new output =
    (row : Row) × TakesRow old.feed row new.feed × CompletesRecord (item_of row) old.run new.run output
IsTurn old (Ok false) new output = MeetsEnd old.feed new.feed × (new.run ≡ old.run) × Appends output.before output.after []
IsTurn old (Err fault) new output = EndsTurn old fault new.feed output
