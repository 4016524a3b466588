-- How a run ends. Each way in which it ends before its input does stands here once: the fault that is answered, what is printed
-- last, where the run stands, and what its feed came to.
use Rattle.std.specs.Prelude.{◌≡◌, ◌<◌, ◌⊎◌, ℕ, ◌+◌, ◌-◌, Bool, true, false, List, Option, IsSomeAnd, Result, Ok, Err}
use Rattle.std.specs.Io.KnownBytes.{Appends}
use Rattle.feed_csv.specs.{Records.record_limit, Script.{FailsWith, LacksMemory, Script}}
use Rattle.feed_csv.specs.declared.{command.{Command.Command, FeedWord.FeedWord}, phase.Phase.Phase}
use Rattle.feed_csv.specs.declared.phase.Phase.TheVariants.{Ended, Reading, Stopped}
use Rattle.feed_csv.specs.declared.command.FeedWord.TheVariants as word
use Rattle.script_lines.specs.declared.words.Word.TheVariants as told
use Rattle.script_commands.specs.States.{IsRecordResult, Progress, RecordResult, Reopens, printed}
use Rattle.script_server.specs.declared.script.{ServeFault.{ServeFault, TheVariants.{Read, Memory, Start, Write}}, Summary.Summary}
use Rattle.script_server.specs.Writes.{AppendsPart, Output}

-- why a run ends at a record: csv's reader failed, or the limit of records was reached; memory ran out; no store was opened; or a
-- write failed in what the record came to
pub data End : Type 0 where
  Unread : End
  NoMemory : End
  NoStore : End
  Unwritten : (outcome : RecordResult) → End

-- the fault of an end
abbrev pub fault_of : End → ServeFault
fault_of Unread = Read
fault_of NoMemory = Memory
fault_of NoStore = Start
fault_of (Unwritten outcome) = Write

-- what the record comes to there: the word of its error line; or its own result, which was not written
abbrev pub outcome_of : End → RecordResult
outcome_of Unread = Err (told.Feed word.Read)
outcome_of NoMemory = Err (told.Feed word.Memory)
outcome_of NoStore = Err told.Start
outcome_of (Unwritten outcome) = outcome

-- what is printed last, behind so many records
abbrev pub last_text : End → ℕ → List ℕ
last_text end records = printed (records + 1) (outcome_of end)

-- a run that has come here can end so, at this record or at none: out of memory only before the limit of records; without a store
-- only at a record that opens one anew; and with a result unwritten only at a record that has this result
abbrev pub CanEnd : End → Option (Result Command FeedWord) → Progress → Type 0
CanEnd Unread item here = Unit {0}
CanEnd NoMemory item here = here.records < record_limit
CanEnd NoStore item here = IsSomeAnd item (λ item. Reopens item here.state)
CanEnd (Unwritten outcome) item here = IsSomeAnd item (λ item. IsRecordResult item here.state outcome)

-- behind so many records the last text is written whole, and the end's fault is answered; or a first part of it, and Write
abbrev pub TellsEnd : End → ℕ → ServeFault → Output → Type 0
TellsEnd end records fault output =
    ((fault ≡ fault_of end) × Appends output.before output.after (last_text end records))
    ⊎ ((fault ≡ Write) × AppendsPart output.before output.after (last_text end records))

-- how many records a run has done whose feed gave so many: each of them where the feed has ended or stopped, and else all but
-- the last, at which a growth was refused
abbrev pub done_by : Phase → ℕ → ℕ
done_by Reading given = given - 1
done_by _ given = given

abbrev pub records_done : Script → ℕ
records_done feed = done_by feed.phase feed.given

-- What the feed came to, by the result of the run: at Ok it met the end of the input, and csv's reader never failed; at Read it
-- stopped, since csv's reader failed, and not because memory ran out, or the limit was reached. At Memory csv's reader ran out of
-- memory, or didn't fail, and the limit was not reached. Start comes while the feed gives records, and Write at any time.
abbrev pub HasCause : Script → Result Summary ServeFault → Type 0
HasCause feed (Ok summary) = (feed.phase ≡ Ended) × (feed.failed ≡ false) × (summary.records ≡ feed.given)
HasCause feed (Err Read) = (feed.phase ≡ Stopped) × (FailsWith word.Read feed ⊎ (feed.given ≡ record_limit))
HasCause feed (Err Memory) = (records_done feed < record_limit) × LacksMemory feed
HasCause feed (Err Start) = feed.phase ≡ Reading
HasCause feed (Err Write) = Unit {0}

-- whether the writer ended a run
abbrev pub is_write : {T : Type 0} → Result T ServeFault → Bool
is_write (Err Write) = true
is_write _ = false

-- whether there was no store for a run
abbrev pub is_start : {T : Type 0} → Result T ServeFault → Bool
is_start (Err Start) = true
is_start _ = false
