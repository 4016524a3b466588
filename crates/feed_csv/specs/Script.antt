-- A feed, as its callers see it, and what one call of it does.
use Rattle.std.specs.{Prelude.{◌≡◌, ◌<◌, ◌⊎◌, ℕ, ◌+◌, Bool, true, List, Option, Some, None, Result, Ok, Err}, Io.Iter.u64_saturate}
use Rattle.csv.specs.declared.error.ErrorKind.{ErrorKind}
use Rattle.feed_csv.specs.{Commands.{item_of, fault_word}, Records.{IsOver, Row, TakesRecord, record_limit}}
use Rattle.feed_csv.specs.declared.command.{Command.Command, FeedFault.FeedFault, FeedWord.{FeedWord, TheVariants.{Read, Memory}}}
use Rattle.feed_csv.specs.declared.phase.Phase.{Phase, TheVariants.{Reading, Ended, Stopped}}

-- whether records may follow, how many records were given, whether csv's reader has failed, what it then told and the feed
-- kept, and the records that are left, where the reader's bytes are known
pub record Script : Type 0 where
  pub phase : Phase
  pub given : ℕ
  pub failed : Bool
  pub fault : Option ErrorKind
  pub left : Option (List Row)

-- A feed gives at most so many records, its limit, or as many as there are. It may give one more
abbrev pub HasRecordRoom : Option ℕ → ℕ → Type 0
HasRecordRoom (Some limit) given = given < limit
HasRecordRoom None given = Unit {0}

-- it gave as many as it may
abbrev pub IsScriptFull : Option ℕ → ℕ → Type 0
IsScriptFull (Some limit) given = given ≡ limit
IsScriptFull None given = ⊥

-- the number of the record behind so many. Without a limit records are counted up to 2 ^ 64 - 1, and all behind that one have its
-- number
abbrev pub next_number : Option ℕ → ℕ → ℕ
next_number (Some limit) given = given + 1
next_number None given = u64_saturate (given + 1)

-- a record may be read
pub record IsOpenIn (limit : Option ℕ) (script : Script) : Type 0 where
  pub reading : script.phase ≡ Reading
  pub room : HasRecordRoom limit script.given

-- this record was taken: it is the first of those left, and the next call looks at the one after it
pub record TakesRowIn (limit : Option ℕ) (old : Script) (row : Row) (new : Script) : Type 0 where
  pub open_before : IsOpenIn limit old
  pub reading : new.phase ≡ Reading
  pub given : new.given ≡ next_number limit old.given
  pub works : new.failed ≡ old.failed
  pub left : TakesRecord old.left row new.left

-- the input's end was met: no record is left
pub record MeetsEndIn (limit : Option ℕ) (old new : Script) : Type 0 where
  pub open_before : IsOpenIn limit old
  pub over : IsOver old.left
  pub ended : new.phase ≡ Ended
  pub given : new.given ≡ old.given
  pub works : new.failed ≡ old.failed

-- no record was taken, and none will be
pub record StopsAt (old new : Script) : Type 0 where
  pub stopped : new.phase ≡ Stopped
  pub given : new.given ≡ old.given

-- csv's reader failed, and this is the word for what it told
pub record FailsWith (word : FeedWord) (script : Script) : Type 0 where
  pub failed : script.failed ≡ true
  pub kind : ErrorKind
  pub told : script.fault ≡ Some kind
  pub called : fault_word kind ≡ word

-- why a call answers Read: csv's reader failed, and not because memory ran out; the limit was reached, and nothing is read; or the
-- feed had stopped before
abbrev pub ReadStopsIn : Option ℕ → Script → Script → Type 0
ReadStopsIn limit old new =
    (IsOpenIn limit old × FailsWith Read new)
    ⊎ ((old.phase ≡ Reading) × IsScriptFull limit old.given × (new ≡ record old { phase = Stopped }))
    ⊎ ((old.phase ≡ Stopped) × (new ≡ old))

-- if csv's reader failed, it ran out of memory; else memory ran out for what a record asks
abbrev pub LacksMemory : Script → Type 0
LacksMemory script = script.failed ≡ true → FailsWith Memory script

-- the next record is refused for this word
abbrev pub RefusesRowIn : Option ℕ → Script → FeedWord → Script → Type 0
RefusesRowIn limit old word new = (row : Row) × (item_of row ≡ Err word) × TakesRowIn limit old row new

-- a call that answers this word: the feed stops, or the word is the next record's refusal
abbrev pub FaultStepIn : Option ℕ → FeedWord → Script → Script → Type 0
FaultStepIn limit Read old new = ReadStopsIn limit old new × StopsAt old new
FaultStepIn limit Memory old new = IsOpenIn limit old × StopsAt old new × LacksMemory new
FaultStepIn limit word old new = RefusesRowIn limit old word new

-- one call: the next record's command; or the end, then and later; or a fault, which bears the number of the
-- record that was not given
abbrev pub NextStepIn : Option ℕ → Script → Result (Option Command) FeedFault → Script → Type 0
NextStepIn limit old (Ok (Some command)) new = (row : Row) × (item_of row ≡ Ok command) × TakesRowIn limit old row new
NextStepIn limit old (Ok None) new = MeetsEndIn limit old new ⊎ ((old.phase ≡ Ended) × (new ≡ old))
NextStepIn limit old (Err fault) new = (fault.at ≡ next_number limit old.given) × FaultStepIn limit fault.word old new

-- the same of a script's feed, whose limit is a script's
abbrev pub IsOpen : Script → Type 0
IsOpen script = IsOpenIn (Some record_limit) script

abbrev pub TakesRow : Script → Row → Script → Type 0
TakesRow old row new = TakesRowIn (Some record_limit) old row new

abbrev pub MeetsEnd : Script → Script → Type 0
MeetsEnd old new = MeetsEndIn (Some record_limit) old new

abbrev pub RefusesRow : Script → FeedWord → Script → Type 0
RefusesRow old word new = RefusesRowIn (Some record_limit) old word new

abbrev pub FaultStep : FeedWord → Script → Script → Type 0
FaultStep word old new = FaultStepIn (Some record_limit) word old new

abbrev pub NextStep : Script → Result (Option Command) FeedFault → Script → Type 0
NextStep old result new = NextStepIn (Some record_limit) old result new
