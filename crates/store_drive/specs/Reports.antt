-- What a drive tells.
use Rattle.std.specs.Prelude.{◌≡◌, ℕ, ◌*◌, ◌≤◌, List, codes}
use Rattle.graph_types.specs.declared.refusals.ApplyError.{ApplyError}
use Rattle.graph_types.specs.declared.refusals.ApplyError.TheVariants as errors
use Rattle.store_drive.specs.declared.reports.{DriveCounts.DriveCounts, DriveReport.DriveReport, DriveWord.DriveWord}
use Rattle.store_drive.specs.declared.reports.DriveWord.TheVariants.{Start, Memory, BatchLimit, NamesFull, KindsFull, PoolEmpty}

-- a word as the program writes it
abbrev pub drive_word_text : DriveWord → List ℕ
drive_word_text Start = codes "Start"
drive_word_text Memory = codes "Memory"
drive_word_text BatchLimit = codes "BatchLimit"
drive_word_text NamesFull = codes "NamesFull"
drive_word_text KindsFull = codes "KindsFull"
drive_word_text PoolEmpty = codes "PoolEmpty"

-- the word of a refused batch
abbrev pub word_of : ApplyError → DriveWord
word_of errors.BatchLimit = BatchLimit
word_of errors.NamesFull = NamesFull
word_of errors.KindsFull = KindsFull
word_of (errors.PoolEmpty needed free) = PoolEmpty
word_of errors.OutOfMemory = Memory

-- one to four threads read
pub record IsReaderCount (readers : ℕ) : Type 0 where
  pub some : 1 ≤ readers
  pub few : readers ≤ 4

-- all 64 batches were applied, and each reader compared five answers in each of its 16 rounds with the plain ones, of which none
-- differed
pub record IsReport (readers : ℕ) (r : DriveReport) : Type 0 where
  pub readers_are : r.readers ≡ readers
  pub batches_are : r.batches ≡ 64
  pub checked_are : r.checked ≡ 80 * readers
  pub none_wrong : r.wrong ≡ 0

-- of the answers that a report counts, no more than all are of versions between the first and the last
pub record AreCounts (readers : ℕ) (c : DriveCounts) : Type 0 where
  pub report_is : IsReport readers c.report
  pub between_few : c.between ≤ c.report.checked
