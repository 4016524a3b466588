-- The records of a script, executed one after another, and the text of a whole script.
use Rattle.std.specs.Prelude.{◌≡◌, ◌<◌, ℕ, ◌+◌, List, [], ◌∷◌, ◌++◌, length}
use Rattle.feed_csv.specs.{Commands.item_of, Records.{Row, record_limit}}
use Rattle.script_lines.specs.Lines.{end_line}
use Rattle.script_commands.specs.States.{IsRecordResult, RecordResult, Progress, Setup, after_record, beginning, printed}

-- how a run is set up, and the records that it is given
pub record Input : Type 0 where
  pub setup : Setup
  pub rows : List Row

abbrev pub input : Setup → List Row → Input
input setup rows = record { setup = setup; rows = rows }

-- the records, executed one after another, print this text and bring a run from here to there: each comes to one of its results,
-- in the state that those before it left
abbrev pub Executes : List Row → Progress → List ℕ → Progress → Type 0
Executes [] here text there = (text ≡ []) × (there ≡ here)
Executes (row ∷ rows) here text there =
    (outcome : RecordResult) × (rest : List ℕ) × IsRecordResult (item_of row) here.state outcome
    × (text ≡ printed (here.records + 1) outcome ++ rest) × Executes rows (after_record (item_of row) outcome here) rest there

-- the text of a whole script: the lines of all records, and then the line on operations that are pending; a run takes
-- fewer than 1,000,000 records to the end
abbrev pub IsFullText : Setup → List Row → List ℕ → Progress → Type 0
IsFullText setup rows text there =
    (lines : List ℕ) × Executes rows (beginning setup) lines there × (text ≡ lines ++ end_line (length there.state.pending))
    × (there.records < record_limit)
