-- The text of a script: what a run prints for the bytes that it reads.
use Rattle.std.specs.Prelude.{◌≡◌, ◌⊎◌, ℕ, List, [], ◌++◌, length, slice_get, option_map, Result, Ok, Err}
use Rattle.feed_csv.specs.{Commands.item_of, Records.Row}
use Rattle.script_server.specs.declared.script.{ServeFault.{ServeFault, TheVariants.{Start, Write}}, Summary.Summary}
use Rattle.script_server.specs.{Ends.{CanEnd, End, fault_of, last_text}, Executions.{Executes, Input, IsFullText}}
use Rattle.script_commands.specs.States.{Progress, beginning}

-- the text of a run that ends at a record, or at none: the lines of those before it, the first of the script, and then what is
-- printed last
pub record IsTextTo (end : End) (input : Input) (there : Progress) (text : List ℕ) : Type 0 where
  pub given : List Row
  pub left : List Row
  pub lines : List ℕ
  pub rows : input.rows ≡ given ++ left
  pub executes : Executes given (beginning input.setup) lines there
  pub can : CanEnd end (option_map item_of (slice_get left 0)) there
  pub is : text ≡ lines ++ last_text end there.records

-- a text that a run writes where each write succeeds: the full text, or a text to an end
abbrev pub IsIntendedText : Input → List ℕ → Type 0
IsIntendedText input text =
    (there : Progress) × (IsFullText input.setup input.rows text there ⊎ ((end : End) × IsTextTo end input there text))

-- what a run that did so many records has written when it returns: the whole text; or, where it wasn't begun, nothing; or the
-- text to an end, whose fault it answers; or, where a write failed, a first part of an intended text
abbrev pub IsText : Input → ℕ → Result Summary ServeFault → List ℕ → Type 0
IsText input count (Ok summary) text =
    (there : Progress) × IsFullText input.setup input.rows text there × (there.records ≡ count)
    × (summary ≡ record { records = there.records; errors = there.errors; pending = length there.state.pending })
IsText input count (Err fault) text =
    ((fault ≡ Start) × (text ≡ []) × (count ≡ 0))
    ⊎ (((end : End) × (there : Progress) × IsTextTo end input there text × (fault ≡ fault_of end) × (there.records ≡ count))
    ⊎ ((fault ≡ Write) × (full : List ℕ) × (rest : List ℕ) × IsIntendedText input full × (full ≡ text ++ rest)))
