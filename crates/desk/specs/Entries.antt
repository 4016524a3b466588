-- Entries of the journal, as contracts see them.
use Rattle.std.specs.Arc.{arc_value}
use Rattle.graph_types.specs.declared.batches.Batch.{Batch}
use Rattle.store_steps.specs.Journal.{Entry, Applied, Collected}
use Rattle.desk.specs.declared.entries.JournalEntry.{JournalEntry}
use Rattle.desk.specs.declared.entries.JournalEntry.TheVariants as entries

abbrev pub journal_entry : JournalEntry → Entry
journal_entry (entries.Applied batch taken dropped) = Applied (arc_value {X = Batch} batch) taken dropped
journal_entry (entries.Collected copy recycled) = Collected copy recycled
