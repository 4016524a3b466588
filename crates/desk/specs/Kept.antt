-- What a desk keeps.
use Rattle.std.specs.Prelude.{◌≡◌, ℕ, ◌≤◌, Bool, List, length, count_by}
use Rattle.graph_version.specs.{Versions.VersionView, Logs.keeps_batches}
use Rattle.block_reclamation.specs.{declared.status.BlockStatus.BlockStatus, Status.is_retired}
use Rattle.store_steps.specs.{Journal.Entry, Desks.DeskView, Desks.IsDesk}
use Rattle.desk.specs.declared.desks.Parts.{Parts}
pub use Rattle.desk.specs.Entries.{journal_entry}

abbrev pub desk_of : List ℕ → VersionView → List Entry → List BlockStatus → DeskView
desk_of opened last entries pool = record { opened = opened; last = last; journal = entries; pool = pool }

-- the desk of these parts, with this pool, and with theirs
abbrev pub desk_with : Parts → List BlockStatus → DeskView
desk_with p pool = desk_of p.opened p.last p.journal.entries pool

abbrev pub desk_in : Parts → DeskView
desk_in p = desk_with p p.pool

-- a desk of at least 16 blocks, and a journal that keeps its entries where the limits say so, and whose spare room is never below
-- the number of retired blocks, so that a collection takes no memory
pub record IsKeptDesk (d : DeskView) (keeps : Bool) (room : ℕ) : Type 0 where
  pub desk : IsDesk d
  pub blocks_some : 16 ≤ length d.pool
  pub keeps_are : keeps ≡ keeps_batches d.last.opening.limits
  pub room_is : count_by is_retired d.pool ≤ room
