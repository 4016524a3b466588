-- A journal: its entries, whether memory has them too, and how many more it takes without memory.
use Rattle.std.specs.Prelude.{ℕ, ◌-◌, ◌^◌, Bool, List, if◌then◌else◌}
use Rattle.store_steps.specs.Journal.{Entry}

pub record JournalView : Type 0 where
  pub keeps : Bool
  pub entries : List Entry
  pub room : ℕ

-- entries that aren't kept ask for no memory
abbrev pub room_of : Bool → ℕ → ℕ → ℕ
room_of keeps len capacity = if keeps then capacity - len else 2 ^ 64
