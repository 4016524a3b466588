-- How large a store is.
use Rattle.std.specs.Prelude.{ℕ, ◌≤◌}
use Rattle.block_reclamation.specs.Status.{most_blocks}
pub use Rattle.graph_types.specs.Limits.{LimitsView, AreLimits, standard_limits}
use Rattle.graph_types.specs.Limits.{standard_size}

pub record ConfigView : Type 0 where
  pub workers : ℕ
  pub blocks : ℕ
  pub seats : ℕ
  pub limits : LimitsView

-- under the standard limits
abbrev pub standard_config : ℕ → ℕ → ℕ → ConfigView
standard_config workers blocks seats =
    record { workers = workers; blocks = blocks; seats = seats; limits = standard_limits }

-- 1 to 8 workers, 16 to 65,536 blocks, and 1 to 16 seats
pub record AreSizesWithin (workers blocks seats : ℕ) : Type 0 where
  pub workers_some : 1 ≤ workers
  pub workers_few : workers ≤ 8
  pub blocks_some : 16 ≤ blocks
  pub blocks_few : blocks ≤ standard_size
  pub seats_some : 1 ≤ seats
  pub seats_few : seats ≤ 16

-- 1 to 8 workers, 16 blocks to as many as a store can have, 1 to 16 seats, and limits within the walls
pub record IsConfig (c : ConfigView) : Type 0 where
  pub workers_some : 1 ≤ c.workers
  pub workers_few : c.workers ≤ 8
  pub blocks_some : 16 ≤ c.blocks
  pub blocks_few : c.blocks ≤ most_blocks
  pub seats_some : 1 ≤ c.seats
  pub seats_few : c.seats ≤ 16
  pub limits : AreLimits c.limits
