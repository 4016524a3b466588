-- Worlds of the machine of interleavings that a desk shows. What it doesn't show is open: sessions, floor and pins.
use Rattle.std.specs.Prelude.{◌≡◌, length, map, All}
use Rattle.graph_version.specs.{Rows.blocks_of, Edges.edges_in_block}
use Rattle.epoch_core.specs.{Worlds.World, Worlds.last_blocks, Versions.edges_at, Versions.graph_of_opening}
use Rattle.store_steps.specs.Desks.{DeskView, last_numbers}

-- the desk shows this world: its opening graph and the blocks of it, its batches, the list of its last version's blocks, the
-- edges in these, and what each block number is
pub record ShowsWorld (d : DeskView) (w : World) : Type 0 where
  pub opening : graph_of_opening w.opening ≡ d.last.opening
  pub opened : w.opening.blocks ≡ d.opened
  pub batches : map (λ v. v.batch) w.versions ≡ d.last.batches
  pub blocks : last_blocks w ≡ last_numbers d
  pub edges : All (λ b. edges_at w.heap b.number ≡ edges_in_block b) (blocks_of d.last.rows)
  pub status : w.status ≡ d.pool
  pub sizes : length w.heap ≡ length w.status
