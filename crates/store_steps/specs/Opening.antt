-- A store at its opening, over a version that becomes its version 0.
use Rattle.std.specs.Prelude.{◌≡◌, ℕ, ◌<◌, [], map, replicate, All}
use Rattle.graph_types.specs.{Graph.IsContentIn, Limits.LimitsView, declared.contents.Content.Content}
use Rattle.graph_version.specs.{Rows.blocks_of, Rows.numbers_of, Versions.VersionView, Versions.IsVersion}
use Rattle.graph_version.specs.Versions.{empty_version_in}
use Rattle.graph_version.specs.Edges.{edges_in_block}
use Rattle.block_pool.specs.Pools.{marked}
use Rattle.block_reclamation.specs.{declared.status.BlockStatus.TheVariants.{Free, Used}, Board.no_pins}
use Rattle.epoch_core.specs.{Worlds.{MachineState, IsStart, start_world_in}, Opened.{BlockLists, IsOpeningIn, opened_state_in}}
use Rattle.store_steps.specs.{Desks.DeskView, Desks.IsDesk, Shown.ShowsWorld, Boards.ShowsBoard}

-- version 0, an empty journal, and all blocks free but those of version 0, which have birth 0
abbrev pub opened_desk : ℕ → VersionView → DeskView
opened_desk blocks v = record {
  opened = numbers_of (blocks_of v.rows);
  last = v;
  journal = [];
  pool = marked (numbers_of (blocks_of v.rows)) (Used 0) (replicate blocks Free);
}

-- a version with which a store of so many blocks may open: it has no batch, and its blocks are among the store's
pub record IsVersionZero (blocks : ℕ) (v : VersionView) : Type 0 where
  pub version : IsVersion v
  pub alone : v.batches ≡ []
  pub within : All (λ n. n < blocks) (numbers_of (blocks_of v.rows))

-- each block of a version with its edges
abbrev pub lists_of : VersionView → BlockLists
lists_of v = map (λ b. (b.number, edges_in_block b)) (blocks_of v.rows)

-- the machine's start over this content, in the blocks of this version and under its limits
abbrev pub opened_start : ℕ → ℕ → Content → VersionView → MachineState
opened_start sessions blocks content v = opened_state_in v.opening.limits sessions blocks content (lists_of v)

-- at its opening the desk is one, and desk and board show a start of the machine, with which it opens where the content is one
-- within the limits
pub record OpensAsMachine (sessions blocks : ℕ) (v : VersionView) (content : Content) : Type 0 where
  pub desk : IsDesk (opened_desk blocks v)
  pub shown : ShowsWorld (opened_desk blocks v) (opened_start sessions blocks content v).world
  pub board : ShowsBoard no_pins (opened_start sessions blocks content v).world
  pub start : IsStart (opened_start sessions blocks content v)
  pub opening : IsContentIn v.opening.limits content → IsOpeningIn v.opening.limits blocks content (lists_of v)

-- so it is over the version without blocks, where the machine starts with all blocks free
pub record OpensBlank (limits : LimitsView) (sessions blocks : ℕ) : Type 0 where
  pub desk : IsDesk (opened_desk blocks (empty_version_in limits))
  pub shown : ShowsWorld (opened_desk blocks (empty_version_in limits)) (start_world_in limits sessions blocks)
  pub board : ShowsBoard no_pins (start_world_in limits sessions blocks)
