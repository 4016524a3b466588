-- The steps of the machine of interleavings that simulate a desk's calls.
use Rattle.std.specs.{Prelude.{◌≡◌, ℕ, List, [], ◌∷◌, ◌++◌, map, filter}, List.{flat_map, enumerate_from}, Option.option_and_then}
use Rattle.std.specs.declared.option.Option.{Option, TheVariants.{None, Some}}
use Rattle.graph_types.specs.declared.batches.NamedOp.{NamedOp}
use Rattle.edge_block.specs.Slots.{BlockView}
use Rattle.graph_version.specs.{Rows.blocks_of, Rows.numbers_of, Versions.VersionView, Edges.edges_in_block}
use Rattle.block_reclamation.specs.{Status.is_among, Status.is_reclaimable, declared.status.BlockStatus.BlockStatus}
use Rattle.block_reclamation.specs.declared.copies.PinCopy.{PinCopy}
use Rattle.epoch_core.specs.{declared.events.Event.{Event, TheVariants.{Take, Fill, Post, Recycle}}, Worlds.World, Machine.step}
use Rattle.store_steps.specs.{Desks.DeskView, Shown.ShowsWorld}

-- the world after these events, all of them done; none where one of them is skipped
abbrev pub all_done : List Event → World → Option World
all_done [] w = Some w
all_done (e ∷ es) w = option_and_then (all_done es) (step w e)

-- these events are all done in this world, and leave one that the desk shows; floor, copy and sessions stay as they are
pub record SimulatesIn (w : World) (events : List Event) (new : DeskView) : Type 0 where
  pub after : World
  pub done : all_done events w ≡ Some after
  pub shown : ShowsWorld new after
  pub floor : after.floor ≡ w.floor
  pub copy : after.copy ≡ w.copy
  pub sessions : after.sessions ≡ w.sessions

-- the events simulate the step from the old desk to the new one: they do so in each world that the old one shows
abbrev pub Simulates : DeskView → List Event → DeskView → Type 0
Simulates old events new = (w : World) → ShowsWorld old w → SimulatesIn w events new

-- Batches

-- a block is taken and filled
abbrev pub filling : BlockView → List Event
filling b = Take b.number ∷ Fill b.number (edges_in_block b) ∷ []

-- the blocks of a version whose numbers are among those taken
abbrev pub fresh_in : VersionView → List ℕ → List BlockView
fresh_in v taken = filter (λ b. is_among b.number taken) (blocks_of v.rows)

-- Take and Fill of each taken block, and then one Post of the batch over the blocks of the version
abbrev pub posting : VersionView → List NamedOp → List ℕ → List Event
posting v batch taken = flat_map filling (fresh_in v taken) ++ Post batch (numbers_of (blocks_of v.rows)) ∷ []

-- Collections

-- the numbers that are retired and not needed by the copy, rising
abbrev pub reclaimable_numbers : PinCopy → List BlockStatus → List ℕ
reclaimable_numbers copy pool = map (λ p. p.0) (filter (λ p. is_reclaimable copy p.1) (enumerate_from 0 pool))

-- Recycle of each of these
abbrev pub recycling : PinCopy → List BlockStatus → List Event
recycling copy pool = map Recycle (reclaimable_numbers copy pool)

-- the events simulate the step wherever the world has this copy, and afterwards no further block goes
abbrev pub SimulatesAt : PinCopy → DeskView → List Event → DeskView → Type 0
SimulatesAt copy old events new =
    (w : World) → ShowsWorld old w → w.copy ≡ copy
    → (simulates : SimulatesIn w events new) × ((n : ℕ) → step simulates.after (Recycle n) ≡ None)
