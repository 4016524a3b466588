-- Post in a world: what its rule asks, and the world that it makes.
use Rattle.std.specs.Prelude.{◌≡◌, ◌≢◌, ◌⊎◌, ℕ, ◌<◌, List, [], ◌∷◌, ◌++◌, ◌+◌, slice_get, All, AllPairs, IsTrue}
use Rattle.std.specs.declared.option.Option.TheVariants.{Some}
use Rattle.graph_types.specs.{Step.{MeetsNameLimit, MeetsKindLimit}, declared.batches.NamedOp.NamedOp}
use Rattle.block_reclamation.specs.{declared.status.BlockStatus.TheVariants.Granted, Status.is_among}
use Rattle.epoch_core.specs.{Blocks.status_after, Worlds.World, Worlds.last_number, Worlds.last_blocks, Worlds.last_graph}
use Rattle.epoch_core.specs.{Versions.AreEdgesOf, Versions.edges_of, Posting.graph_after, Posting.version_by}

-- a Post is done only where all this holds
pub record MayPost (w : World) (batch : List NamedOp) (blocks : List ℕ) : Type 0 where
  -- there are fewer batches than the limit
  pub few : last_number w < w.opening.limits.batches
  -- each block is granted or of the last version
  pub listable : All (λ b. (slice_get w.status b ≡ Some Granted) ⊎ IsTrue (is_among b (last_blocks w))) blocks
  -- none is listed twice
  pub different : AllPairs ◌≢◌ blocks
  -- the batch meets no limit on names or kinds
  pub names : MeetsNameLimit batch (last_graph w) → ⊥
  pub kinds : MeetsKindLimit batch (last_graph w) → ⊥
  -- the edges in the blocks, taken together, are each once the edges that the batch leaves of the last version
  pub shown : AreEdgesOf (edges_of w.heap blocks) (graph_after w.opening w.versions batch)

-- the world once a Post is done
abbrev pub posted : World → List NamedOp → List ℕ → World
posted w batch blocks =
    record w {
      status = status_after (last_number w + 1) blocks w.status;
      versions = w.versions ++ version_by w.opening w.versions batch blocks ∷ [];
    }
