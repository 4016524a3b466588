-- Targets gathered block by block.
use Rattle.std.{proofs.Common.ℕ, proofs.Common.List, specs.declared.sync.Arc.Arc, specs.declared.alloc.Global.Global}
use Rattle.graph_types.specs.declared.ids.Filter.{Filter}
use Rattle.edge_block.specs.declared.blocks.Block.{Block}
use Rattle.graph_version.specs.Sharing.{block_values}
use Rattle.graph_version.specs.Shown.{shown_in, targets_of}

-- the targets in shared blocks
abbrev pub targets_in : Filter → List (Arc Block Global) → List ℕ
targets_in f blocks = targets_of (shown_in f (block_values blocks))
