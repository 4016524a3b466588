-- Blocks behind counted references, as the rows that they show.
use Rattle.std.specs.{Prelude.{List, [], ◌∷◌, map}, Arc.arc_value, declared.{sync.Arc.Arc, alloc.Global.Global, vec.Vec.Vec}}
use Rattle.edge_block.specs.{declared.blocks.Block.Block, Slots.BlockView}
use Rattle.graph_version.specs.declared.row.Blocks.{Blocks, TheVariants.{Empty, One, Many}}

abbrev pub block_value : Arc Block Global → BlockView
block_value block = arc_value {X = Block} block

abbrev pub block_values : List (Arc Block Global) → List BlockView
block_values blocks = map block_value blocks

abbrev pub row_block_values : Blocks → List BlockView
row_block_values Empty = []
row_block_values (One block) = block_value block ∷ []
row_block_values (Many blocks) = block_values (arc_value {X = Vec (Arc Block Global) Global} blocks).items
