-- What a batch needs of two rows, worked out.
use Rattle.std.specs.{Prelude.{ℕ, List, [], ◌∷◌, pos}, declared.option.Option.TheVariants.{None, Some}}
use Rattle.graph_types.specs.declared.changes.EdgeChange.TheVariants.{Remove}
use Rattle.edge_block.specs.Slots.{BlockView, edge_slot}
use Rattle.batch_shards.specs.declared.shard.{Act.TheVariants.{Edge, Expire}, Step.Step}

-- a block with one edge, last touched at a time
abbrev block_from : ℕ → BlockView
block_from time = record { number = 0; source = 0; kind = 0; slots = Some (edge_slot 1 (pos 1) time time) ∷ [] }

abbrev pub two_rows : List (List BlockView)
two_rows = (block_from 4 ∷ block_from 9 ∷ []) ∷ (block_from 4 ∷ []) ∷ []

-- a removal between two expiries, the first of which is later
abbrev pub three_steps : List Step
three_steps = record { op = 0; act = Expire 5 } ∷ record { op = 1; act = Edge None Remove } ∷ record { op = 2; act = Expire 3 } ∷ []
