-- A row's blocks while a batch goes on, as the program has them.
use Rattle.std.specs.Prelude.{◌≡◌, ℕ, ◌+◌, List, [], ◌∷◌, map, flat_map, count_by, Bool, not, ◌||◌, if◌then◌else◌}
use Rattle.std.specs.{Option.{is_some, option_to_list}, declared.{option.Option.{Option, TheVariants.{None, Some}}, sync.Arc.Arc}}
use Rattle.std.specs.{declared.alloc.Global.Global, Arc.arc_value}
use Rattle.graph_types.specs.{Graph.Stamp, declared.changes.EdgeChange.EdgeChange, Step.{stamp_after, outcome_at}}
use Rattle.edge_block.specs.{declared.blocks.Block.Block, Slots.{BlockView, Slot, put_slot, take_slot, stamp_at}, Rows.OpenBlock}
use Rattle.edge_block.specs.Rows.{untouched, shape_of, touch, touches}
use Rattle.batch_shards.specs.declared.row_blocks.RowBlock.{RowBlock}

abbrev pub block_of : Arc Block Global → BlockView
block_of b = arc_value {X = Block} b

abbrev pub shared_blocks : List (Arc Block Global) → List BlockView
shared_blocks bs = map block_of bs

abbrev pub shared_numbers : List (Arc Block Global) → List ℕ
shared_numbers bs = map (λ b. (block_of b).number) bs

-- a block of the row, as the layout rule sees it
abbrev pub open_of : RowBlock → OpenBlock
open_of h = record { shape = shape_of (block_of h.block); touched = h.touched; had = not h.touched || is_some h.before }

-- a block of the version before, as the layout rule sees it
abbrev pub kept_of : Arc Block Global → OpenBlock
kept_of b = untouched (shape_of (block_of b))

abbrev pub opens : List RowBlock → List OpenBlock
opens row = map open_of row

-- the block that the row had here before the batch, where it had one
abbrev pub had_here : RowBlock → List BlockView
had_here h = if h.touched then map block_of (option_to_list h.before) else block_of h.block ∷ []

abbrev pub had_in : List RowBlock → List BlockView
had_in row = flat_map had_here row

-- the number of a block that the batch has written, of its fresh ones
abbrev pub own_here : RowBlock → List ℕ
own_here h = if h.touched then (block_of h.block).number ∷ [] else []

-- how many fresh blocks a first touch takes
abbrev pub untouched_here : RowBlock → ℕ
untouched_here h = if h.touched then 0 else 1

abbrev pub own_in : List RowBlock → List ℕ
own_in row = flat_map own_here row

-- the same numbers, each as often, in a and fresh as in b and others
abbrev pub HaveSame : List ℕ → List ℕ → List ℕ → List ℕ → Type 0
HaveSame a fresh b others = (q : ℕ → Bool) → count_by q a + count_by q fresh ≡ count_by q b + count_by q others

-- slots with this at a target
abbrev pub set_slot : ℕ → Option Stamp → List (Option Slot) → List (Option Slot)
set_slot target None slots = take_slot target slots
set_slot target (Some stamp) slots = put_slot (record { target = target; stamp = stamp }) slots

-- a block whose slots are changed
pub record IsTouched (f : List (Option Slot) → List (Option Slot)) (h g : RowBlock) : Type 0 where
  pub shown : open_of g ≡ touch f (open_of h)
  pub source : (block_of g.block).source ≡ (block_of h.block).source

abbrev pub IsOf : ℕ → RowBlock → Type 0
IsOf source h = (block_of h.block).source ≡ source

-- what a change at a target leaves of a block that has the edge
pub record IsChanged (change : EdgeChange) (target : ℕ) (h g : RowBlock) : Type 0 where
  pub shown : open_of g ≡ (if touches (outcome_at change (stamp_at (block_of h.block).slots target)) then touch
      (set_slot target (stamp_after change (stamp_at (block_of h.block).slots target))) (open_of h) else open_of h)
  pub source : (block_of g.block).source ≡ (block_of h.block).source
