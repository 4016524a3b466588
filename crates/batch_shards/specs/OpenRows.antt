-- What operations keep of an open row, and what they leave of its outcomes.
use Rattle.std.specs.Prelude.{◌≡◌, ℕ, ◌+◌, ◌<◌, ◌≤◌, List, All, map, length, get_or, vec_len, true, false}
use Rattle.std.specs.declared.{sync.Arc.Arc, alloc.Global.Global, vec.Vec.Vec}
use Rattle.graph_types.specs.declared.{ids.VertexId.VertexId, batches.Outcome.Outcome}
use Rattle.edge_block.specs.{declared.blocks.Block.Block, Slots.BlockView, Rows.OpenBlock, Batches.rows_all}
use Rattle.batch_shards.specs.{RowBlocks.{opens, had_here, had_in, own_here, own_in, shared_numbers, HaveSame, IsOf}, Room.AreHints}
use Rattle.batch_shards.specs.{Shards.resolved_in, Groups.{does_act, IsTold, IsOneMore}, Spending.unspent}
use Rattle.batch_shards.specs.declared.{row_blocks.RowBlock.RowBlock, shard.{OpenRow.OpenRow, Step.Step}}

-- the invariant of a source's open row: each of its blocks has this source, and what is known of the row is so
pub record IsRowOf (source : VertexId) (row : OpenRow) : Type 0 where
  pub source_is : row.source ≡ source
  pub own : All (IsOf source.0) row.blocks.items
  pub hinted : AreHints row.hints row.blocks.items

-- What a change keeps, of a block or of a row: the blocks that were there before the batch, and each number of a fresh block,
-- be it there or among those that are left. It takes at most so many of the fresh blocks.
pub record KeepsBlocks {A : Type 0} (had_of : A → List BlockView) (own_of : A → List ℕ) (most : ℕ) (before : A)
    (fresh : Vec (Arc Block Global) Global) (after : A) (left : Vec (Arc Block Global) Global) : Type 0 where
  pub had : had_of after ≡ had_of before
  pub numbers : HaveSame (own_of after) (shared_numbers left.items) (own_of before) (shared_numbers fresh.items)
  pub few : vec_len fresh ≤ vec_len left + most

abbrev pub KeepsHere : ℕ → RowBlock → Vec (Arc Block Global) Global → RowBlock → Vec (Arc Block Global) Global → Type 0
KeepsHere most before fresh after left = KeepsBlocks had_here own_here most before fresh after left

abbrev pub KeepsIn : ℕ → List RowBlock → Vec (Arc Block Global) Global → List RowBlock → Vec (Arc Block Global) Global → Type 0
KeepsIn most before fresh after left = KeepsBlocks had_in own_in most before fresh after left

-- for the expiries of each time from one on: a change takes fresh blocks that they would have taken, and at most so many others
abbrev pub LeavesEnough : ℕ → ℕ → List RowBlock → Vec (Arc Block Global) Global → List RowBlock
    → Vec (Arc Block Global) Global → Type 0
LeavesEnough since others before fresh after left = (time : ℕ) → since ≤ time
    → vec_len fresh + unspent time (opens after) ≤ vec_len left + (others + unspent time (opens before))

-- the operations on the row of a source are done, and put together with the outcomes in the rows before
pub record AreStepsDone (sources : List ℕ) (steps : List Step) (rows : ℕ → List OpenBlock) (row source : ℕ) (blocks : List RowBlock)
    (before after : List (ℕ × Outcome)) : Type 0 where
  pub blocks_are : opens blocks ≡ rows_all (resolved_in sources steps) rows source
  pub written : (k : ℕ) (s : Step) (o : ℕ × Outcome) → k < length steps → does_act row (get_or steps k s).act ≡ true
      → IsTold (get_or steps k s).act (get_or before k o).1
      → IsOneMore sources steps rows source k (get_or before k o).1 (get_or after k o).1

-- operations that don't act on the row keep their outcomes, and each its place in the batch
pub record KeepsOthers (steps : List Step) (row : ℕ) (before after : List (ℕ × Outcome)) : Type 0 where
  pub others : (k : ℕ) (s : Step) (o : ℕ × Outcome) → k < length steps → does_act row (get_or steps k s).act ≡ false
      → get_or after k o ≡ get_or before k o
  pub places : map (λ o. o.0) after ≡ map (λ o. o.0) before
