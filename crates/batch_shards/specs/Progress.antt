-- What a shard has left once the rows of its first sources are done.
use Rattle.std.specs.{Prelude.{All, ◌≡◌, ℕ, ◌<◌, List, [], map, flat_map, take, length, get_or, false}, declared.sync.Arc.Arc}
use Rattle.std.specs.declared.alloc.Global.{Global}
use Rattle.graph_types.specs.declared.batches.Outcome.{Outcome}
use Rattle.edge_block.specs.{declared.blocks.Block.Block, Slots.BlockView, Batches.{rows_all, opened_rows}}
use Rattle.batch_shards.specs.{RowBlocks.{shared_blocks, shared_numbers, had_in, HaveSame}, Closing.{row_values, closed_rows}}
use Rattle.batch_shards.specs.{Closing.{written_blocks, dropped_all, unused_all}, Shards.{AreOpen, AreOwn, resolved_in, sources_of}}
use Rattle.batch_shards.specs.{Shards.{had_all, own_all}, Groups.{is_past, outcome_over}, Done.layout_by}
use Rattle.graph_types.specs.Outcomes.{told}
use Rattle.batch_shards.specs.declared.shard.{OpenRow.OpenRow, ShardDone.ShardDone, Step.Step}

-- the outcomes of operations on so many first rows are those of the operation rule, each with its place in the batch; an
-- expiry's counts the edges of these rows
pub record AreOutcomes (sources : List ℕ) (steps : List Step) (rows : ℕ → List BlockView) (done : ℕ)
    (outcomes : List (ℕ × Outcome)) : Type 0 where
  pub places : map (λ o. o.0) outcomes ≡ map (λ s. s.op) steps
  pub are : (k : ℕ) (s : Step) (o : ℕ × Outcome) → k < length steps → is_past done (get_or steps k s).act ≡ false
      → (get_or outcomes k o).1 ≡ told (outcome_over (take done sources) sources steps (opened_rows (layout_by rows)) k)

-- the rows of so many first sources are done: they were opened, changed as the layout rule says, and closed
pub record AreRowsDone (rows : ℕ → List BlockView) (sources : List ℕ) (steps : List Step) (handed : List ℕ) (count : ℕ)
    (fresh : List (Arc Block Global)) (done : ShardDone) : Type 0 where
  pub work : List OpenRow
  pub sources_are : sources_of work ≡ take count sources
  pub layout : AreOpen (rows_all (resolved_in sources steps) (opened_rows (layout_by rows))) work
  pub own : AreOwn work
  pub had : had_all work ≡ flat_map rows (take count sources)
  pub had_each : All (λ r. had_in r.blocks.items ≡ rows r.source.0) work
  pub numbers : HaveSame (own_all work) (shared_numbers fresh) handed []
  pub outcomes : AreOutcomes sources steps rows count done.outcomes.items
  pub closed : row_values done.rows.items ≡ closed_rows work
  pub taken : done.left.taken.items ≡ map (λ b. b.number) (written_blocks work)
  pub dropped : shared_blocks done.left.dropped.items ≡ dropped_all work
  pub unused : shared_numbers done.left.unused.items ≡ unused_all work
