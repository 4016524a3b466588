-- What a shard must leave of a version's rows.
use Rattle.std.specs.Prelude.{◌≡◌, ℕ, ◌+◌, List, map, flat_map, zip, length, count_by, All, Bool, true}
use Rattle.edge_block.specs.{Slots.BlockView, Rows.{OpenBlock, Shape, shape_of, row_end, taken_in, dropped_in}, Batches.Resolved}
use Rattle.edge_block.specs.Batches.{rows_all, outcomes_all, opened_rows}
use Rattle.graph_version.specs.Versions.{IsBlockOf, is_in}
use Rattle.batch_shards.specs.{Births.{births_end, births_dropped}, RowBlocks.{shared_blocks, shared_numbers}, Closing.row_values}
use Rattle.batch_shards.specs.{Shards.resolved_in, declared.shard.{Shard.Shard, ShardDone.ShardDone}}
use Rattle.graph_types.specs.Outcomes.{told}

-- the layout of rows
abbrev pub layout_by : (ℕ → List BlockView) → ℕ → List Shape
layout_by rows source = map shape_of (rows source)

abbrev pub AreBlockRows : (ℕ → List BlockView) → Type 0
AreBlockRows rows = (source : ℕ) → All (IsBlockOf source) (rows source)

-- the sum of f over the list
abbrev pub sum_of : (ℕ → ℕ) → List ℕ → ℕ
sum_of f xs = Rattle.std.specs.List.sum_by f xs

-- The blocks before and after are kept ones, beside the dropped ones before and the fresh ones after; the fresh ones have
-- the taken numbers. Lists without their order: each test passes as many blocks of both sides.
pub record Exchanges (before after : List BlockView) (taken : List ℕ) (dropped : List BlockView) : Type 0 where
  pub kept : List BlockView
  pub fresh : List BlockView
  pub taken_are : map (λ b. b.number) fresh ≡ taken
  pub before_are : (p : BlockView → Bool) → count_by p kept + count_by p dropped ≡ count_by p before
  pub after_are : (p : BlockView → Bool) → count_by p kept + count_by p fresh ≡ count_by p after

abbrev pub sources_in : Shard → List ℕ
sources_in shard = map (λ s. s.0) shard.sources.items

abbrev pub steps_in : Shard → List Resolved
steps_in shard = resolved_in (sources_in shard) shard.steps.items

-- the rows that the shard's operations leave
abbrev pub rows_by : (ℕ → List BlockView) → Shard → ℕ → List OpenBlock
rows_by rows shard = rows_all (steps_in shard) (opened_rows (layout_by rows))

-- what the work on a shard leaves of these rows
pub record IsShardDone (rows : ℕ → List BlockView) (shard : Shard) (done : ShardDone) : Type 0 where
  -- the outcomes of the operation rule, each at its place; an expiry counts the edges of the shard's sources
  pub outcomes_are : done.outcomes.items ≡ zip (map (λ s. s.op) shard.steps.items)
      (map told (outcomes_all (sources_in shard) (steps_in shard) (opened_rows (layout_by rows))))
  -- the rows of the shard's sources, in order
  pub sources_are : map (λ r. r.0) (row_values done.rows.items) ≡ sources_in shard
  -- the layout rule, for each row
  pub layout : All (λ r. map shape_of r.1 ≡ row_end (rows_by rows shard r.0)) (row_values done.rows.items)
  pub blocks : All (λ r. All (IsBlockOf r.0) r.1) (row_values done.rows.items)
  -- kept blocks are the version's, and the others are freshly written ones, with the taken numbers
  pub exchanged : Exchanges (flat_map rows (sources_in shard)) (flat_map (λ r. r.1) (row_values done.rows.items))
      done.left.taken.items (shared_blocks done.left.dropped.items)
  pub taken_are : length done.left.taken.items ≡ sum_of (λ source. taken_in (rows_by rows shard source)) (sources_in shard)
  pub dropped_are : length done.left.dropped.items ≡ sum_of (λ source. dropped_in (rows_by rows shard source)) (sources_in shard)
  -- whatever the birth f of a block before, and g of one after, which is n for those with taken numbers: g goes over each row
  -- as the rule of births says, and the dropped blocks are those that it says
  pub births : (f g : BlockView → ℕ) (n : ℕ) → ((b : BlockView) → is_in b.number done.left.taken.items ≡ true → g b ≡ n)
      → All (λ r. All (λ b. g b ≡ f b) (rows r.0) → map g r.1 ≡ births_end n (rows_by rows shard r.0) (map f (rows r.0)))
      (row_values done.rows.items)
  pub dropped_births : (f : BlockView → ℕ) → map f (shared_blocks done.left.dropped.items)
      ≡ flat_map (λ source. births_dropped (rows_by rows shard source) (map f (rows source))) (sources_in shard)
  -- each number handed in is taken or handed back
  pub handed : (q : ℕ → Bool) → count_by q done.left.taken.items + count_by q (shared_numbers done.left.unused.items)
      ≡ count_by q (shared_numbers shard.fresh.items)
