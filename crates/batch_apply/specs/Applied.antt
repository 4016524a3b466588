-- What applying a batch to a version leaves.
use Rattle.std.specs.Prelude.{◌≡◌, ℕ, ◌+◌, List, [], ◌∷◌, ◌++◌, length, count_by, Bool, true, false}
use Rattle.graph_types.specs.{Step.{after_all, outcomes}, declared.batches.{NamedOp.NamedOp, Outcome.Outcome}}
use Rattle.graph_types.specs.declared.batches.Outcome.TheVariants.{Inserted, Removed, Expired}
use Rattle.edge_block.specs.Batches.{layout_after, taken_by, dropped_by}
use Rattle.batch_shards.specs.{Births.CarriesBirths, Done.Exchanges, declared.shard.ShardDone.ShardDone}
use Rattle.graph_version.specs.{Rows.blocks_of, Versions.{VersionView, IsVersion, content, layout_of}}
pub use Rattle.graph_version.specs.Drafts.{row_among, ReplacesRows}
use Rattle.batch_shards.specs.RowBlocks as shared
use Rattle.batch_apply.specs.{Plans.written, declared.applied.Applied.Applied}

-- the next version of a version, after this batch, made with fresh blocks of these numbers
pub record IsApplied (v : VersionView) (ops : List NamedOp) (numbers : List ℕ) (a : Applied) : Type 0 where
  -- a version of the same opening with the batch more
  pub version : IsVersion a.version
  pub opening : a.version.opening ≡ v.opening
  pub batches : a.version.batches ≡ v.batches ++ ops ∷ []
  -- the operation rule
  pub outcomes_are : a.outcomes.items ≡ outcomes ops (content v)
  -- all blocks that aren't dropped are kept as they are, and the others are fresh ones of the numbers taken
  pub exchanged : Exchanges (blocks_of v.rows) (blocks_of a.version.rows) a.taken.items (shared.shared_blocks a.dropped.items)
  -- each number handed in is taken or handed back
  pub handed : (q : ℕ → Bool) → count_by q a.taken.items + count_by q (shared.shared_numbers a.unused.items) ≡ count_by q numbers
  -- the layout rule, and as many blocks taken and dropped as it says
  pub layout : (source : ℕ) → layout_of a.version.rows source ≡ layout_after ops (content v) (layout_of v.rows) source
  pub taken_are : length a.taken.items ≡ taken_by ops (content v) (layout_of v.rows) (length (after_all ops (content v)).names)
  pub dropped_are : length a.dropped.items ≡ dropped_by ops (content v) (layout_of v.rows)
      (length (after_all ops (content v)).names)
  -- the rule of births
  pub births : CarriesBirths v ops a.version a.taken.items (shared.shared_blocks a.dropped.items)

-- the outcomes of shards, one shard after another, written at their places
abbrev pub written_from : List ShardDone → List Outcome → List Outcome
written_from [] outcomes = outcomes
written_from (d ∷ dones) outcomes = written_from dones (written d.outcomes.items outcomes)

-- one edge more
abbrev pub is_inserted : Outcome → Bool
is_inserted Inserted = true
is_inserted _ = false

-- how many edges less
abbrev pub taken_away : Outcome → ℕ
taken_away Removed = 1
taken_away (Expired count) = count
taken_away _ = 0
