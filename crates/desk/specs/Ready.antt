-- A batch on its way: its blocks are granted, and then it is ready, with the next version and room in the journal.
use Rattle.std.specs.{Prelude.{◌≡◌, ◌≢◌, ℕ, ◌+◌, ◌≤◌, List, length, count_by, vec_len, All, AllPairs, false}, Arc.arc_value}
use Rattle.std.specs.List.{sum_by}
use Rattle.graph_types.specs.declared.batches.{Batch.Batch, NamedOp.NamedOp}
use Rattle.graph_version.specs.{Batches.batch_value, Versions.{VersionView, is_in}}
use Rattle.batch_apply.specs.declared.plans.Plan.{Plan}
use Rattle.batch_shards.specs.RowBlocks.{shared_numbers}
use Rattle.block_reclamation.specs.{Status.is_retired, declared.status.BlockStatus.TheVariants.{Free, Granted}}
use Rattle.block_pool.specs.Pools.{marked, AreFree}
use Rattle.store_steps.specs.{Desks.DeskView, Acceptances.desk_after}
use Rattle.desk.specs.{Applying.{IsPrepared, application_of}, Tables.IsTableOf, Kept.{IsKeptDesk, desk_with}}
use Rattle.desk.specs.declared.{applying.Prepared.Prepared, desks.Parts.Parts, ready.Load.Load}
use Rattle.graph_version.specs.Rows as rows

-- Granted

-- the desk of before, the batch's operations, and the numbers of the blocks that were granted for it
pub record GrantedView : Type 0 where
  pub old : DeskView
  pub ops : List NamedOp
  pub numbers : List ℕ

-- the desk of before: none of these numbers was granted yet
abbrev pub old_of : Parts → List ℕ → DeskView
old_of parts numbers = desk_with parts (marked numbers Free parts.pool)

-- blocks of these numbers were granted to the desk of before, with which all that it keeps would be kept
pub record IsGranted (parts : Parts) (numbers : List ℕ) : Type 0 where
  pub before : IsKeptDesk (old_of parts numbers) parts.journal.keeps parts.journal.room
  pub free : AreFree (old_of parts numbers).pool numbers
  pub granted : parts.pool ≡ marked numbers Granted (old_of parts numbers).pool

-- what is needed to apply a batch to this version: the plan, the batch, as many blocks as the plan's shards may take, each of
-- another number and none of the version's, and the table, if there is one, with the version's rows
pub record IsLoad (v : VersionView) (ops : List NamedOp) (plan : Plan) (load : Load) : Type 0 where
  pub plan_is : load.plan ≡ plan
  pub batch_is : batch_value load.batch ≡ ops
  pub enough : sum_by (λ n. n) plan.needs.items ≤ length load.blocks.items
  pub distinct : AllPairs ◌≢◌ (shared_numbers load.blocks.items)
  pub unlisted : All (λ n. is_in n (rows.numbers_of (rows.blocks_of v.rows)) ≡ false) (shared_numbers load.blocks.items)
  pub table : IsTableOf v.rows load.table

-- Ready

-- the desk of before, the batch's operations, and the desk that has accepted them
pub record ReadyView : Type 0 where
  pub old : DeskView
  pub ops : List NamedOp
  pub new : DeskView

abbrev pub ops_of : Prepared → List NamedOp
ops_of p = arc_value {X = Batch} p.batch

abbrev pub ready_of : Parts → List ℕ → Prepared → ReadyView
ready_of parts numbers p = record {
  old = old_of parts numbers;
  ops = ops_of p;
  new = desk_after (old_of parts numbers) (application_of (ops_of p) numbers p);
}

-- blocks were granted, the next version was prepared from them, and the journal has room for its entry, and then for as many as
-- blocks are retired
pub record IsReady (parts : Parts) (numbers : List ℕ) (p : Prepared) : Type 0 where
  pub granted : IsGranted parts numbers
  pub prepared : IsPrepared (old_of parts numbers).last (ops_of p) numbers p
  pub room : count_by is_retired parts.pool + vec_len p.dropped + 1 ≤ parts.journal.room
