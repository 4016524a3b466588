-- What applying a batch to a version leaves, and which rows it wrote.
use Rattle.std.specs.Prelude.{ℕ, List}
use Rattle.graph_types.specs.declared.batches.NamedOp.{NamedOp}
use Rattle.graph_version.specs.{Differences.DifferAt, Versions.VersionView}
use Rattle.batch_apply.specs.{Applied.IsApplied, declared.applied.Rewritten.Rewritten}

-- the batch was applied, and the rows of all other sources than those named are the version's
pub record IsRewritten (v : VersionView) (ops : List NamedOp) (numbers : List ℕ) (r : Rewritten) : Type 0 where
  pub applied : IsApplied v ops numbers r.applied
  pub rows : DifferAt r.sources.items v.rows r.applied.version.rows
