use Rattle.std.proofs.Common.{◌≡◌, ℕ}
use Rattle.graph_version.specs.Rows.{row_of}
use Rattle.graph_version.specs.Drafts.{row_values, row_among}
use Rattle.graph_version.proofs.drafts.VersionDraft.put_rows.Given as goal

abbrev pub invariant-loop-row : goal.invariant-loop-row
invariant-loop-row l = (s : ℕ) → row_of l.all s ≡ row_among (row_values l.yielded) s (row_of l.initial.all s)
