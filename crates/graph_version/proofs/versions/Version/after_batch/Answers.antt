use Rattle.std.proofs.Common.{subst}
use Rattle.graph_version.specs.{Batches.batch_value, Drafts.{DraftView, IsNextDraft, ReplacesRows, row_values}}
use Rattle.graph_version.proofs.versions.Version.after_batch.Goals.{In_ok-draft-2}
use Rattle.graph_version.proofs.versions.Version.after_batch.Goals as goal

next : (c : In_ok-draft-2) → IsNextDraft c.args.self.now c.args.names c.args.kinds (row_values c.args.rows.items)
    (batch_value c.args.batch) c.in_ok-draft-2.draft
next c = record {
  put = c.in_ok-put_rows.field-0;
  rows_are = subst (λ (d : DraftView). ReplacesRows (row_values c.args.rows.items) d c.in_ok-put_rows.field-0)
      c.in_ok-draft.ensures c.in_ok-put_rows.ensures;
  draft_is = c.in_ok-draft-2.ensures;
}

pub finish_counted-requires-clause-whole : goal.finish_counted-requires-clause-whole
finish_counted-requires-clause-whole c =
    c.requires.whole _ (next (goal.at.finish_counted-requires-clause-whole c).In_ok-draft-2)

pub finish_counted-requires-clause-edges : goal.finish_counted-requires-clause-edges
finish_counted-requires-clause-edges c =
    c.requires.edges _ (next (goal.at.finish_counted-requires-clause-edges c).In_ok-draft-2)

pub returns : goal.returns
returns c = (c.in_ok-draft-2.draft, next (goal.at.returns c).In_ok-draft-2, c.finish_counted.ensures)
