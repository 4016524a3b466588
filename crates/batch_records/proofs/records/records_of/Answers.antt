use Rattle.std.proofs.Common.{◌++◌, ◌∙◌, ap, List, ℕ, sym}
use Rattle.std.proofs.lemmas.List.{take_all}
use Rattle.csv.specs.Writing.{default_writer, row_text}
use Rattle.batch_records.specs.Texts.{record_fields, records_text}
use Rattle.batch_records.proofs.Rows.{records_more}
use Rattle.batch_records.proofs.records.records_of.Goals as goal

pub loop-op-preserved : goal.loop-op-preserved
loop-op-preserved c =
    c.in_ok-push_record.ensures
    ∙ (ap (λ (t : List ℕ). t ++ row_text default_writer (record_fields c.op-item.result)) c.loop-op.invariant
    ∙ sym (records_more c.ops-ops.result.now c.loop-op.op-index c.op-item.result c.loop-op-test.true c.op-item.is))

pub returns : goal.returns
returns c =
    let all = take_all c.loop-op.op-index c.ops-ops.result.now c.loop-op-test.false in
    c.loop-op.invariant ∙ ap records_text (all ∙ c.ops-ops.ensures.ops)
