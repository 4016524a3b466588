use Rattle.std.proofs.{Common.{take, length, ap, ◌∙◌}, lemmas.{List.length_push, Slice.Zip.{zip_turn, zip_end}}}
use Rattle.std.specs.{Prelude.zip, List.filter_map}
use Rattle.graph_types.specs.Answer.{level_row}
use Rattle.graph_types.proofs.{AnalysisReplies.level_rows_more, ZippedRows.rows_all}
use Rattle.graph_model.proofs.analyses.name_levels.Goals as goal

pub loop-name-preserved : goal.loop-name-preserved
loop-name-preserved c =
    let turn =
    zip_turn c.args.names.now c.args.levels.now c.loop-name.yielded c.into_iter-name-iterator.result c.loop-name.name-iterator c.next.new.self
    c.next.result (cc) (cc) c.loop-name.yielded_by _ c.in-Some.is c.next.ensures.steps in
    level_rows_more c.args.names.now c.args.levels.now c.loop-name.rows.items c.push_level.new.rows.items _ _ c.in-Some.name.now
    c.in-Some.level.now c.loop-name.invariant c.in_ok-push_level.ensures (length_push c.loop-name.yielded _) turn

pub returns : goal.returns
returns c =
    let end =
    zip_end c.args.names.now c.args.levels.now c.loop-name.yielded c.into_iter-name-iterator.result c.loop-name.name-iterator
    c.next.new.self c.next.result (cc) (cc) c.loop-name.yielded_by c.in-None.is c.next.ensures.steps in
    c.loop-name.invariant ∙ ap (filter_map level_row)
    (rows_all c.args.names.now c.args.levels.now (take (length c.loop-name.yielded) (zip c.args.names.now c.args.levels.now)) _
    (λ i. take (length c.loop-name.yielded) (zip c.args.names.now c.args.levels.now)) end)
