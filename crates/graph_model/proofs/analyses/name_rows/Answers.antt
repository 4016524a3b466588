use Rattle.std.proofs.{Common.{ap, ◌∙◌, ◌++◌, ◌∷◌, []}, lemmas.{List.length_push, Slice.Zip.{zip_turn, zip_end}}}
use Rattle.graph_types.proofs.ZippedRows.{rows_more, rows_all}
use Rattle.graph_model.proofs.analyses.name_rows.Goals as goal

pub loop-name-preserved : goal.loop-name-preserved
loop-name-preserved g c =
    let turn =
    zip_turn c.args.names.now c.args.values.now c.loop-name.yielded c.into_iter-name-iterator.result c.loop-name.name-iterator
    c.next.new.self c.next.result (cc) (cc) c.loop-name.yielded_by _ c.in-Some.is c.next.ensures.steps in
    c.in_ok-push.ensures.items ∙ ap (λ name. c.loop-name.rows.items ++ (name, c.in-Some.value.now) ∷ [])
    c.in_ok-clone.ensures.cases ∙ rows_more c.args.names.now c.args.values.now c.loop-name.rows.items _ _ c.in-Some.name.now
    c.in-Some.value.now c.loop-name.invariant (length_push c.loop-name.yielded _) turn

pub returns : goal.returns
returns g c =
    let end =
    zip_end c.args.names.now c.args.values.now c.loop-name.yielded c.into_iter-name-iterator.result c.loop-name.name-iterator
    c.next.new.self c.next.result (cc) (cc) c.loop-name.yielded_by c.in-None.is c.next.ensures.steps in
    rows_all c.args.names.now c.args.values.now c.loop-name.rows.items _ c.loop-name.invariant end
