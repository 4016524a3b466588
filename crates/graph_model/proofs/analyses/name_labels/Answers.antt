use Rattle.std.proofs.Common.{◌≡◌, ◌<◌, length, sym, subst, ◌∙◌, ◌++◌, ◌∷◌, [], arith}
use Rattle.std.proofs.lemmas.{List.length_push, List.length-map, Slice.Zip.zip_turn, Slice.Zip.zip_end}
use Rattle.graph_types.specs.Answer.{names_of_vertices}
use Rattle.graph_types.proofs.{AnalysisReplies.label_turn, ZippedRows.{rows_more, rows_all}}
use Rattle.graph_model.proofs.analyses.name_labels.Goals as goal

pub loop-name-preserved : goal.loop-name-preserved
loop-name-preserved c =
    let names = c.args.names.now in
    let labels = c.args.labels.now in
    let turn =
    zip_turn names labels c.loop-name.yielded c.into_iter-name-iterator.result c.loop-name.name-iterator c.next.new.self
    c.next.result (cc) (cc) c.loop-name.yielded_by _ c.in-Some.is c.next.ensures.steps in
    let within : c.in-Some.label.now < length names =
    subst (λ v. v < length names) (sym (turn.3 0)) (c.requires (length c.loop-name.yielded) 0 turn.1) in
    let there =
    label_turn names labels (length c.loop-name.yielded) c.in-Some.name.now c.in-Some.label.now c.index-names-label.result turn
    within c.index-names-label.is in
    c.in_ok-push.ensures.items
    ∙ (λ i. c.loop-name.rows.items ++ (c.in_ok-clone.ensures.cases i, c.in_ok-clone-2.ensures.cases i) ∷ [])
    ∙ rows_more names (names_of_vertices names labels) c.loop-name.rows.items _ _ c.in-Some.name.now c.index-names-label.result
    c.loop-name.invariant (length_push c.loop-name.yielded _) there

pub returns : goal.returns
returns c =
    let end =
    zip_end c.args.names.now c.args.labels.now c.loop-name.yielded c.into_iter-name-iterator.result c.loop-name.name-iterator
    c.next.new.self c.next.result (cc) (cc) c.loop-name.yielded_by c.in-None.is c.next.ensures.steps in
    let long : length (names_of_vertices c.args.names.now c.args.labels.now) ≡ length c.args.labels.now = length-map c.args.labels.now _ in
    rows_all c.args.names.now (names_of_vertices c.args.names.now c.args.labels.now) c.loop-name.rows.items _ c.loop-name.invariant
    (omega arith)
