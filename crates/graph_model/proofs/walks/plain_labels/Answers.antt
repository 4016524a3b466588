use Rattle.std.{proofs.{Common.{◌≡◌, length, ◌∙◌, sym, ap, ℕ, List, subst, drop}, lemmas.List.take_at}, specs.List.range_with_len}
use Rattle.graph_types.specs.{Graph.graph_of, Analyses.AreLabels, Arcs.two_way}
use Rattle.graph_types.proofs.ArcTables.{labels_within, labels_few, labels_done}
use Rattle.graph_model.proofs.walks.plain_labels.Goals as goal

pub settle-requires-clause-within : goal.settle-requires-clause-within
settle-requires-clause-within c =
    labels_within c.args.filter c.args.content.now c.requires c.deref-2.result.now c.deref_mut.result.now
    (c.deref-2.ensures.value ∙ c.in_ok-arcs-2.ensures ∙ ap two_way (c.deref.ensures.value ∙ c.in_ok-arcs.ensures))
    (c.deref_mut.ensures.value ∙ c.in_ok-numbers.ensures
    ∙ ap (λ (xs : List (List ℕ)). range_with_len 0 (length xs)) c.as_slice-count.ensures)

pub settle-requires-clause-few : goal.settle-requires-clause-few
settle-requires-clause-few c =
    labels_few c.args.filter c.args.content.now c.requires c.deref_mut.result.now
    (c.deref_mut.ensures.value ∙ c.in_ok-numbers.ensures
    ∙ ap (λ (xs : List (List ℕ)). range_with_len 0 (length xs)) c.as_slice-count.ensures)

pub returns : goal.returns
returns c =
    let done =
    labels_done c.args.filter c.args.content.now c.requires c.deref-2.result.now c.deref_mut.result.now c.settle.new.numbers
    (c.deref-2.ensures.value ∙ c.in_ok-arcs-2.ensures ∙ ap two_way (c.deref.ensures.value ∙ c.in_ok-arcs.ensures))
    (c.deref_mut.ensures.value ∙ c.in_ok-numbers.ensures
    ∙ ap (λ (xs : List (List ℕ)). range_with_len 0 (length xs)) c.as_slice-count.ensures)
    c.settle.ensures.lowered c.settle.ensures.closed in
    let long : length c.settle.new.numbers ≡ c.in_ok-numbers.numbers.len = c.settle.auto.numbers ∙ c.deref_mut.ensures.len in
    subst (AreLabels c.args.filter (graph_of c.args.content.now))
    (sym
    (take_at c.settle.new.numbers (drop (length c.settle.new.numbers) c.in_ok-numbers.numbers.items) c.in_ok-numbers.numbers.len
    long)) done
