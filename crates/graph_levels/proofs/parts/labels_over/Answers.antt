use Rattle.std.proofs.{Common.{◌≡◌, length, ◌∙◌, sym, ap, subst, drop}, lemmas.List.{take_at, FromFn.length-range_with_len}}
use Rattle.graph_types.specs.Analyses.{IsTable, IsLabel}
use Rattle.graph_levels.proofs.Trees.{fresh_forest, fresh_sound}
use Rattle.graph_levels.proofs.parts.labels_over.Goals as goal

pub settle-requires-clause-forest : goal.settle-requires-clause-forest
settle-requires-clause-forest g c = fresh_forest c.vertex_count-count.result _
    (c.deref_mut.ensures.value ∙ c.in_ok-labels.ensures)

pub settle-requires-clause-long : goal.settle-requires-clause-long
settle-requires-clause-long g c = ap length (c.deref_mut.ensures.value ∙ c.in_ok-labels.ensures)
    ∙ length-range_with_len 0 c.vertex_count-count.result ∙ c.vertex_count-count.ensures.is

pub returns : goal.returns
returns g c =
    let f = g.R.ViewEdges.filter c.args.edges.now in
    let gr = g.R.ViewEdges.graph c.args.edges.now in
    let table = c.in_ok-settle.ensures.labels
    (fresh_sound f gr c.vertex_count-count.result _ (c.deref_mut.ensures.value ∙ c.in_ok-labels.ensures)) in
    let long : length c.settle.new.parents ≡ c.in_ok-labels.labels.len = c.settle.auto.parents ∙ c.deref_mut.ensures.len in
    subst (IsTable (length gr.names) (IsLabel f gr))
    (sym
    (take_at c.settle.new.parents (drop (length c.settle.new.parents) c.in_ok-labels.labels.items)
    c.in_ok-labels.labels.len long)) table
