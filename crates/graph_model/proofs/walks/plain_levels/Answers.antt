use Rattle.std.proofs.{Common.{◌≡◌, length, map, ◌∙◌, sym, ap, ℕ, List, subst, drop, Option}, lemmas.List.take_at}
use Rattle.std.{proofs.lemmas.Result.IfOk-weaker, specs.declared.{alloc.Global.Global, vec.Vec.Vec}}
use Rattle.graph_types.specs.{Graph.graph_of, Analyses.AreLevels, Arcs.level_start, Arcs.level_below}
use Rattle.graph_types.proofs.ArcTables.{levels_within, levels_few, levels_done}
use Rattle.graph_model.proofs.walks.plain_levels.Goals as goal

pub settle-requires-clause-within : goal.settle-requires-clause-within
settle-requires-clause-within c =
    levels_within c.args.filter c.args.content.now c.requires.content c.args.source.0 c.deref.result.now c.deref_mut.result.now
    (c.deref.ensures.value ∙ c.in_ok-arcs.ensures)
    (c.deref_mut.ensures.value ∙ c.in_ok-numbers.ensures
    ∙ ap (λ (xs : List (List ℕ)). level_start (length xs) c.args.source.0) c.as_slice-count.ensures)

pub settle-requires-clause-few : goal.settle-requires-clause-few
settle-requires-clause-few c =
    levels_few c.args.filter c.args.content.now c.requires.content c.args.source.0 c.deref_mut.result.now
    (c.deref_mut.ensures.value ∙ c.in_ok-numbers.ensures
    ∙ ap (λ (xs : List (List ℕ)). level_start (length xs) c.args.source.0) c.as_slice-count.ensures)

pub returns : goal.returns
returns c =
    let f = c.args.filter in
    let content = c.args.content.now in
    let count : length c.as_slice-count.result.now ≡ length content.names = ap length c.as_slice-count.ensures in
    let done =
    levels_done f content c.requires.content c.args.source.0 c.deref.result.now c.deref_mut.result.now c.settle.new.numbers
    c.requires.listed
    (c.deref.ensures.value ∙ c.in_ok-arcs.ensures)
    (c.deref_mut.ensures.value ∙ c.in_ok-numbers.ensures
    ∙ ap (λ (xs : List (List ℕ)). level_start (length xs) c.args.source.0) c.as_slice-count.ensures)
    c.settle.ensures.lowered c.settle.ensures.closed in
    let long : length c.settle.new.numbers ≡ c.in_ok-numbers.numbers.len = c.settle.auto.numbers ∙ c.deref_mut.ensures.len in
    let read : c.deref-2.result.now ≡ c.settle.new.numbers =
    c.deref-2.ensures.value ∙ take_at c.settle.new.numbers
    (drop (length c.settle.new.numbers) c.in_ok-numbers.numbers.items) c.in_ok-numbers.numbers.len long in
    IfOk-weaker c.reached.result (λ (levels : Vec (Option ℕ) Global). levels.items
    ≡ map (level_below (length c.as_slice-count.result.now)) c.deref-2.result.now)
    (λ (levels : Vec (Option ℕ) Global). AreLevels f (graph_of content) c.args.source.0 levels.items)
    (λ levels e. subst (AreLevels f (graph_of content) c.args.source.0)
    (sym (e ∙ ap (map (level_below (length c.as_slice-count.result.now))) read
    ∙ ap (λ n. map (level_below n) c.settle.new.numbers) count)) done)
    c.reached.ensures
