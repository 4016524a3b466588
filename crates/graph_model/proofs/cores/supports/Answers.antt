use Rattle.std.{proofs.Common.{ℕ, ◌<◌, ◌+◌, ◌∙◌, ap, sym, subst, length, get_or, set, arith, rules}, specs.Prelude.count_by}
use Rattle.std.proofs.lemmas.List.{get_or_default, take_all}
use Rattle.graph_model.specs.Links as definition
use Rattle.graph_model.proofs.Rounds.{IsCount, count_room, count_kept, count_counted}
use Rattle.graph_model.proofs.cores.supports.Goals.{then-numbers-link, else-numbers-link}
use Rattle.graph_model.proofs.cores.supports.Goals as goal

pub overflow_add-index_mut : goal.overflow_add-index_mut
overflow_add-index_mut c =
    let none : ℕ × ℕ = (0, 0) in
    let counts = c.loop-link.supports.items in
    let i = c.loop-link.link-index in
    let link = get_or c.args.links.now i none in
    let long = c.loop-link.invariant.size in
    let inside : link.0 < length counts = (let w = (c.requires i none c.loop-link-test.true).0 in omega arith) in
    let room = count_room c.args.links.now c.args.numbers.now counts i link.0 c.loop-link.invariant in
    let same = get_or_default counts link.0 c.index_mut.result.now 0 inside in
    let is = c.index_mut.ensures.value in
    let lt = c.loop-link-test.true in
    omega arith

-- The searches of the rest are long.

pub returns-in_err-supports-clause-size : goal.returns-in_err-supports-clause-size
returns-in_err-supports-clause-size c = search rules

pub returns-in_err-supports-clause-counted : goal.returns-in_err-supports-clause-counted
returns-in_err-supports-clause-counted c = search rules

pub returns-clause-size : goal.returns-clause-size
returns-clause-size c = c.loop-link.invariant.size

pub returns-clause-counted : goal.returns-clause-counted
returns-clause-counted c v =
    c.loop-link.invariant.each v
    ∙ ap (count_by (definition.supports c.args.numbers.now v)) (take_all c.loop-link.link-index c.args.links.now (omega arith))

pub loop-link-preserved : goal.loop-link-preserved
loop-link-preserved c =
    let none : ℕ × ℕ = (0, 0) in
    let links = c.args.links.now in
    let numbers = c.args.numbers.now in
    let counts = c.loop-link.supports.items in
    let i = c.loop-link.link-index in
    let from = (get_or links i none).0 in
    let long = c.loop-link.invariant.size in
    let inside : from < length counts = (let w = (c.requires i none c.loop-link-test.true).0 in omega arith) in
    elim c.if-numbers-link.branch [
      | then-numbers-link w ↦ rw w.supports-is
          (subst (λ n. IsCount links numbers (set counts from (n + 1)) (i + 1))
          (sym (w.index_mut.ensures.value ∙ get_or_default counts from w.index_mut.result.now 0 inside))
          (count_counted links numbers counts i none c.requires c.loop-link.invariant c.loop-link-test.true
          w.if-numbers-link.true))
      | else-numbers-link w ↦ rw w.supports-is
          (count_kept links numbers counts i none c.loop-link.invariant c.loop-link-test.true w.if-numbers-link.false)
    ]
