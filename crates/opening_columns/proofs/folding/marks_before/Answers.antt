use Rattle.std.proofs.Common.{w64, arith, IsTrue}
use Rattle.std.proofs.lemmas.{Int.to_z-of_z, Grind.common_steps}
use Rattle.graph_types.proofs.ChangedContents.{weight_fits_word}
use Rattle.opening_columns.specs.Puts.{put_key}
use Rattle.opening_columns.proofs.EdgeList.{last_none, last_other, last_same, last_in_range}
use Rattle.opening_columns.proofs.folding.marks_before.Goals as goal

pub returns-in_default-clause-stamp : goal.returns-in_default-clause-stamp
returns-in_default-clause-stamp c = last_none c.args.edges.now (put_key c.args.put.now) c.in_default.ensures.value

pub returns-then-not-is_on-clause-stamp : goal.returns-then-not-is_on-clause-stamp
returns-then-not-is_on-clause-stamp c =
    last_other c.args.edges.now c.in-Some.edge.now (put_key c.args.put.now) c.requires.edges c.requires.walls c.in-Some.ensures.value
    (λ same. let on : IsTrue c.is_on.result = c.is_on.ensures.1 same in grind (arith, common_steps))

pub returns-clause-stamp : goal.returns-clause-stamp
returns-clause-stamp c =
    let e = c.in-Some.edge.now in
    let on : IsTrue c.is_on.result = grind (arith, common_steps) in
    let range = last_in_range c.args.edges.now e (put_key c.args.put.now) c.requires.edges c.in-Some.ensures.value in
    let fits = to_z-of_z w64 e.weight (weight_fits_word e.weight range.weight) in
    last_same c.args.edges.now e (put_key c.args.put.now) _ c.requires.edges c.in-Some.ensures.value (c.is_on.ensures.0 on)
    (λ i. record { weight = fits i; first = e.first; recent = e.recent })
