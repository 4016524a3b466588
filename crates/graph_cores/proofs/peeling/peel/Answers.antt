use Rattle.std.proofs.Common.{arith, ◌∙◌, ap}
use Rattle.graph_types.specs.Arcs.{at}
use Rattle.graph_types.proofs.ArcTables.{numbers_within, numbers_all}
use Rattle.graph_cores.proofs.RowSteps.{all_lengths}
use Rattle.graph_cores.proofs.peeling.peel.Goals as goal

pub rounds-requires-clause-degrees : goal.rounds-requires-clause-degrees
rounds-requires-clause-degrees c = λ v.
    ap (λ xs. at xs v) c.deref_mut-2.ensures.value
    ∙ all_lengths c.args.count c.args.rows.now c.in_ok-degrees.degrees.items c.requires.rows c.in_ok-degrees.ensures.long
    c.in_ok-degrees.ensures.each v

pub rounds-requires-clause-vertices_within : goal.rounds-requires-clause-vertices_within
rounds-requires-clause-vertices_within c = λ k d lt.
    let w = numbers_within c.args.count c.in_ok-vertices.vertices.items c.in_ok-vertices.ensures.long
    c.in_ok-vertices.ensures.each k d lt in
    let long = c.deref_mut-3.ensures.len ∙ c.in_ok-cores.ensures.len in
    omega arith

pub rounds-requires-clause-vertices : goal.rounds-requires-clause-vertices
rounds-requires-clause-vertices c = λ v lt.
    let long = c.deref_mut-3.ensures.len ∙ c.in_ok-cores.ensures.len in
    numbers_all c.args.count c.in_ok-vertices.vertices.items c.in_ok-vertices.ensures.long c.in_ok-vertices.ensures.each v
    (omega arith)
