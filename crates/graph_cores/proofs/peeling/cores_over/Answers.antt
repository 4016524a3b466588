use Rattle.std.proofs.Common.{arith, length}
use Rattle.graph_types.proofs.Times.{apart_few}
use Rattle.graph_cores.{specs.Rows.neighbor_row, proofs.RowSteps.row_within}
use Rattle.graph_cores.proofs.peeling.cores_over.Goals as goal

pub peel-requires-clause-short : goal.peel-requires-clause-short
peel-requires-clause-short g c = λ v.
    let rows = c.in_ok-rows.rows in
    let n = length (g.E.ViewEdges.graph c.args.edges.now).names in
    let few = apart_few n (neighbor_row rows v) (c.in_ok-rows.ensures.neighbors.apart v)
    (row_within n rows.starts.items rows.ends.items v c.in_ok-rows.ensures.rows.within) in
    let is = c.vertex_count-count.ensures.is in
    let small = c.vertex_count-count.ensures.few in
    omega arith
