use Rattle.std.proofs.Common.{◌<◌, ◌^◌, arith}
use Rattle.graph_types.proofs.TableSums.{edges_more, sum_all}
use Rattle.script_lines.proofs.tables.edges_of.Goals as goal

pub loop-vertex-preserved : goal.loop-vertex-preserved
loop-vertex-preserved c =
    let edge : c.from-edges.result < 2 ^ 32 = omega (arith, c.from-edges.ensures, c.loop-vertex-test.element_fits) in (
      edges_more c.args.names.now.names c.args.degrees.now c.loop-vertex.edges c.loop-vertex.vertex c.from-edges.result _
          c.loop-vertex.invariant.0 c.from-edges.ensures
          (omega (arith, c.loop-vertex-test.true, c.min-count.ensures, c.len.ensures.value)),
      omega (arith, edge, c.loop-vertex.invariant.1),
    )

pub returns : goal.returns
returns c =
    sum_all c.args.names.now.names c.args.degrees.now (λ entry. entry.1.outgoing) c.loop-vertex.edges c.loop-vertex.vertex
    c.loop-vertex.invariant.0
    (omega (arith, c.loop-vertex.auto.vertex-end, c.loop-vertex-test.false, c.min-count.ensures, c.len.ensures.value))
