-- Each content has levels, labels and core numbers.
use Rattle.std.{proofs.{Common.{length, map}, lemmas.List.FromFn.length-range_with_len}, specs.List.range_with_len}
use Rattle.graph_types.specs.{Graph.graph_in, Tables.HaveSomeTable, Arcs.{arcs_of, two_way, level_start}}
use Rattle.graph_types.specs.Arcs.{level_below}
use Rattle.graph_types.proofs.Arcs.{arc_leads, leads_arc, arcs_within, arc_joins, joins_arc, two_way_within}
use Rattle.graph_types.proofs.{Cores.cores_by_arcs, Settling.{some_settled, settled_levels, settled_labels, level_start_long}}

pub some_table : HaveSomeTable
some_table = record {
  levels = λ f limits c is source h.
      let arcs = arcs_of f c.edges in
      let n = length c.names in
      let r = some_settled arcs 1 (level_start n source) (rw (level_start_long n source) (arcs_within f c is)) in (
        map (level_below n) r.0,
        settled_levels f (graph_in limits c) source arcs n r.0 (leads_arc f c is) (arc_leads f c is) (arcs_within f c is) h r.1 r.2,
      );
  labels = λ f limits c is.
      let arcs = two_way (arcs_of f c.edges) in
      let n = length c.names in
      let r = some_settled arcs 0 (range_with_len 0 n) (rw (length-range_with_len 0 n) (two_way_within f c is)) in
      (r.0, settled_labels f (graph_in limits c) arcs n r.0 (joins_arc f c is) (arc_joins f c is) r.1 r.2);
  cores = λ f limits c is. cores_by_arcs f (graph_in limits c) (length c.names) (two_way (arcs_of f c.edges)) (joins_arc f c is)
      (arc_joins f c is) (two_way_within f c is);
}
