-- The batches that are left leave of the content so far what all of them leave of the empty one.
use Rattle.std.proofs.Common.{◌≡◌}
use Rattle.graph_types.specs.{Graph.graph_of, Graph.IsContentIn, Step.empty_graph, Step.left_by}
use Rattle.graph_types.specs.Limits.{standard_limits}
use Rattle.graph_version.specs.BatchLending.{batches_left}
use Rattle.store_drive.proofs.contents.content_of.Given as goal

abbrev pub invariant-loop-batch : goal.invariant-loop-batch
invariant-loop-batch l = record {
  content : IsContentIn standard_limits l.content;
  rest : left_by (batches_left l.batch-iterator) (graph_of l.content) ≡ left_by l.version.batches empty_graph;
}
