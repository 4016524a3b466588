-- A shared batch as its operations.
use Rattle.std.specs.{Prelude.List, Arc.arc_value, declared.{sync.Arc.Arc, alloc.Global.Global}}
use Rattle.graph_types.specs.declared.batches.{Batch.Batch, NamedOp.NamedOp}

abbrev pub batch_value : Arc Batch Global → List NamedOp
batch_value batch = arc_value {X = Batch} batch
