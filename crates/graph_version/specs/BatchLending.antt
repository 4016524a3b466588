-- Batches as a list lends them.
use Rattle.std.specs.Prelude.{List, drop}
use Rattle.graph_types.specs.declared.batches.NamedOp.{NamedOp}
use Rattle.graph_version.specs.declared.batches.BatchIter.{BatchIter}

-- the batches that are still to be lent
abbrev pub batches_left : BatchIter → List (List NamedOp)
batches_left it = drop it.place it.batches.now
