-- The standard limits are below the wall.
use Rattle.std.proofs.Common.{ap}
use Rattle.graph_types.specs.Graph.{Graph}
use Rattle.graph_version.specs.Logs.{keeps_batches}
use Rattle.store_drive.proofs.contents.kept_batches.Goals as goal

pub returns : goal.returns
returns c = c.batches.ensures (ap (λ (g : Graph). keeps_batches g.limits) c.requires)
