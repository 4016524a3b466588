use Rattle.std.proofs.Common.{arith}
use Rattle.lane_scan.proofs.UsedParts.{past_highest}
use Rattle.edge_block.proofs.columns.used_places.Goals as goal

pub returns-clause-past : goal.returns-clause-past
returns-clause-past c = λ place above set. past_highest c.args.live place (omega arith) (omega arith) set
