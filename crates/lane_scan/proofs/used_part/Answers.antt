use Rattle.std.proofs.Common.{arith}
use Rattle.lane_scan.proofs.UsedParts.{past_highest, used_first, used_whole}
use Rattle.lane_scan.proofs.used_part.Goals as goal

pub returns-then-end-column : goal.returns-then-end-column
returns-then-end-column g c =
    used_first c.args.mask _ c.args.column.now (omega arith)
    (λ place above within set. past_highest c.args.mask place (omega arith) (omega arith) set)

pub returns-else-end-column : goal.returns-else-end-column
returns-else-end-column g c = used_whole c.args.mask c.args.column.now
