use Rattle.std.proofs.Common.{[]}
use Rattle.graph_version.specs.{Batches.batch_value, Versions.content}
use Rattle.batch_apply.proofs.Found.{nothing_found}
use Rattle.owned_desk.proofs.owned.OwnedDesk.begin.Goals as goal

pub begin_known-requires : goal.begin_known-requires
begin_known-requires c = record { known = (λ place. [], nothing_found (content c.args.self.desk.last).names (batch_value c.args.batch)) }
