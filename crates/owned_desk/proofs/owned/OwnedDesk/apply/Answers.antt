use Rattle.std.proofs.Common.{[]}
use Rattle.graph_version.specs.{Batches.batch_value, Versions.content}
use Rattle.batch_apply.proofs.Found.{nothing_found}
use Rattle.owned_desk.proofs.owned.OwnedDesk.apply.Goals as goal

pub apply_known-requires : goal.apply_known-requires
apply_known-requires c = record { known = (λ place. [], nothing_found (content c.args.self.now.desk.last).names (batch_value c.args.batch)) }
