use Rattle.std.proofs.Common.{ℕ, List, ap, leb, length}
use Rattle.epoch_core.proofs.replying.is_all_read.Goals as goal

pub returns : goal.returns
returns c = ap (λ (blocks : List ℕ). leb (length blocks) c.args.inquiry.now.next) c.blocks_at.ensures
