use Rattle.std.proofs.Common.{◌++◌, ap, ◌∙◌}
use Rattle.epoch_core.proofs.sessions.concatenation.Goals as goal

pub returns : goal.returns
returns c = c.in_ok-extend_from_slice.ensures.items ∙ ap (λ edges. edges ++ c.args.second.now) c.in_ok-edges.ensures.items
