use Rattle.std.proofs.Common.{arith}
use Rattle.epoch_core.{specs.Machine.to_enter, proofs.OneElement.stepped_past}
use Rattle.epoch_core.proofs.sessions.enter.Goals as goal

pub returns-then-session-len : goal.returns-then-session-len
returns-then-session-len c =
    stepped_past (to_enter c.args.last) c.args.sessions.now.items c.args.session (omega arith)
