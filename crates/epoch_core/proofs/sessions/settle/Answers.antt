use Rattle.std.proofs.Common.{arith}
use Rattle.epoch_core.{specs.Machine.to_settle, proofs.OneElement.stepped_at, proofs.OneElement.stepped_past}
use Rattle.epoch_core.proofs.sessions.settle.Goals as goal

pub returns : goal.returns
returns c =
    stepped_at to_settle c.args.sessions.now.items c.args.session c.index_mut.result.now c.settle_state.result
    c.settle_state.new.state (omega arith) c.index_mut.ensures.value c.settle_state.ensures

pub returns-then-session-len : goal.returns-then-session-len
returns-then-session-len c =
    stepped_past to_settle c.args.sessions.now.items c.args.session (omega arith)
