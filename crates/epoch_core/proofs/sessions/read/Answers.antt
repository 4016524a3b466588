use Rattle.std.proofs.Common.{arith}
use Rattle.epoch_core.{specs.Machine.to_read, proofs.OneElement.stepped_at, proofs.OneElement.stepped_past}
use Rattle.epoch_core.proofs.sessions.read.Goals as goal

pub returns-clause-read : goal.returns-clause-read
returns-clause-read c =
    stepped_at (to_read c.args.opening.now c.args.heap.now c.args.versions.now) c.args.sessions.now.items c.args.session
    c.index_mut.result.now c.in_ok-step.step c.read_state.new.state (omega arith) c.index_mut.ensures.value
    c.in_ok-step.ensures.read

pub returns-then-session-len-clause-read : goal.returns-then-session-len-clause-read
returns-then-session-len-clause-read c =
    stepped_past (to_read c.args.opening.now c.args.heap.now c.args.versions.now) c.args.sessions.now.items c.args.session
    (omega arith)
