use Rattle.epoch_core.{specs.Cores.state_of, proofs.Cores.core_kept, proofs.Cores.steps_size}
use Rattle.epoch_core.proofs.advancing.keep.Goals as goal

pub returns-clause-kept : goal.returns-clause-kept
returns-clause-kept c = core_kept (state_of c.args.parts.now)
    (state_of c.advance.new.parts) c.args.event.now c.in_ok-outcome.outcome c.requires c.in_ok-outcome.ensures.steps
    c.in_ok-outcome.ensures.contents

pub returns-clause-sessions : goal.returns-clause-sessions
returns-clause-sessions c = steps_size (state_of c.args.parts.now)
    (state_of c.advance.new.parts) c.args.event.now c.in_ok-outcome.outcome c.in_ok-outcome.ensures.steps
