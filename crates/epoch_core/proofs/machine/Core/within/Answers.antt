use Rattle.std.proofs.Common.{sym, subst}
use Rattle.epoch_core.{specs.Sound.IsCore, specs.Worlds.IsStart, proofs.Steps.start_is_start, proofs.Cores.core_start}
use Rattle.epoch_core.proofs.machine.Core.within.Goals as goal

pub invariant_of-result : goal.invariant_of-result
invariant_of-result c = subst IsCore (sym c.in_ok-parts.ensures)
    (core_start c.args.limits c.args.sessions c.args.blocks c.requires.few_sessions)

pub returns-clause-starts : goal.returns-clause-starts
returns-clause-starts c = subst IsStart (sym c.in_ok-parts.ensures) (start_is_start c.args.limits c.args.sessions c.args.blocks)
