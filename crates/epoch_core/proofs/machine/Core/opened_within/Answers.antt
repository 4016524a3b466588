use Rattle.std.proofs.Common.{sym, subst, arith}
use Rattle.epoch_core.{specs.{Sound.IsCore, Worlds.IsStart}, proofs.OpenedStart.{opened_is_start, opened_is_core}}
use Rattle.epoch_core.proofs.machine.Core.opened_within.Goals as goal

pub invariant_of-result : goal.invariant_of-result
invariant_of-result c = subst IsCore (sym c.in_ok-parts.ensures)
    (opened_is_core c.args.limits c.args.sessions c.args.blocks c.args.content.now c.args.lists.now c.requires.opening
    (omega (arith, c.requires.few_sessions)))

pub returns-clause-starts : goal.returns-clause-starts
returns-clause-starts c = subst IsStart (sym c.in_ok-parts.ensures)
    (opened_is_start c.args.limits c.args.sessions c.args.blocks c.args.content.now c.args.lists.now c.requires.opening)
