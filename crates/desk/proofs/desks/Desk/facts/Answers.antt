use Rattle.std.proofs.Common.{subst}
use Rattle.store_steps.{specs.Desks.IsDesk, proofs.Dated.desk_dated}
use Rattle.desk.proofs.UsedBlocks.{used_blocks}
use Rattle.desk.proofs.desks.Desk.facts.Goals as goal

pub returns-clause-replays : goal.returns-clause-replays
returns-clause-replays c = subst IsDesk c.self.view_is c.self.invariant.desk

pub returns-clause-dated : goal.returns-clause-dated
returns-clause-dated c = desk_dated c.args.self.now (subst IsDesk c.self.view_is c.self.invariant.desk)

pub returns-clause-used : goal.returns-clause-used
returns-clause-used c = used_blocks c.args.self.now (subst IsDesk c.self.view_is c.self.invariant.desk)
