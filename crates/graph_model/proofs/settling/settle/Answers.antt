use Rattle.std.proofs.Common.{subst, sym}
use Rattle.graph_types.specs.Arcs.{AreWithin}
use Rattle.graph_types.proofs.Settling.{lowered_start}
use Rattle.graph_model.proofs.settling.settle.Goals as goal

pub rounds-init : goal.rounds-init
rounds-init c = record { few = c.requires.few; lowered = lowered_start c.args.arcs.now c.args.step c.args.numbers.now }

-- The searches of the rest are long.

pub lower_once-requires-clause-within : goal.lower_once-requires-clause-within
lower_once-requires-clause-within c = subst (λ n. AreWithin n c.args.arcs.now) (sym c.rounds.auto.numbers) c.requires.within

pub lower_once-requires-clause-few : goal.lower_once-requires-clause-few
lower_once-requires-clause-few c = c.rounds.invariant.few

pub lower_once-requires-clause-step : goal.lower_once-requires-clause-step
lower_once-requires-clause-step c = c.requires.step

pub rounds-smaller : goal.rounds-smaller
rounds-smaller c = c.lower_once.ensures.falls c.rounds-test.true

pub rounds-preserved : goal.rounds-preserved
rounds-preserved c = record {
  few = c.lower_once.ensures.few;
  lowered = c.lower_once.ensures.lowered c.args.numbers.now c.rounds.invariant.lowered;
}

pub returns-clause-lowered : goal.returns-clause-lowered
returns-clause-lowered c = c.lower_once.ensures.lowered c.args.numbers.now c.rounds.invariant.lowered

pub returns-clause-closed : goal.returns-clause-closed
returns-clause-closed c = c.lower_once.ensures.closed c.rounds-test.false
