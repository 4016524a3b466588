use Rattle.std.proofs.Common.{refl, subst}
use Rattle.epoch_core.specs.{Blocks.Stepped, Blocks.filled_heap, declared.events.Event.TheVariants.Fill, Worlds.MachineState}
use Rattle.epoch_core.{specs.Cores.state_of, specs.Machine.with_heap, proofs.Stepping.steps_by}
use Rattle.epoch_core.proofs.advancing.fill.Goals as goal

pub returns-clause-steps : goal.returns-clause-steps
returns-clause-steps c =
    let old : MachineState = state_of c.args.parts.now in
    steps_by old (Fill c.args.block c.args.edges.now) (Fill c.args.block c.args.edges.now) (with_heap old.world)
    (filled_heap old.world.status old.world.heap c.args.block c.args.edges.now) c.in_ok-step.step old.world.heap
    c.fill_block.new.heap.items refl refl refl refl
    (subst (λ status. Stepped (filled_heap status old.world.heap c.args.block c.args.edges.now) c.in_ok-step.step old.world.heap
    c.fill_block.new.heap.items) c.as_slice.ensures.value c.in_ok-step.ensures.filled)
