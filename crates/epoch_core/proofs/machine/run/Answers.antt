use Rattle.std.proofs.Common.{◌≡◌, ◌<◌, ◌+◌, ◌-◌, ◌^◌, List, [], ◌∷◌, ◌++◌, length, take, sym, ap, subst, ◌∙◌, arith}
use Rattle.std.proofs.lemmas.List.{take_more}
use Rattle.graph_types.proofs.Numbers.{capped_more}
use Rattle.epoch_core.specs.{declared.events.Event.Event, Runs.Runs, Runs.count_of, Runs.done_in}
use Rattle.epoch_core.proofs.Cores.{runs_more, count_more}
use Rattle.epoch_core.proofs.machine.run.Goals as goal

pub loop-event-preserved : goal.loop-event-preserved
loop-event-preserved c =
    let lt : c.loop-event.event-index < length c.args.events.now = omega arith in
    let before : List Event = take c.loop-event.event-index c.args.events.now in
    let takes : take (c.loop-event.event-index + 1) c.args.events.now ≡ before ++ c.event-item.result ∷ [] =
    take_more c.args.events.now c.loop-event.event-index c.event-item.result lt
    ∙ ap (λ e. before ++ e ∷ []) (sym c.event-item.is) in
    record {
      ran = subst (λ es. Runs c.args.core.now es c.advance.new.self) (sym takes)
          (runs_more c.args.core.now c.loop-event.core c.advance.new.self before c.event-item.result c.in_ok-step.step
          c.loop-event.invariant.ran c.in_ok-step.ensures.steps);
      count = capped_more c.loop-event.done _ (done_in before c.args.core.now.world) _ (count_of c.in_ok-step.step)
          (2 ^ 32 - 1) c.loop-event.invariant.count
          (ap (λ es. done_in es c.args.core.now.world) takes
          ∙ count_more c.args.core.now c.loop-event.core c.advance.new.self before c.event-item.result c.in_ok-step.step
          c.loop-event.invariant.ran c.in_ok-step.ensures.steps)
          c.add_done-done.ensures;
      sessions = c.advance.ensures.sessions ∙ c.loop-event.invariant.sessions;
    }
