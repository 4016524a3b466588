use Rattle.std.proofs.{Common.{◌<◌, ◌∙◌, ℕ, List, [], length, All, ap, subst, sym}, lemmas.List.length-replicate}
use Rattle.graph_types.specs.declared.ids.Edge.{Edge}
use Rattle.block_reclamation.specs.declared.status.BlockStatus.TheVariants.{Free}
use Rattle.epoch_core.specs.{Worlds.MachineState, Opened.opened_over}
use Rattle.epoch_core.proofs.start.opened_parts.Goals as goal

pub open_over-requires-clause-heap : goal.open_over-requires-clause-heap
open_over-requires-clause-heap c = subst (λ n. All (λ (l : ℕ × List Edge). l.0 < n) c.args.lists.now)
    (sym (ap (λ (s : MachineState). length s.world.heap) c.in_ok-parts.ensures ∙ length-replicate c.args.blocks [])) c.requires

pub open_over-requires-clause-status : goal.open_over-requires-clause-status
open_over-requires-clause-status c = subst (λ n. All (λ (l : ℕ × List Edge). l.0 < n) c.args.lists.now)
    (sym (ap (λ (s : MachineState). length s.world.status) c.in_ok-parts.ensures ∙ length-replicate c.args.blocks Free)) c.requires

pub returns : goal.returns
returns c = c.in_ok-open_over.ensures
    ∙ ap (λ (s : MachineState). opened_over s c.args.content.now c.args.lists.now) c.in_ok-parts.ensures
