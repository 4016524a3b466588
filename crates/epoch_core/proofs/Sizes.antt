-- No event changes how many blocks and sessions there are.
use Rattle.std.proofs.Common.{◌≡◌, ℕ, Bool, List, [], ◌∷◌, length, refl, ◌∙◌, arith}
use Rattle.std.{proofs.lemmas.Grind.common_steps, specs.Prelude.if◌then◌else◌, specs.Option.option_map, specs.Option.unwrap_or}
use Rattle.std.specs.declared.option.Option.{Option, TheVariants.None, TheVariants.Some}
use Rattle.epoch_core.specs.{Machine.with_status, Machine.move, Machine.step, declared.session_states.SessionState.SessionState}
use Rattle.epoch_core.specs.{Runs.next_world, Runs.run, Worlds.World, Blocks.changed_at}
use Rattle.epoch_core.specs.declared.events.Event.{Event}
use Rattle.block_reclamation.specs.declared.status.BlockStatus.{BlockStatus}
use Rattle.graph_types.proofs.{Cases.option_map_some, Joined.length_enumerated}

pub record SameSizes (old new : World) : Type 0 where
  pub blocks : length new.status ≡ length old.status
  pub sessions : length new.sessions ≡ length old.sessions

same_size : (w : World) → SameSizes w w
same_size w = record { blocks = refl; sessions = refl }

size_changed : (w after : World) (b : ℕ) (change : BlockStatus → Option BlockStatus)
    → option_map (with_status w) (changed_at change w.status b) ≡ Some after → SameSizes w after
size_changed w after b change is = grind (arith, common_steps)

size_moved : (w after : World) (s : ℕ) (change : SessionState → Option SessionState) → move w s change ≡ Some after
    → SameSizes w after
size_moved w after s change is = grind (arith, common_steps)

size_if : (t : Bool) (w new after : World) → SameSizes w new → (if t then Some new else None) ≡ Some after → SameSizes w after
size_if t w new after same is = grind (arith, common_steps)

size_step : (w after : World) (e : Event) → step w e ≡ Some after → SameSizes w after
size_step w after e is = grind (arith, common_steps, size_changed, option_map_some, size_if, length_enumerated, size_moved)

pub size_next : (w : World) (e : Event) → SameSizes w (next_world w e)
size_next w e = elim (step w e) as (λ o. step w e ≡ o → SameSizes w
    (unwrap_or o w)) [ None ↦ λ _. same_size w | Some after ↦ λ is. size_step w after e is ] refl

pub size_run : (events : List Event) (w : World) → SameSizes w (run events w)
size_run [] w = same_size w
size_run (e ∷ es) w =
    let here : SameSizes w (next_world w e) = size_next w e in
    let rest : SameSizes (next_world w e) (run es (next_world w e)) = size_run es (next_world w e) in
    record { blocks = rest.blocks ∙ here.blocks; sessions = rest.sessions ∙ here.sessions }

pub blocks_run : (w : World) (events : List Event) → length (run events w).status ≡ length w.status
blocks_run w events = (size_run events w).blocks
