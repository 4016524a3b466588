-- No event changes a version that there is.
use Rattle.std.proofs.Common.{◌≡◌, ℕ, ◌≤◌, Bool, List, [], ◌∷◌, refl, sym, subst, ◌∙◌, arith}
use Rattle.std.proofs.{lemmas.Grind.common_steps}
use Rattle.std.specs.{Prelude.if◌then◌else◌, Option.{option_and_then}}
use Rattle.std.specs.declared.option.Option.{Option, TheVariants.{None, Some}}
use Rattle.graph_types.proofs.Cases.{option_map_some}
use Rattle.epoch_core.specs.declared.{events.Event.Event, session_states.SessionState.SessionState}
use Rattle.epoch_core.specs.declared.events.Event.TheVariants.{Take, Fill, Post, Floor, Recycle, Pin, Enter, Settle, Ask, Read, Reply}
use Rattle.epoch_core.specs.declared.events.Event.TheVariants.{Release}
use Rattle.epoch_core.specs.{Machine.{move, step, with_heap, with_status}, Posting.{can_post, version_by}, Posts.posted}
use Rattle.epoch_core.specs.{Versions.version_at, Worlds.{World, last_number}}
use Rattle.epoch_core.proofs.{Changes.{length_next, version_before}, Moves.{Moved, floored, moved}}
use Rattle.store_steps.specs.Steps.{all_done}

pub record KeepsVersions (old new : World) : Type 0 where
  pub last : last_number old ≤ last_number new
  pub version : (n : ℕ) → n ≤ last_number old → version_at new.opening new.versions n ≡ version_at old.opening old.versions n

pub same_versions : (w : World) → KeepsVersions w w
same_versions w = record { last = omega arith; version = λ n low. refl }

both_keep : (a b c : World) → KeepsVersions a b → KeepsVersions b c → KeepsVersions a c
both_keep a b c first second = record {
  last = omega (arith, first.last, second.last);
  version = λ n low. second.version n (omega (arith, low, first.last)) ∙ first.version n low;
}

keeps_moved : (w after : World) (s : ℕ) (change : SessionState → Option SessionState) → move w s change ≡ Some after
    → KeepsVersions w after
keeps_moved w after s change is =
    let m : Moved w s change after = moved w s change after is in
    subst (KeepsVersions w) (sym m.result) (record { last = omega arith; version = λ n low. refl })

keeps_posted : (t : Bool) (w new after : World) → KeepsVersions w new → (if t then Some new else None) ≡ Some after
    → KeepsVersions w after
keeps_posted t w new after keeps is = grind (arith, common_steps)

keeps_step : (w after : World) (e : Event) → step w e ≡ Some after → KeepsVersions w after
keeps_step w after (Take b) is =
    let whole = option_map_some (with_status w) _ after is in
    subst (KeepsVersions w) (sym whole.2) (record { last = omega arith; version = λ n low. refl })
keeps_step w after (Fill b edges) is =
    let whole = option_map_some (with_heap w) _ after is in
    subst (KeepsVersions w) (sym whole.2) (record { last = omega arith; version = λ n low. refl })
keeps_step w after (Post batch blocks) is =
    let v = version_by w.opening w.versions batch blocks in
    keeps_posted (can_post w.opening w.heap w.status w.versions batch blocks) w (posted w batch blocks) after
    (record {
      last = (let next = length_next w.versions v in omega (arith, next));
      version = λ n low. version_before w.opening w.versions v n low;
    }) is
keeps_step w after Floor is =
    let e : floored w ≡ after = cc in subst (KeepsVersions w) e (record { last = omega arith; version = λ n low. refl })
keeps_step w after (Recycle b) is =
    let whole = option_map_some (with_status w) _ after is in
    subst (KeepsVersions w) (sym whole.2) (record { last = omega arith; version = λ n low. refl })
keeps_step w after (Pin s) is = keeps_moved w after s _ is
keeps_step w after (Enter s) is = keeps_moved w after s _ is
keeps_step w after (Settle s) is = keeps_moved w after s _ is
keeps_step w after (Ask s request) is = keeps_moved w after s _ is
keeps_step w after (Read s) is = keeps_moved w after s _ is
keeps_step w after (Reply s) is = keeps_moved w after s _ is
keeps_step w after (Release s) is = keeps_moved w after s _ is

-- nor do several that are done
pub done_keeps : (events : List Event) (w after : World) → all_done events w ≡ Some after → KeepsVersions w after
done_keeps [] w after is = let same : w ≡ after = cc in subst (KeepsVersions w) same (same_versions w)
done_keeps (e ∷ es) w after is =
    elim (step w e) as (λ o. step w e ≡ o → option_and_then (all_done es) o ≡ Some after → KeepsVersions w after) [
      | None ↦ λ at h. cc
      | Some next ↦ λ at h. both_keep w next after (keeps_step w next e at) (done_keeps es next after h)
    ] refl is
