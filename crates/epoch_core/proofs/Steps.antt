-- Each event keeps what is sound, and so does each run.
use Rattle.std.proofs.Common.{◌≡◌, ◌<◌, ◌+◌, inl, inr, length, ℕ, ◌≤◌, Bool, true, false, List, [], ◌∷◌, get_or}
use Rattle.std.proofs.{Common.{replicate, refl, sym, ap, subst, ◌∙◌, arith}, lemmas.{Grind.common_steps, Bool.cases_lt}}
use Rattle.std.{proofs.lemmas.List.length-replicate, specs.Prelude.{slice_get, if◌then◌else◌}}
use Rattle.std.{proofs.lemmas.Option.slice_get_past, specs.Option.option_map, specs.Option.unwrap_or}
use Rattle.std.specs.declared.option.Option.{Option, TheVariants.None, TheVariants.Some}
use Rattle.graph_types.specs.Limits.{LimitsView}
use Rattle.graph_types.{specs.declared.ids.Edge.Edge, proofs.Keys.once_none}
use Rattle.block_reclamation.specs.declared.status.BlockStatus.{BlockStatus}
use Rattle.block_reclamation.specs.Status.{is_at, is_among, is_used}
use Rattle.block_reclamation.proofs.{ListedNumbers.listed_within, OneStatus.free_at}
use Rattle.block_reclamation.proofs.OneStatus.{used_first, dated_first, at_first}
use Rattle.graph_types.proofs.{Cases.{option_map_some, true_or_false}, Numbers.below}
use Rattle.epoch_core.specs.declared.{session_states.SessionState.TheVariants.Idle, events.Event.{Event, TheVariants.Reply}}
use Rattle.epoch_core.specs.declared.events.Event.TheVariants.{Release, Take, Fill, Post, Floor, Recycle, Pin, Enter, Settle, Ask}
use Rattle.epoch_core.specs.{declared.events.Event.TheVariants.Read, Posts.posted, Worlds.{IsStart, World, last_number, session_of}}
use Rattle.epoch_core.specs.Worlds.{start_in}
use Rattle.epoch_core.specs.Versions.{blocks_at}
use Rattle.epoch_core.specs.{Worlds.MachineState, Sound.{IsDatedAt, IsListedAsDated, IsListedAt, IsNamed, IsSound}, Blocks.{changed_at, status_taken, reclaimed}}
use Rattle.epoch_core.specs.{Runs.{next_world, run}, Posting.can_post, Machine.{step, with_heap, with_status}}
use Rattle.epoch_core.proofs.Lists.{ChangedAt, changed_at-some}
use Rattle.epoch_core.proofs.Keeping.{FreesNone, frees_taken, frees_recycled, sound_status, Fills, fills, sound_fill}
use Rattle.epoch_core.proofs.{Posted.sound_posted, Moves.{floored, sound_move, keeps_pin}}
use Rattle.epoch_core.proofs.Moves.{keeps_enter, keeps_settle, keeps_ask, keeps_read, keeps_reply, keeps_release, sound_floor}

sound_changed : (w after : World) (b : ℕ) (change : BlockStatus → Option BlockStatus) → IsSound w
    → ((s t : BlockStatus) → change s ≡ Some t → FreesNone w.copy s t)
    → option_map (with_status w) (changed_at change w.status b) ≡ Some after → IsSound after
sound_changed w after b change sound frees is =
    let whole = option_map_some (with_status w) _ after is in
    let c : ChangedAt change w.status b whole.0 = changed_at-some change w.status b whole.0 whole.1 in
    subst IsSound (sym (whole.2 ∙ ap (with_status w) c.result))
    (sound_status w b c.before c.after sound c.found (frees c.before c.after c.changed))

sound_filled : (w after : World) (b : ℕ) (edges : List Edge) → IsSound w → step w (Fill b edges) ≡ Some after → IsSound after
sound_filled w after b edges sound is =
    let whole = option_map_some (with_heap w) _ after is in
    let f : Fills w.status w.heap b edges whole.0 = fills w.status w.heap b edges whole.0 whole.1 in
    subst IsSound (sym (whole.2 ∙ ap (with_heap w) f.result)) (sound_fill w b edges sound f.granted)

sound_if : (t : Bool) (w after : World) → (t ≡ true → IsSound w) → (if t then Some w else None) ≡ Some after → IsSound after
sound_if t w after sound is = grind (arith, common_steps)

pub sound_step : (w after : World) (e : Event) → IsSound w → step w e ≡ Some after → IsSound after
sound_step w after (Take b) sound is = sound_changed w after b status_taken sound (frees_taken w.copy) is
sound_step w after (Fill b edges) sound is = sound_filled w after b edges sound is
sound_step w after (Post batch blocks) sound is = sound_if (can_post w.opening w.heap w.status w.versions batch blocks)
    (posted w batch blocks) after (sound_posted w batch blocks sound) is
sound_step w after Floor sound is = let e : floored w ≡ after =
    cc in subst IsSound e (sound_floor w sound)
sound_step w after (Recycle b) sound is = sound_changed w after b (reclaimed w.copy) sound (frees_recycled w.copy) is
sound_step w after (Pin s) sound is = sound_move w s _ after sound (keeps_pin w sound) is
sound_step w after (Enter s) sound is = sound_move w s _ after sound (keeps_enter w sound) is
sound_step w after (Settle s) sound is = sound_move w s _ after sound (keeps_settle w) is
sound_step w after (Ask s request) sound is = sound_move w s _ after sound (keeps_ask w request) is
sound_step w after (Read s) sound is = sound_move w s _ after sound (keeps_read w) is
sound_step w after (Reply s) sound is = sound_move w s _ after sound (keeps_reply w) is
sound_step w after (Release s) sound is = sound_move w s _ after sound (keeps_release w) is

pub sound_next : (w : World) (e : Event) → IsSound w → IsSound (next_world w e)
sound_next w e sound = elim (step w e) as (λ o. step w e ≡ o
    → IsSound (unwrap_or o w)) [ None ↦ λ _. sound | Some after ↦ λ is. sound_step w after e sound is ] refl

pub sound_run : (events : List Event) (w : World) → IsSound w → IsSound (run events w)
sound_run [] w sound = sound
sound_run (e ∷ es) w sound = sound_run es (next_world w e) (sound_next w e sound)

pub all_idle : (n s : ℕ) → get_or (replicate n Idle) s Idle ≡ Idle
all_idle n s = grind (arith, common_steps)

pub idle_at : (start : MachineState) (s : ℕ) → IsStart start → session_of start.world s ≡ Idle
idle_at start s is = ap (λ xs. get_or xs s Idle) is.idle ∙ all_idle (length start.world.sessions) s

used_start : (start : MachineState) (b : ℕ) → IsStart start → is_at is_used (slice_get start.world.status b)
    ≡ is_among b start.world.opening.blocks
used_start start b is =
    elim (cases_lt b (length start.world.status)) [
      | inl low ↦ ap (is_at is_used) (is.status b low) ∙ used_first (is_among b start.world.opening.blocks)
      | inr past ↦
          ap (is_at is_used) (slice_get_past start.world.status b past)
          ∙ elim (true_or_false (is_among b start.world.opening.blocks)) [
            | inl listed ↦ let low : b < length start.world.status =
                listed_within (length start.world.status) b start.world.opening.blocks is.within listed in absurd (omega arith)
            | inr none ↦ sym none
          ]
    ]

dated_start : (start : MachineState) (b : ℕ) → IsStart start → IsDatedAt 0 (slice_get start.world.status b)
dated_start start b is = grind (arith, common_steps, cases_lt, dated_first, slice_get_past)

-- version 0 lists the blocks that are used from it on
listed_first : (w : World) (b : ℕ) (t : Bool) → is_among b w.opening.blocks ≡ t → last_number w ≡ 0 → IsListedAsDated w b (at_first t)
listed_first w b true is none = λ n low high.
    let first : n ≡ 0 = omega arith in
    ap (λ k. is_among b (blocks_at w.opening w.versions k)) first ∙ is ∙ sym (below n (last_number w + 1) (omega arith))
listed_first w b false is none = tt

listed_start : (start : MachineState) (b : ℕ) → IsStart start → IsListedAt start.world b (slice_get start.world.status b)
listed_start start b is =
    elim (cases_lt b (length start.world.status)) [
      | inl low ↦ subst (IsListedAt start.world b) (sym (is.status b low))
          (listed_first start.world b (is_among b start.world.opening.blocks) refl (ap length is.alone))
      | inr past ↦ subst (IsListedAt start.world b) (sym (slice_get_past start.world.status b past)) tt
    ]

named_alone : (w : World) (n : ℕ) → n ≤ 0 → IsNamed w n
named_alone w n h = grind (arith, common_steps)

pub sound_start : (start : MachineState) → IsStart start → IsSound start.world
sound_start start is = grind (arith, common_steps, used_start, dated_start, listed_start, named_alone, idle_at)

pub always_sound : (start : MachineState) (events : List Event) → IsStart start → IsSound (run events start.world)
always_sound start events is = sound_run events start.world (sound_start start is)

-- the start with the empty opening is a start
pub start_is_start : (limits : LimitsView) (sessions blocks : ℕ) → IsStart (start_in limits sessions blocks)
start_is_start limits sessions blocks = grind (arith, common_steps, once_none, length-replicate, free_at)
