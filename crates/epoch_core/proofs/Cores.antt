-- Steps of the whole state.
use Rattle.std.proofs.Common.{◌≡◌, ℕ, zero, suc, ◌+◌, ◌≤◌, inl, inr, List, [], ◌∷◌, ◌++◌, length, refl, sym, ap, subst, ◌∙◌}
use Rattle.std.{proofs.{Common.arith, lemmas.{Bool.cases_eq, List.length-replicate}}, specs.Prelude.{if◌then◌else◌, is_some}}
use Rattle.std.specs.{Option.unwrap_or, declared.option.Option.{Option, TheVariants.{None, Some}}}
use Rattle.graph_types.specs.Limits.{LimitsView}
use Rattle.graph_types.specs.{declared.batches.NamedOp.NamedOp, declared.contents.Content.Content}
use Rattle.graph_types.proofs.Empty.{empty_content_in}
use Rattle.epoch_core.specs.declared.{states.{Version.Version, Opening.Opening}, step.Step.Step}
use Rattle.epoch_core.specs.{declared.{session_states.SessionState.TheVariants.Idle, events.Event.Event}, Versions.IsContentGraph}
use Rattle.epoch_core.specs.{Versions.graph_at, Posting.{graph_after, version_by}, Machine.{Replies, step}, Worlds.Answer}
use Rattle.epoch_core.specs.{Worlds.{HasContents, MachineState, World, empty_opening_in, start_in}, Runs.{AllReplies, Runs, Steps}}
use Rattle.epoch_core.specs.{Runs.{count_of, done_in, is_done, next_world, run}, Sound.{IsCore, IsSound}, Blocks.Stepped}
use Rattle.epoch_core.proofs.{Sizes.size_next, Changes.{graph_before, graph_next, length_next}, Steps.{sound_next, sound_start}}
use Rattle.epoch_core.proofs.{Steps.start_is_start, Answering.{Adds, asked, adds}}

-- a step leads to what next_world, and says whether the event is done
stepped_to : (o : Option World) (outcome : Step) (old new : World) → Stepped o outcome old new → new ≡ unwrap_or o old
stepped_to None outcome old new is = is.1
stepped_to (Some after) outcome old new is = is.1

pub steps_to : (old new : MachineState) (e : Event) (outcome : Step) → Steps old e outcome new → new.world ≡ next_world old.world e
steps_to old new e outcome steps = stepped_to (step old.world e) outcome old.world new.world steps.world

-- no step changes how many sessions there are
pub steps_size : (old new : MachineState) (e : Event) (outcome : Step) → Steps old e outcome new → length new.world.sessions
    ≡ length old.world.sessions
steps_size old new e outcome steps = ap (λ w. length w.sessions) (steps_to old new e outcome steps)
    ∙ (size_next old.world e).sessions

pub core_kept : (old new : MachineState) (e : Event) (outcome : Step) → IsCore old → Steps old e outcome new
    → HasContents new.world.opening new.world.versions → IsCore new
core_kept old new e outcome core steps contents =
    let to : new.world ≡ next_world old.world e = steps_to old new e outcome steps in
    let a : Adds 0 (asked 0 old.world e) old.replies new.replies =
    adds 0 old.world e old.replies new.replies core.replies steps.replies in
    record {
      sound = subst IsSound (sym to) (sound_next old.world e core.sound);
      contents = contents;
      few = subst (λ n. n ≤ 16) (sym (steps_size old new e outcome steps)) core.few;
      replies = a.size ∙ core.replies ∙ sym (steps_size old new e outcome steps);
    }

-- contents of versions, once one more is posted
pub contents_posted : (o : Opening) (versions : List Version) (batch : List NamedOp) (blocks : List ℕ)
    → HasContents o versions → IsContentGraph (graph_after o versions batch)
    → HasContents o (versions ++ version_by o versions batch blocks ∷ [])
contents_posted o versions batch blocks contents made n low =
    let v : Version = version_by o versions batch blocks in
    let next : length (versions ++ v ∷ []) ≡ suc (length versions) = length_next versions v in
    elim (cases_eq n (length (versions ++ v ∷ []))) [
      | inl e ↦ subst IsContentGraph (sym (ap (graph_at o (versions ++ v ∷ [])) e ∙ graph_next o versions v)) made
      | inr ne ↦ let h : n ≤ length versions = omega (arith, next) in
          subst IsContentGraph (sym (graph_before o versions v n h)) (contents n h)
    ]

-- whole runs
replies_more : (es : List Event) (e : Event) (w : World) (old mid new : List (List Answer)) → AllReplies w es old mid
    → Replies (run es w) e mid new → AllReplies w (es ++ e ∷ []) old new
replies_more [] e w old mid new all more = (new, subst (λ rs. Replies w e rs new) all more, refl)
replies_more (x ∷ xs) e w old mid new all more = (all.0, all.1, replies_more xs e (next_world w x) all.0 mid new all.2 more)

run_more : (es : List Event) (e : Event) (w : World) → run (es ++ e ∷ []) w ≡ next_world (run es w) e
run_more [] e w = refl
run_more (x ∷ xs) e w = run_more xs e (next_world w x)

pub runs_more : (old mid new : MachineState) (es : List Event) (e : Event) (outcome : Step) → Runs old es mid
    → Steps mid e outcome new → Runs old (es ++ e ∷ []) new
runs_more old mid new es e outcome runs steps = record {
  world = steps_to mid new e outcome steps ∙ ap (λ w. next_world w e) runs.world ∙ sym (run_more es e old.world);
  replies = replies_more es e old.world old.replies mid.replies new.replies runs.replies
      (subst (λ w. Replies w e mid.replies new.replies) runs.world steps.replies);
}

done_more : (es : List Event) (e : Event) (w : World) → done_in (es ++ e ∷ []) w
    ≡ done_in es w + (if is_done (run es w) e then 1 else 0)
done_more [] e w = omega arith
done_more (x ∷ xs) e w = let rest = done_more xs e (next_world w x) in omega (arith, rest)

stepped_count : (o : Option World) (outcome : Step) (old new : World) → Stepped o outcome old new
    → (if is_some o then 1 else 0) ≡ count_of outcome
stepped_count None outcome old new is = ap count_of (sym is.0)
stepped_count (Some after) outcome old new is = ap count_of (sym is.0)

-- how many are done after one more step
pub count_more : (old mid new : MachineState) (es : List Event) (e : Event) (outcome : Step) → Runs old es mid
    → Steps mid e outcome new → done_in (es ++ e ∷ []) old.world ≡ done_in es old.world + count_of outcome
count_more old mid new es e outcome runs steps =
    done_more es e old.world ∙ ap (λ w. done_in es old.world + (if is_done w e then 1 else 0)) (sym runs.world)
    ∙ ap (λ n. done_in es old.world + n) (stepped_count (step mid.world e) outcome mid.world new.world steps.world)

-- the content without names, kinds and edges
abbrev empty_content : Content
empty_content = record { names = []; kinds = []; edges = [] }

no_contents : (limits : LimitsView) (n : ℕ) → n ≤ 0 → IsContentGraph (graph_at (empty_opening_in limits) [] n)
no_contents limits zero h = (
  empty_content,
  empty_content_in limits,
  refl,
)
no_contents limits (suc n) h = absurd (omega arith)

pub core_start : (limits : LimitsView) (sessions blocks : ℕ) → sessions ≤ 16 → IsCore (start_in limits sessions blocks)
core_start limits sessions blocks few = record {
  sound = sound_start (start_in limits sessions blocks) (start_is_start limits sessions blocks);
  contents = no_contents limits;
  few = omega (arith, few, length-replicate sessions Idle);
  replies = length-replicate sessions [] ∙ sym (length-replicate sessions Idle);
}
