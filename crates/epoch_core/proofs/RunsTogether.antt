-- Runs one after the other, with their replies.
use Rattle.std.proofs.Common.{◌≡◌, true, List, [], ◌∷◌, ◌++◌, refl, sym, ap, subst, ◌∙◌, arith, ℕ, map, replicate, zero, suc}
use Rattle.std.proofs.lemmas.Grind.{common_steps}
use Rattle.std.specs.{Option.unwrap_or, Prelude.is_some, declared.option.Option.{Option, TheVariants.Some}}
use Rattle.epoch_core.specs.{Machine.step, Runs.{AllReplies, run, next_world, Runs}, Sound.IsSound}
use Rattle.epoch_core.specs.{Worlds.{World, Answer, MachineState, IsStart}, declared.events.Event.Event}
use Rattle.epoch_core.specs.declared.events.Event.TheVariants.{Recycle, Read, Pin, Enter, Settle, Release}
use Rattle.epoch_core.proofs.Steps.{always_sound}

pub both_reply : (es fs : List Event) (w : World) (old mid new : List (List Answer)) → AllReplies w es old mid
    → AllReplies (run es w) fs mid new → AllReplies w (es ++ fs) old new
both_reply [] fs w old mid new all more = subst (λ rs. AllReplies w fs rs new) all more
both_reply (e ∷ es) fs w old mid new all more = (all.0, all.1, both_reply es fs (next_world w e) all.0 mid new all.2 more)

pub run_more : (es fs : List Event) (w : World) → run (es ++ fs) w ≡ run fs (run es w)
run_more [] fs w = refl
run_more (e ∷ es) fs w = run_more es fs (next_world w e)

-- one event more
pub run_next : (es : List Event) (e : Event) (w after : World) → step (run es w) e ≡ Some after → after ≡ run (es ++ e ∷ []) w
run_next es e w after is = sym (run_more es (e ∷ []) w ∙ ap (λ o. unwrap_or o (run es w)) is)

pub some_step : (o : Option World) → is_some o ≡ true → (after : World) × (o ≡ Some after)
some_step o is = grind (arith, common_steps)

pub world_sound : (start here : MachineState) (events : List Event) → IsStart start → Runs start events here → IsSound here.world
world_sound start here events is runs = subst IsSound (sym runs.world) (always_sound start events is)

abbrev pub AreSilent : List Event → Type 0
AreSilent es = (w : World) (replies : List (List Answer)) → AllReplies w es replies replies

pub silent_recycling : (ns : List ℕ) → AreSilent (map Recycle ns)
silent_recycling [] w replies = refl
silent_recycling (n ∷ ns) w replies = (replies, refl, silent_recycling ns _ replies)

pub silent_reads : (n s : ℕ) → AreSilent (replicate n (Read s))
silent_reads zero s w replies = refl
silent_reads (suc n) s w replies = (replies, refl, silent_reads n s _ replies)

pub silent_opening : (s : ℕ) → AreSilent (Pin s ∷ Enter s ∷ Settle s ∷ [])
silent_opening s w replies = (replies, refl, (replies, refl, (replies, refl, refl)))

pub silent_closing : (s : ℕ) → AreSilent (Release s ∷ [])
silent_closing s w replies = (replies, refl, refl)
