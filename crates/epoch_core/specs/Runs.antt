-- Steps and whole runs of the machine, over the state.
use Rattle.std.specs.{Prelude.{◌≡◌, ℕ, Bool, List, [], ◌∷◌, ◌+◌, if◌then◌else◌, is_some}, Option.unwrap_or}
use Rattle.epoch_core.specs.{declared.{events.Event.Event, step.Step.{Step, TheVariants.{Done, Skipped}}}, Worlds.{Answer, World}}
use Rattle.epoch_core.specs.{Worlds.MachineState, Machine.{step, Replies}, Blocks.Stepped}

-- whether an event is done in this world
abbrev pub is_done : World → Event → Bool
is_done w e = is_some (step w e)

-- the world after an event, done or skipped
abbrev pub next_world : World → Event → World
next_world w e = unwrap_or (step w e) w

abbrev pub run : List Event → World → World
run [] w = w
run (e ∷ es) w = run es (next_world w e)

-- how many of the events are done
abbrev pub done_in : List Event → World → ℕ
done_in [] w = 0
done_in (e ∷ es) w = (if is_done w e then 1 else 0) + done_in es (next_world w e)

-- how many events a step has done
abbrev pub count_of : Step → ℕ
count_of Done = 1
count_of Skipped = 0

-- one step of the machine
pub record Steps (old : MachineState) (e : Event) (outcome : Step) (new : MachineState) : Type 0 where
  pub world : Stepped (step old.world e) outcome old.world new.world
  pub replies : Replies old.world e old.replies new.replies

-- the replies after events that begin in this world
abbrev pub AllReplies : World → List Event → List (List Answer) → List (List Answer) → Type 0
AllReplies w [] old new = new ≡ old
AllReplies w (e ∷ es) old new = (between : List (List Answer)) × Replies w e old between
    × AllReplies (next_world w e) es between new

-- a run of the machine through all these events
pub record Runs (old : MachineState) (events : List Event) (new : MachineState) : Type 0 where
  pub world : new.world ≡ run events old.world
  pub replies : AllReplies old.world events old.replies new.replies
