-- The steps of the store's calls inside whole runs of the machine.
use Rattle.std.specs.{Prelude.◌≡◌, Prelude.ℕ, Prelude.List, declared.option.Option.TheVariants.Some}
use Rattle.epoch_core.specs.declared.events.Event.{Event, TheVariants.Enter, TheVariants.Ask, TheVariants.Read, TheVariants.Reply}
use Rattle.epoch_core.specs.{Worlds.World, Machine.step, Runs.run}
use Rattle.graph_types.specs.declared.requests.Request.{Request}
use Rattle.block_reclamation.specs.Board.{BoardState}
use Rattle.store_steps.specs.{Desks.DeskView, Shown.ShowsWorld, Boards.ShowsBoard, Steps.all_done}

-- events that are all done are a run of the machine
abbrev pub DoneIsRun : Type 0
DoneIsRun = (events : List Event) (w after : World) → all_done events w ≡ Some after → run events w ≡ after

-- a step that neither the desk nor the board sees
abbrev pub IsUnseen : Event → Type 0
IsUnseen event =
    (d : DeskView) (b : BoardState) (w after : World) → step w event ≡ Some after → ShowsWorld d w → ShowsBoard b w
    → ShowsWorld d after × ShowsBoard b after × (after.copy ≡ w.copy)

-- entering, asking, reading and replying are such steps
pub record ReadersAreUnseen : Type 0 where
  pub enter : (s : ℕ) → IsUnseen (Enter s)
  pub ask : (s : ℕ) (request : Request) → IsUnseen (Ask s request)
  pub read : (s : ℕ) → IsUnseen (Read s)
  pub reply : (s : ℕ) → IsUnseen (Reply s)
