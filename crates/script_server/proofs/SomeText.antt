-- A script has a text: each record comes to an outcome, in each state that a run reaches.
use Rattle.std.proofs.Common.{◌≡◌, ℕ, ◌+◌, ◌<◌, List, [], ◌∷◌, ◌++◌, length, refl}
use Rattle.std.proofs.Common.{arith}
use Rattle.std.specs.Prelude.{Result}
use Rattle.feed_csv.specs.{Commands.item_of, Records.Row, Records.record_limit, declared.command.Command.Command}
use Rattle.feed_csv.specs.declared.command.FeedWord.{FeedWord}
use Rattle.graph_types.specs.Limits.{LimitsView, AreLimits}
use Rattle.script_lines.specs.Lines.{end_line}
use Rattle.graph_types.proofs.ChangedContents.{HasContent}
use Rattle.script_server.specs.Executions.{Executes, IsFullText}
use Rattle.script_commands.specs.States.{Progress, Setup}
use Rattle.script_commands.specs.States.{after_record, beginning}
use Rattle.script_commands.specs.States.{printed}
use Rattle.script_commands.proofs.SoundStates.{IsSoundState, some_outcome, sound_after, beginning_sound}

-- a store under limits within the walls
module _ (l : LimitsView) (are : AreLimits l) where
  some_run : (rows : List Row) (here : Progress) → IsSoundState l here.state
      → (text : List ℕ) × (there : Progress) × Executes rows here text there × (there.records ≡ here.records + length rows)
  some_run [] here sound = ([], here, (refl, refl), omega arith)
  some_run (row ∷ rows) here sound =
      let item : Result Command FeedWord = item_of row in
      let one = some_outcome l are item here.state sound in
      let next : Progress = after_record item one.0 here in
      let rest = some_run rows next (sound_after l are item here.state one.0 one.1 sound) in (
        printed (here.records + 1) one.0 ++ rest.0,
        rest.1,
        (one.0, rest.0, one.1, refl, rest.2),
        omega (arith, rest.3),
      )

  pub some_text : (setup : Setup) (rows : List Row) → HasContent l setup.opening → length rows < record_limit
      → (text : List ℕ) × (there : Progress) × IsFullText setup rows text there
  some_text setup rows opens few =
      let run = some_run rows (beginning setup) (beginning_sound l are setup opens) in (
        run.0 ++ end_line (length run.1.state.pending),
        run.1,
        (run.0, run.2, refl, omega (arith, run.3, few)),
      )
