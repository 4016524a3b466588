-- A script has one text: each record comes to one outcome.
use Rattle.std.proofs.Common.{◌≡◌, ℕ, ◌+◌, List, [], ◌∷◌, ◌++◌, length, sym, ◌∙◌, ap, subst}
use Rattle.feed_csv.specs.{Commands.item_of, Records.Row}
use Rattle.script_lines.specs.Lines.{end_line}
use Rattle.script_commands.specs.States.{beginning, printed}
use Rattle.script_commands.specs.States.{Progress, RecordResult, Setup, after_record}
use Rattle.script_commands.proofs.OneOutcome.{one_outcome}
use Rattle.script_server.specs.Executions.{Executes, IsFullText}

one_run : (rows : List Row) (here : Progress) (text other : List ℕ) (there elsewhere : Progress) → Executes rows here text there
    → Executes rows here other elsewhere → (text ≡ other) × (there ≡ elsewhere)
one_run [] here text other there elsewhere first second = (first.0 ∙ sym second.0, first.1 ∙ sym second.1)
one_run (row ∷ rows) here text other there elsewhere first second =
    let same : second.0 ≡ first.0 = one_outcome (item_of row) here.state second.0 first.0 second.2 first.2 in
    let Follows : RecordResult → Type 0 = λ outcome. Executes rows (after_record (item_of row) outcome here) second.1 elsewhere in
    let rest = one_run rows (after_record (item_of row) first.0 here) first.1 second.1 there elsewhere first.4
    (subst Follows same second.4) in (
      first.3 ∙ (ap (λ more. printed (here.records + 1) first.0 ++ more) rest.0
          ∙ (ap (λ outcome. printed (here.records + 1) outcome ++ second.1) (sym same) ∙ sym second.3)),
      rest.1,
    )

pub one_text : (setup : Setup) (rows : List Row) (text other : List ℕ) (there elsewhere : Progress)
    → IsFullText setup rows text there
    → IsFullText setup rows other elsewhere → (text ≡ other) × (there ≡ elsewhere)
one_text setup rows text other there elsewhere first second =
    let same = one_run rows (beginning setup) first.0 second.0 there elsewhere first.1 second.1 in (
      first.2 ∙ (ap (λ lines. lines ++ end_line (length there.state.pending)) same.0
          ∙ (ap (λ end. second.0 ++ end_line (length end.state.pending)) same.1 ∙ sym second.2)),
      same.1,
    )
