use Rattle.std.proofs.Common.{ap, sym, ◌∙◌}
use Rattle.script_commands.specs.{States.{set_up}}
use Rattle.script_server.specs.{Executions.input, Segments.IsMachineText, Texts.IsText}
use Rattle.script_server.proofs.{RunTexts.{from_bytes}}
use Rattle.script_server.proofs.script.serve.Goals as goal

pub returns-clause-text : goal.returns-clause-text
returns-clause-text g c =
    let same = sym c.over-sink.ensures.same_writer ∙ sym c.run_script.ensures.same_writer in
    from_bytes (λ rows. IsText (input (set_up c.args.config) rows)) _ _ _ _ _ _ _ _ (ap (λ feed. feed.left) c.over-feed.ensures)
    (ap g.W.Write.contents c.over-sink.ensures.held) (ap g.W.Write.contents (c.writer-1.given.1 same)) c.run_script.ensures.text

pub returns-clause-machine : goal.returns-clause-machine
returns-clause-machine g c =
    let same = sym c.over-sink.ensures.same_writer ∙ sym c.run_script.ensures.same_writer in
    from_bytes (λ rows. IsMachineText (input (set_up c.args.config) rows)) _ _ _ _ _ _ _ _ (ap (λ feed. feed.left) c.over-feed.ensures)
    (ap g.W.Write.contents c.over-sink.ensures.held) (ap g.W.Write.contents (c.writer-1.given.1 same))
    c.run_script.ensures.machine
