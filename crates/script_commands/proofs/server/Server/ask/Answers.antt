use Rattle.std.proofs.Common.{◌≡◌, ◌∙◌, ap}
use Rattle.graph_version.specs.Versions.{content}
use Rattle.stream_store.specs.Seats.{held_graph, held_version}
use Rattle.version_answers.specs.Numbered.{named}
use Rattle.vertex_names.specs.Book.{Book}
use Rattle.script_lines.specs.Lines.{shown_lines}
use Rattle.script_commands.proofs.Asking.{replied_err_at, replied_ok_at}
use Rattle.script_commands.{specs.Slots.held_of, proofs.Commands.held_there}
use Rattle.script_commands.proofs.MachineMoves.{question_moves, told_err, told_ok, unheld_moves}
use Rattle.script_commands.proofs.server.Server.ask.Goals as goal

pub returns-in_ok-reply_lines-in-Ok-ask_in_numbers : goal.returns-in_ok-reply_lines-in-Ok-ask_in_numbers
returns-in_ok-reply_lines-in-Ok-ask_in_numbers c =
    let names : c.names.result.now.names ≡ (held_graph c.in-Ok.session.now).names =
    ap (λ (book : Book). book.names) c.names.ensures.names ∙ ap (λ v. (content v).names) c.version.ensures in
    record {
      obeys = λ s shows. (
        replied_ok_at c.args.self.now s c.args.slot c.args.request.now c.in-Ok.session.now c.in-Ok-ask_in_numbers.reply _
            c.requires.server shows c.in-Ok.ensures.session c.in-Ok-ask_in_numbers.ensures.answer
            (rw c.requires.empty at c.in_ok-reply_lines-in-Ok-ask_in_numbers.ensures
            ∙ ap (λ n. shown_lines c.args.slot (named n c.in-Ok-ask_in_numbers.reply)) names),
        shows,
      );
      machine = λ start here events is runs shows.
          question_moves c.args.self.now c.args.slot c.args.request.now (held_of (held_version c.in-Ok.session.now)) _
          start here events
          (held_there c.args.self.now.slots.sessions.items c.args.slot c.in-Ok.session.now c.in-Ok.ensures.session)
          (told_ok c.args.self.now c.args.slot c.args.request.now c.in-Ok.session.now c.in-Ok-ask_in_numbers.reply _
          c.requires.server c.in-Ok.ensures.session c.in-Ok-ask_in_numbers.ensures.answer
          (rw c.requires.empty at c.in_ok-reply_lines-in-Ok-ask_in_numbers.ensures
          ∙ ap (λ n. shown_lines c.args.slot (named n c.in-Ok-ask_in_numbers.reply)) names)) is runs shows;
    }

pub returns-in_ok-word-in-Err-ask_in_numbers : goal.returns-in_ok-word-in-Err-ask_in_numbers
returns-in_ok-word-in-Err-ask_in_numbers c = record {
  obeys = λ s shows. (
    replied_err_at c.args.self.now s c.args.slot c.args.request.now c.in-Ok.session.now c.in-Err-ask_in_numbers.error
        c.in_ok-word-in-Err-ask_in_numbers.word c.requires.server shows c.in-Ok.ensures.session
        c.in-Err-ask_in_numbers.ensures.answer
        c.in_ok-word-in-Err-ask_in_numbers.ensures.known c.in_ok-word-in-Err-ask_in_numbers.ensures.word,
    shows,
  );
  machine = λ start here events is runs shows.
      question_moves c.args.self.now c.args.slot c.args.request.now (held_of (held_version c.in-Ok.session.now)) _
      start here events
      (held_there c.args.self.now.slots.sessions.items c.args.slot c.in-Ok.session.now c.in-Ok.ensures.session)
      (told_err c.args.self.now c.args.slot c.args.request.now c.in-Ok.session.now c.in-Err-ask_in_numbers.error
      c.in_ok-word-in-Err-ask_in_numbers.word c.requires.server c.in-Ok.ensures.session
      c.in-Err-ask_in_numbers.ensures.answer c.in_ok-word-in-Err-ask_in_numbers.ensures.known
      c.in_ok-word-in-Err-ask_in_numbers.ensures.word) is runs shows;
}

pub returns-in-Err-clause-machine : goal.returns-in-Err-clause-machine
returns-in-Err-clause-machine c = λ start here events is runs shows.
    unheld_moves c.args.self.now c.args.slot c.args.request.now c.in-Err.word here c.in-Err.ensures.refused shows
