use Rattle.script_server.proofs.{OpenSlots.others_change_nothing, SessionLines.agreeing_slots, SessionLines.lines_are_answers}
use Rattle.script_server.proofs.SessionLines.{tells_of_each_slot}
use Rattle.script_server.proofs.laws.law_session_lines.Goals as goal

pub returns : goal.returns
returns c = record {
  each = tells_of_each_slot;
  answers = lines_are_answers;
  alike = agreeing_slots;
  others = others_change_nothing;
}
