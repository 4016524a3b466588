use Rattle.script_lines.proofs.tables.reply_lines.Goals as goal

pub returns-in-Labels : goal.returns-in-Labels
returns-in-Labels c = rw c.in-Labels.is (rw c.as_slice-in-Labels.ensures at c.label_lines.ensures)
