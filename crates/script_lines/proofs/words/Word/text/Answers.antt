use Rattle.std.proofs.Common.{rules}
use Rattle.script_lines.proofs.words.Word.text.Goals as goal

pub returns-in-NoVertex-clause-text : goal.returns-in-NoVertex-clause-text
returns-in-NoVertex-clause-text c = search rules
