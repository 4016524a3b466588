use Rattle.std.proofs.Common.{rules}
use Rattle.script_lines.proofs.lines.open_line.Goals as goal

pub returns : goal.returns
returns c = search rules
