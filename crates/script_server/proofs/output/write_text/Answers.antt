use Rattle.std.proofs.Common.{rules}
use Rattle.script_server.proofs.output.write_text.Goals as goal

pub returns-clause-whole : goal.returns-clause-whole
returns-clause-whole g c = search rules

pub returns-clause-part : goal.returns-clause-part
returns-clause-part g c = search rules
