use Rattle.std.proofs.Common.{rules}
use Rattle.stinger_server.proofs.command_line.flag.Goals as goal

pub returns-clause-rule : goal.returns-clause-rule
returns-clause-rule g c = search rules

pub returns-clause-local : goal.returns-clause-local
returns-clause-local g c = search rules
