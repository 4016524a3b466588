use Rattle.std.proofs.Common.{rules}
use Rattle.stinger_server.proofs.program.run.Goals as goal

pub returns-in-Ok : goal.returns-in-Ok
returns-in-Ok g c = search rules
