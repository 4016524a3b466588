use Rattle.script_commands.specs.States.{set_up}
use Rattle.script_server.proofs.OneRecord.{starts_there}
use Rattle.script_server.proofs.script.start.Goals as goal

pub returns-clause-starts : goal.returns-clause-starts
returns-clause-starts g c = c.begun.ensures.starts (set_up c.args.config) c.begin.ensures.beginning

pub returns-clause-machine : goal.returns-clause-machine
returns-clause-machine g c = starts_there c.args.config c.begin.result c.begun.result c.begin.ensures.machine c.begun.ensures.over
