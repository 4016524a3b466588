use Rattle.script_server.proofs.script.Run.break_off.Goals as goal

-- Their searches are long where they fail.

pub last_line-requires : goal.last_line-requires
last_line-requires g c = record { working = c.requires.working }

pub returns-clause-whole : goal.returns-clause-whole
returns-clause-whole g c = c.last_line.ensures.whole

pub returns-clause-part : goal.returns-clause-part
returns-clause-part g c = c.last_line.ensures.part
