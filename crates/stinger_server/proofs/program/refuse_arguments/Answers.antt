use Rattle.stinger_server.proofs.program.refuse_arguments.Goals as goal

pub returns : goal.returns
returns g c = c.tell.ensures
