use Rattle.std.proofs.Common.{[], refl}
use Rattle.stinger_server.specs.{Program.EndsWith, declared.texts.TheConstants.FORMATS, declared.texts.TheConstants.HINT}
use Rattle.stinger_server.proofs.HelpText.{told_ending, told_nothing}
use Rattle.stinger_server.proofs.program.stinger.Goals as goal

pub returns-in-Ok-Help-clause-helped : goal.returns-in-Ok-Help-clause-helped
returns-in-Ok-Help-clause-helped g c = λ asked. told_ending _ _ _ _ _ _ c.show.ensures.told

pub returns-in-Err-clause-helped : goal.returns-in-Err-clause-helped
returns-in-Err-clause-helped g c = λ asked. told_nothing (EndsWith FORMATS.now) FORMATS.now _ _ ([], refl)

pub returns-in-Err-clause-refused : goal.returns-in-Err-clause-refused
returns-in-Err-clause-refused g c = λ asked. (refl, told_nothing (EndsWith HINT.now) HINT.now _ _ ([], refl))
