use Rattle.std.proofs.Common.{refl}
use Rattle.desk.proofs.{Handing.end_accepts, Readied.handing_of}
use Rattle.desk.proofs.ready.Ready.of.Goals as goal

pub returns-clause-accepts : goal.returns-clause-accepts
returns-clause-accepts c =
    end_accepts (handing_of c.args.parts.value c.args.numbers.items c.args.prepared c.requires) _ refl
