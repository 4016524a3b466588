use Rattle.std.proofs.Common.{refl}
use Rattle.clap.proofs.OnLiterals.{clap_on_literals}
use Rattle.stinger_server.proofs.{Asked.reads_plainly, Served.drives_within, Served.serves_within}
use Rattle.stinger_server.proofs.laws.law_arguments.Goals as goal

pub returns : goal.returns
unfolding clap_on_literals
returns c = record {
  serve = (refl, (refl, tt));
  help = (refl, (refl, (refl, (refl, (refl, (refl, (refl, (refl, (refl, tt)))))))));
  version = (refl, (refl, (refl, tt)));
  usage = (refl, (refl, (refl, (refl, (refl, (refl, (refl, (refl, (refl, (refl, (refl, (refl, (refl, (refl, tt))))))))))))));
  plain = reads_plainly;
  limits = serves_within;
  drive_limits = drives_within;
}
