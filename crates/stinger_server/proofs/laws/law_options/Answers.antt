use Rattle.std.proofs.Common.{refl}
use Rattle.clap.proofs.OnLiterals.{clap_on_literals}
use Rattle.stinger_server.proofs.laws.law_options.Goals as goal

pub returns : goal.returns
unfolding clap_on_literals
returns c = record {
  workers = (refl, (refl, (refl, tt)));
  most_workers = (refl, (refl, tt));
  blocks = (refl, (refl, tt));
  most_blocks = (refl, (refl, tt));
  seats = (refl, (refl, tt));
  most_seats = (refl, (refl, tt));
  all = (refl, (refl, (refl, (refl, (refl, (refl, tt))))));
  quiet = (refl, (refl, tt));
  all_and_quiet = (refl, (refl, (refl, tt)));
  workers_past = (refl, (refl, (refl, (refl, (refl, (refl, (refl, tt)))))));
  blocks_past = (refl, (refl, (refl, (refl, (refl, tt)))));
  seats_past = (refl, (refl, (refl, (refl, tt))));
  twice = (refl, (refl, (refl, (refl, tt))));
  without_value = (refl, (refl, (refl, (refl, tt))));
  elsewhere = (refl, (refl, (refl, (refl, (refl, (refl, (refl, (refl, (refl, (refl, (refl, tt)))))))))));
  help = (refl, (refl, (refl, (refl, tt))));
  one_reader = (refl, (refl, (refl, tt)));
  two_readers = (refl, (refl, tt));
  three_readers = (refl, (refl, tt));
  four_readers = (refl, (refl, tt));
  readers_past = (refl, (refl, (refl, (refl, (refl, (refl, (refl, tt)))))));
  readers_twice = (refl, (refl, tt));
  no_readers = (refl, (refl, (refl, (refl, tt))));
  drive_elsewhere = (refl, (refl, (refl, (refl, (refl, (refl, (refl, (refl, (refl, tt)))))))));
}
