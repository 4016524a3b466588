use Rattle.std.proofs.Common.{refl}
use Rattle.script_commands.proofs.{DeskLaws.stat_done, MachineMoves.nothing_moves}
use Rattle.script_commands.proofs.server.Server.stat.Goals as goal

pub returns : goal.returns
returns c = record {
  obeys = λ s shows. (
    stat_done s c.args.self.now.desk.desk c.stat.result.number c.stat.result.names c.stat.result.edges c.stat.result.free
        c.stat.result.retired c.stat.result.used _ shows.desk c.stat.ensures.number c.stat.ensures.names c.stat.ensures.edges
        c.stat.ensures.free c.stat.ensures.retired c.stat.ensures.used (rw c.requires.empty at c.in_ok-stat_line.ensures),
    shows,
  );
  machine = λ start here events is runs shows. nothing_moves _ c.args.self.now c.args.self.now _ here refl refl refl refl shows;
}
