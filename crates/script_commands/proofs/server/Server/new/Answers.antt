use Rattle.std.{proofs.{Common.{◌∙◌, ap, length, replicate}, lemmas.List.length-replicate}, specs.Prelude.None}
use Rattle.graph_types.proofs.NamesApart.{none_apart}
use Rattle.script_commands.proofs.{DeskLaws.shows_opened, MachineStarts.starts}
use Rattle.script_commands.specs.{Servers.ShowsDesk, States.beginning, States.set_up}
use Rattle.script_commands.proofs.server.Server.new.Goals as goal

pub returns-clause-server : goal.returns-clause-server
returns-clause-server c =
    let shows : ShowsDesk c.args.desk.desk (beginning (set_up c.args.config)).state =
    shows_opened c.args.desk.desk c.args.config c.requires.desk in
    record {
      opening = rw c.requires.desk none_apart;
      slots = c.in_ok-slots.ensures.slots c.args.desk.desk.last;
      few = c.in_ok-slots.ensures.few c.args.config.blocks;
      blocks = shows.blocks;
      seats = ap length c.in_ok-slots.ensures.none ∙ (length-replicate (length c.args.seats.items) None ∙ c.requires.seats);
    }

pub returns-clause-beginning : goal.returns-clause-beginning
returns-clause-beginning c = record {
  pending = c.new-2.ensures;
  desk = shows_opened c.args.desk.desk c.args.config c.requires.desk;
  held = c.in_ok-slots.ensures.none ∙ ap (λ n. replicate n None) c.requires.seats;
}

pub returns-clause-machine : goal.returns-clause-machine
returns-clause-machine c =
    starts c.args.config _ (length c.args.desk.desk.last.batches) c.requires.desk
    (c.in_ok-slots.ensures.slots c.args.desk.desk.last).pinned c.in_ok-slots.ensures.floor
    (c.in_ok-slots.ensures.none ∙ ap (λ n. replicate n None) c.requires.seats)
