use Rattle.std.proofs.{Common.{◌≡◌, ◌∙◌, ap, length, replicate, rules, subst, sym}, lemmas.List.length-replicate}
use Rattle.std.specs.Prelude.{IfErr, None, Ok, slice_get}
use Rattle.graph_types.specs.Graph.{Graph}
use Rattle.graph_types.proofs.NamesApart.{AreApart}
use Rattle.store_steps.proofs.Reopening.{length_opened}
use Rattle.stream_store.specs.Seats.{held_graph, held_version}
use Rattle.script_commands.proofs.Asking.{asked_there, graph_there, stops_reopening, version_there}
use Rattle.script_commands.proofs.MachineStarts.{restarts}
use Rattle.script_commands.proofs.Rebasing.{rebase_done, shows_rebased}
use Rattle.script_commands.specs.{Servers.LacksReader, Slots.held_of, States.version, States.version_in}
use Rattle.script_commands.proofs.server.Server.rebase.Goals as goal

pub returns-clause-kept : goal.returns-clause-kept
returns-clause-kept g c = rw c.replace-old.ensures.after (record {
  opening = subst (λ (h : Graph). AreApart h.names) (sym c.in_ok-desk.ensures.rebased.opening)
      (asked_there c.args.self.now c.args.slot c.in-Ok.session.now c.requires.server c.in-Ok.ensures.session).names_distinct;
  slots = c.in_ok-slots.ensures.slots c.in_ok-desk.desk.desk.last;
  few = c.in_ok-slots.ensures.few c.args.self.now.config.blocks;
  blocks = length_opened c.args.self.now.config.blocks c.in_ok-desk.desk.desk c.in_ok-desk.ensures.desk;
  seats = ap length c.in_ok-slots.ensures.none
      ∙ (length-replicate (length c.in_ok-desk.seats.items) None ∙ c.in_ok-desk.ensures.seats);
})

pub returns-clause-obeys : goal.returns-clause-obeys
returns-clause-obeys g c = λ s shows.
    let v = held_version c.in-Ok.session.now in
    let there : version_in (slice_get s.held c.args.slot) ≡ Ok (held_of v) =
    version_there c.args.self.now s c.args.slot c.in-Ok.session.now shows c.in-Ok.ensures.session in
    let same : held_graph c.in-Ok.session.now ≡ version (length v.batches) s =
    graph_there c.args.self.now s c.args.slot c.in-Ok.session.now c.requires.server shows c.in-Ok.ensures.session in
    let seats : length c.in_ok-desk.seats.items ≡ length s.held =
    c.in_ok-desk.ensures.seats ∙ (sym c.requires.server.seats ∙ ap length shows.held) in (
      rebase_done s v c.in_ok-desk.desk.desk c.args.slot c.stat.result.number c.stat.result.names c.stat.result.edges
          c.stat.result.used _ there c.in_ok-desk.ensures.rebased c.facts.ensures.replays c.facts.ensures.used
          same c.stat.ensures.number c.stat.ensures.names c.stat.ensures.edges c.stat.ensures.used
          (rw c.requires.empty at c.in_ok-rebase_line.ensures),
      rw (there, c.replace-old.ensures.after) (record {
        pending = shows.pending;
        desk = shows_rebased s v c.args.self.now.config.blocks c.in_ok-desk.desk.desk c.in_ok-desk.ensures.rebased
            c.in_ok-desk.ensures.desk c.facts.ensures.replays c.facts.ensures.used same
            (sym c.requires.server.blocks ∙ shows.desk.blocks);
        held = c.in_ok-slots.ensures.none ∙ ap (λ n. replicate n None) seats;
      }),
    )

pub returns-clause-machine : goal.returns-clause-machine
returns-clause-machine g c = λ start here events is runs shows.
    rw c.replace-old.ensures.after
    (restarts c.args.self.now _ c.args.slot c.args.self.now.config.blocks (length c.in_ok-desk.seats.items) c.in-Ok.session.now here
    c.requires.server c.in-Ok.ensures.session c.in_ok-desk.ensures.rebased c.in_ok-desk.ensures.zero c.in_ok-desk.ensures.desk
    (c.in_ok-slots.ensures.slots c.in_ok-desk.desk.desk.last).pinned c.in_ok-slots.ensures.floor c.in_ok-slots.ensures.none shows)

pub returns-in_err-desk-clause-stops : goal.returns-in_err-desk-clause-stops
returns-in_err-desk-clause-stops g c =
    let lacks : IfErr c.from_residual.result LacksReader = search rules in
    stops_reopening c.args.self.now c.args.slot c.in-Ok.session.now c.from_residual.result c.in-Ok.ensures.session lacks
