use Rattle.std.proofs.Common.{◌≡◌, ◌*◌}
use Rattle.graph_types.specs.Step.{empty_graph}
use Rattle.stream_store.specs.Stores.{IsOfOpening}
use Rattle.store_drive.proofs.readers.read_each.Given as goal

-- five answers of each round so far were counted, none as wrong, and the seat is of the opening
abbrev pub invariant-loop-rounds : goal.invariant-loop-rounds
invariant-loop-rounds g l = record {
  opening : IsOfOpening g.J.Naming.book empty_graph l.seat.seen;
  checked : l.tally.checked ≡ 5 * l.rounds;
  wrong : l.tally.wrong ≡ 0;
}
