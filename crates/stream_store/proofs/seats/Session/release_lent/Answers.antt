use Rattle.std.proofs.Common.{None, ap, ◌∙◌}
use Rattle.block_reclamation.specs.Board.{with_pin}
use Rattle.stream_store.specs.Seats.{SessionView}
use Rattle.stream_store.proofs.seats.Session.release_lent.Goals as goal

-- Its search is long where it fails.
pub returns-clause-unpinned : goal.returns-clause-unpinned
returns-clause-unpinned c =
    c.unpin.ensures ∙ ap (λ (s : SessionView). with_pin c.args.board.now s.number None) c.self.view_is
