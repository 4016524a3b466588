use Rattle.std.proofs.Common.{length, ap, ◌∙◌, sym}
use Rattle.std.specs.Prelude.{option_map}
use Rattle.block_reclamation.specs.{Board.with_pin, Copies.{pin_at, settled}}
use Rattle.version_shelf.specs.Shelves.{ToldView}
use Rattle.stream_store.specs.Seats.{SessionView}
use Rattle.stream_store.proofs.seats.PinnedSeat.enter_on.Goals as goal

-- Its search is long where it fails.
pub returns-clause-number : goal.returns-clause-number
returns-clause-number c = ap (λ (s : SessionView). s.number) c.settle_on.ensures.session ∙ c.look.ensures.number

pub returns-clause-settled : goal.returns-clause-settled
returns-clause-settled c =
    let board = c.args.board.now in
    let seen = ap (λ (s : SessionView). s.seen) c.settle_on.ensures.session in
    c.settle_on.ensures.settled
    ∙ ap (λ n. with_pin board n (option_map (settled (length c.look.result.seen.version.batches)) (pin_at board.pins n)))
    c.look.ensures.number
    ∙ ap (λ (t : ToldView). with_pin board c.args.self.number
    (option_map (settled (length t.version.batches)) (pin_at board.pins c.args.self.number))) (sym seen)
