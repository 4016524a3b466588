use Rattle.std.{proofs.Common.{◌≡◌, length, max, Some, true, refl, ap, ◌∙◌, rules}, specs.Prelude.option_map}
use Rattle.block_reclamation.specs.{Board.with_pin, Copies.settled}
use Rattle.desk.proofs.TwicePinned.{pin_twice}
use Rattle.stream_store.proofs.seats.Seat.acquire_lent.Goals as goal

pub returns-in-Ok-clause-pinned : goal.returns-in-Ok-clause-pinned
returns-in-Ok-clause-pinned c =
    let number : c.number.result ≡ length c.args.desk.now.desk.last.batches = search rules in
    c.at-settled.ensures.settled ∙ ap (λ o. with_pin c.pin.new.self c.self.inside.number (option_map (settled c.number.result) o))
    c.pin.ensures.there ∙ ap (λ n. with_pin c.pin.new.self c.self.inside.number
    (Some (record { number = max c.args.board.now.floor n; is_settled = true }))) number
    ∙ ap (λ b. with_pin b c.self.inside.number (Some
    (record { number = max c.args.board.now.floor (length c.args.desk.now.desk.last.batches); is_settled = true })))
    c.pin.ensures.pinned ∙ pin_twice c.args.board.now c.self.inside.number _ _ ∙ ap (λ s. with_pin c.args.board.now s.number
    (Some (record { number = max c.args.board.now.floor (length c.args.desk.now.desk.last.batches); is_settled = true })))
    c.self.view_is

pub returns-in-Err-clause-unchanged : goal.returns-in-Err-clause-unchanged
returns-in-Err-clause-unchanged c = refl
