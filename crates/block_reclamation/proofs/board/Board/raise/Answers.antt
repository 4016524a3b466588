use Rattle.std.proofs.Common.{ap, sym, subst, ◌∙◌}
use Rattle.block_reclamation.{specs.{Copies.floor_of, Board.IsLeast}, proofs.Copied.floor_is_least}
use Rattle.block_reclamation.proofs.board.Board.raise.Goals as goal

pub invariant_of-self : goal.invariant_of-self
invariant_of-self c =
    let least : IsLeast c.args.last c.self.inside.pins c.floor-self-inside.result =
    subst (IsLeast c.args.last c.self.inside.pins) (sym (c.floor-self-inside.ensures ∙ ap floor_of c.of-copy.ensures))
    (floor_is_least c.args.last c.self.inside.pins) in
    record { seats = c.self.invariant.seats; below_pins = least.below_pins }

pub returns-clause-least : goal.returns-clause-least
returns-clause-least c =
    rw (← c.self.view_is)
    (subst (IsLeast c.args.last c.self.inside.pins) (sym (ap floor_of c.of-copy.ensures)) (floor_is_least c.args.last c.self.inside.pins))
