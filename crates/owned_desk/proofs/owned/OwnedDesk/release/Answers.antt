use Rattle.std.proofs.Common.{◌≡◌, ap, subst, ◌∙◌, inr, arith}
use Rattle.std.specs.declared.option.Option.TheVariants.{Some}
use Rattle.block_reclamation.specs.Copies.{pin_at}
use Rattle.owned_desk.specs.Owned.{OwnedView, IsOwned, IsSeatOf, held_pin}
use Rattle.owned_desk.proofs.OwnedMoves.{release_follows}
use Rattle.owned_desk.proofs.owned.OwnedDesk.release.Goals as goal

pub unpin-requires : goal.unpin-requires
unpin-requires c = (
  c.args.hold.number,
  (
    c.in-Some.ensures.0,
    subst (λ (o : OwnedView). pin_at o.board.pins c.in-Some.seat ≡ Some (held_pin c.args.hold.number)) c.self.view_is
        (c.in-Some.ensures.1 ∙ ap (λ p. Some p) c.held_pin.ensures),
  ),
)

pub returns-clause-follows : goal.returns-clause-follows
returns-clause-follows c =
    let old : OwnedView = c.args.self.now in
    let of : IsSeatOf old c.args.hold.number c.in-Some.seat = (
      c.in-Some.ensures.0,
      subst (λ (o : OwnedView). pin_at o.board.pins c.in-Some.seat ≡ Some (held_pin c.args.hold.number)) c.self.view_is
          (c.in-Some.ensures.1 ∙ ap (λ p. Some p) c.held_pin.ensures),
    ) in
    let opening : c.self.inside.opening ≡ old.opening = ap (λ (o : OwnedView). o.opening) c.self.view_is in
    release_follows old c.unpin.new.self c.args.hold (subst IsOwned c.self.view_is c.self.invariant.owned)
    (inr (omega (arith, opening, c.if-hold-self.false, c.if-hold-self-2.false), c.unpin.ensures c.args.hold.number of))
