use Rattle.std.proofs.Common.{sym, subst}
use Rattle.stream_store.{specs.Opened.IsOpeningOf, proofs.Seated.of_opening}
use Rattle.stream_store.proofs.opened.Opened.named.Goals as goal

pub returns-clause-seats : goal.returns-clause-seats
returns-clause-seats g c =
    let of = subst (IsOpeningOf g.J.Naming.book g.J.Naming.opening) (sym c.self.view_is) c.requires in
    of_opening g.J.Naming.book c.self.inside.desk.book g.J.Naming.opening c.self.inside.desk.desk.last c.self.inside.seats.items
    of.book_is of.opening_is c.self.invariant
