use Rattle.std.{proofs.Common.{◌≡◌, Some}, specs.List.slice_get}
use Rattle.graph_types.proofs.ListedNames.{listed_at}
use Rattle.vertex_names.specs.Tables.{names_of}
use Rattle.vertex_names.proofs.book.NameBook.if_named.Goals as goal

pub returns-then-is_at : goal.returns-then-is_at
returns-then-is_at c =
    let at : slice_get (names_of c.self.inside.tables) c.args.number ≡ Some c.args.name.now =
    c.is_at.ensures.0 c.if-is_at.true in
    let there = listed_at (names_of c.self.inside.tables) c.args.number c.args.name.now c.self.invariant.distinct at in
    rw (← c.self.view_is) record { listed = there.0; number = there.1 }
