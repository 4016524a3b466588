use Rattle.std.proofs.Common.{sym, subst}
use Rattle.version_shelf.{specs.Shelves.{ToldView, Begins}, proofs.Steps.begins_self}
use Rattle.version_shelf.proofs.readers.ShelfReader.learn.Goals as goal

-- The searches of these goals are long where they fail.

pub returns-in_ok-self-inside : goal.returns-in_ok-self-inside
returns-in_ok-self-inside c =
    let told = c.args.told.now in
    let up : Begins c.args.self.now told = subst (λ (x : ToldView). Begins x told) c.self.view_is c.if-is_below.ensures in
    subst (λ (x : ToldView). Begins c.args.self.now x × Begins told x) (sym c.in_ok-self-inside.ensures) (up, begins_self told)

pub returns-else-is_below : goal.returns-else-is_below
returns-else-is_below c = (
  begins_self c.args.self.now,
  subst (λ (x : ToldView). Begins c.args.told.now x) c.self.view_is c.if-is_below.ensures,
)
