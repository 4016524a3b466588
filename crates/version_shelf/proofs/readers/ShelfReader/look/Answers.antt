use Rattle.std.proofs.Common.{rules, subst, sym}
use Rattle.left_right.specs.Sides.{view as seen_at}
use Rattle.version_shelf.{specs.Shelves.{ToldView, Begins}, proofs.Steps.{begins_self, one_shelf_kept, one_shelf_told}}
use Rattle.version_shelf.proofs.readers.ShelfReader.look.Goals as goal

pub returns-else-is_below : goal.returns-else-is_below
returns-else-is_below c = subst (λ (x : ToldView). Begins c.args.self.now x) (sym c.self.view_is) (begins_self c.args.self.now)

-- Its search is long where it fails.
pub returns-then-is_below : goal.returns-then-is_below
returns-then-is_below c = subst (λ (x : ToldView). Begins x c.in-Some.told) c.self.view_is c.if-is_below.ensures

pub invariant_of-self : goal.invariant_of-self
invariant_of-self c = one_shelf_told (seen_at c.self.inside.place.place) (seen_at c.replace_with-shown.new.dest.place)
    c.replace_with-shown.result c.self.inside.newest (search rules) c.self.invariant c.in-Some.told c.in-Some.is

pub invariant_of-self-else-is_below : goal.invariant_of-self-else-is_below
invariant_of-self-else-is_below c = one_shelf_kept (seen_at c.self.inside.place.place) (seen_at c.replace_with-shown.new.dest.place)
    c.replace_with-shown.result c.self.inside.newest (search rules) c.self.invariant
