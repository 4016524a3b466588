use Rattle.std.proofs.Common.{sym, subst, ◌∙◌, arith}
use Rattle.version_shelf.{specs.Shelves.{ToldView, Begins}, proofs.{Steps.begins_self, Showing.nothing_seen}}
use Rattle.version_shelf.proofs.writers.opened.Goals as goal

pub new-requires-clause-readers : goal.new-requires-clause-readers
new-requires-clause-readers g c = (c.requires.0, (let few = c.requires.1 in omega arith))

pub new-requires-clause-rule : goal.new-requires-clause-rule
new-requires-clause-rule g c = nothing_seen c.in_ok-first.first

pub show-requires : goal.show-requires
show-requires g c =
    let shown = c.in_ok-place.place.desk.shown.value in
    let same = c.in_ok-place.ensures.0 ∙ c.in_ok-first.ensures ∙ sym c.in_ok-second.ensures in
    record { newer = subst (λ (z : ToldView). Begins shown z) same (begins_self shown) }
