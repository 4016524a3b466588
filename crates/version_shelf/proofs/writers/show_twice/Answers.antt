use Rattle.std.proofs.Common.{Some, sym, ap, subst, ◌∙◌}
use Rattle.version_shelf.{specs.Shelves.{ToldView, Begins}, proofs.Steps.begins_self}
use Rattle.version_shelf.proofs.writers.show_twice.Goals as goal

pub show-requires-2 : goal.show-requires-2
show-requires-2 g c = record {
  newer = subst (λ (z : ToldView). Begins z c.args.again) (c.requires.same ∙ sym c.show.ensures.shown) (begins_self c.args.again);
}

pub returns-clause-shown : goal.returns-clause-shown
returns-clause-shown g c = c.show-2.ensures.shown ∙ c.requires.same

pub returns-clause-view : goal.returns-clause-view
returns-clause-view g c = c.show-2.ensures.view ∙ ap (λ (t : ToldView). Some t) c.requires.same
