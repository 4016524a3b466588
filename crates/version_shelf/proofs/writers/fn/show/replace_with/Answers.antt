use Rattle.std.proofs.Common.{subst, sym}
use Rattle.version_shelf.{specs.Shelves.Begins, proofs.Steps.turns}
use Rattle.version_shelf.proofs.writers.fn.show.replace_with.Goals as goal

pub show_as-requires : goal.show_as-requires
show_as-requires g c =
    let told = c.args.arg2.1 in
    turns _ _ c.open-open.result.0.shown.value told
    (subst (λ p. Begins p.value told) (sym c.open-open.ensures.values.0) c.requires)
