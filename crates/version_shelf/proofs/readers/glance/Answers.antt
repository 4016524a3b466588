use Rattle.std.proofs.Common.{refl, sym, subst, ◌∙◌, IfSome, Option}
use Rattle.version_shelf.{specs.Shelves.{ToldView, Begins, IsOfOneShelf}, proofs.Steps.{turns, begins_self, copy_of_one_shelf}}
use Rattle.version_shelf.proofs.readers.glance.Goals as goal

pub enter_as-requires : goal.enter_as-requires
enter_as-requires c x = turns _ _ x x (begins_self x)

pub returns-in-Ok : goal.returns-in-Ok
returns-in-Ok c =
    let entered = c.in-Ok.ensures in
    record {
      seen = λ before seen.
          let up : Begins before c.in-Ok.reading.part.value = entered.1.0 before seen in (
            c.in-Ok.reading.part.value,
            c.leave.ensures.1 ∙ entered.1.1,
            (up.0, up.1.0),
            subst (λ (o : Option ToldView). IfSome o (λ told. IsOfOneShelf before told)) (sym c.ok-shown.ensures.value)
                (copy_of_one_shelf before c.in-Ok.reading.part.value c.get.result.now c.share.result c.get.ensures
                c.share.ensures (up.0, up.1.0)),
          );
    }

pub returns-in-Err : goal.returns-in-Err
returns-in-Err c = record { seen = λ before seen. (before, c.in-Err.ensures.1 ∙ seen, (refl, refl), tt) }
