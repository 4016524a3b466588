use Rattle.std.proofs.Common.{◌∙◌, sym, ap, subst}
use Rattle.graph_version.specs.Batches.{batch_value}
use Rattle.desk.specs.{Kept.{IsKeptDesk, desk_in}, declared.desks.Parts.Parts}
use Rattle.desk.proofs.Readied.{granted_from, old_same}
use Rattle.desk.proofs.desks.Desk.grant.Goals as goal

pub of-requires : goal.of-requires
of-requires c =
    let e = c.in-Ok.ensures in
    granted_from c.deref_mut.result.now c.grant_for.new.parts c.in-Ok.numbers.items e.free e.granted e.same.0 e.same.1 e.same.2
    (subst (λ (q : Parts). IsKeptDesk (desk_in q) q.journal.keeps q.journal.room) (sym c.deref_mut.ensures.value)
    c.self.invariant)

pub returns-in-Ok-clause-granted : goal.returns-in-Ok-clause-granted
returns-in-Ok-clause-granted c =
    let e = c.in-Ok.ensures in
    c.of.ensures ∙ (λ i. record {
      old = (old_same c.deref_mut.result.now c.grant_for.new.parts c.in-Ok.numbers.items e.free e.granted e.same.0 e.same.1 e.same.2
          ∙ ap desk_in c.deref_mut.ensures.value ∙ c.self.view_is) i;
      ops = batch_value c.args.batch;
      numbers = e.numbers i;
    })
