use Rattle.std.proofs.Common.{refl, sym, subst, arith}
use Rattle.desk.specs.{Ready.{IsGranted, old_of}, declared.desks.Parts.Parts}
use Rattle.desk.proofs.{Handing.back_used, Collections.kept_same}
use Rattle.desk.proofs.ready.cancelled.Goals as goal

pub give_back_numbers-requires : goal.give_back_numbers-requires
give_back_numbers-requires c =
    let p = c.deref_mut.result.now in
    let is : IsGranted p c.args.numbers.items =
    subst (λ (q : Parts). IsGranted q c.args.numbers.items) (sym c.deref_mut.ensures.value) c.requires in
    back_used (old_of p c.args.numbers.items).pool p.pool c.args.numbers.items is.free is.granted

pub invariant_of-result : goal.invariant_of-result
invariant_of-result c =
    let p = c.deref_mut.result.now in
    let is : IsGranted p c.args.numbers.items =
    subst (λ (q : Parts). IsGranted q c.args.numbers.items) (sym c.deref_mut.ensures.value) c.requires in
    kept_same (old_of p c.args.numbers.items) _ _ _ _ _ is.before
    (λ i. record {
      opened = p.opened;
      last = p.last;
      journal = p.journal.entries;
      pool = c.give_back_numbers.ensures i;
    }) refl (omega arith)
