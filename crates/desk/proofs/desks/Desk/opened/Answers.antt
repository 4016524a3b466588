use Rattle.std.{proofs.Common.{◌∙◌, ap, sym, subst, arith}, specs.Arc.arc_value}
use Rattle.graph_version.specs.{declared.versions.Version.Version, Versions.VersionView, Logs.keeps_batches}
use Rattle.store_steps.specs.Opening.{opened_desk}
use Rattle.desk.{specs.{Kept.{IsKeptDesk, desk_in}, declared.desks.Parts.Parts}, proofs.Collections.{kept_same, opened_kept}}
use Rattle.desk.proofs.desks.Desk.opened.Goals as goal

pub invariant_of-result : goal.invariant_of-result
invariant_of-result c =
    let v : VersionView = arc_value {X = Version} c.args.zero.version in
    let zero = c.requires.zero in
    subst (λ (q : Parts). IsKeptDesk (desk_in q) q.journal.keeps q.journal.room) (sym c.in_ok-new.ensures.ok)
    (kept_same (opened_desk c.args.blocks v) _ _ _ 0 _ (opened_kept c.args.blocks v zero.version c.requires.least)
    (λ i. record { opened = zero.numbers i; last = c.of.ensures i; journal = c.new.ensures.entries i; pool = zero.pool i })
    (c.new.ensures.keeps ∙ c.keeps_batches-keeps.ensures ∙ ap (λ (w : VersionView). keeps_batches w.opening.limits) c.deref.ensures)
    (omega arith))
