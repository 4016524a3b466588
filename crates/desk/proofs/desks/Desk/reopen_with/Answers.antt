use Rattle.std.proofs.Common.{◌≡◌, ◌≤◌, length, sym, ap, subst, ◌∙◌, arith}
use Rattle.std.specs.Arc.{arc_value}
use Rattle.graph_version.specs.{Versions.VersionView, Logs.keeps_batches, declared.versions.Version.Version}
use Rattle.store_steps.specs.{Desks.DeskView, Opening.opened_desk}
use Rattle.desk.specs.{Kept.{IsKeptDesk, desk_in, desk_of}, declared.desks.Parts.Parts}
use Rattle.desk.proofs.Collections.{kept_same, opened_kept}
use Rattle.desk.proofs.desks.Desk.reopen_with.Goals.{After-of}
use Rattle.desk.proofs.desks.Desk.reopen_with.Goals as goal

-- What is lent of the desk

lent : (c : After-of) → IsKeptDesk (desk_in c.deref_mut-parts.result.now) c.deref_mut-parts.result.now.journal.keeps
    c.deref_mut-parts.result.now.journal.room
lent c = subst (λ (q : Parts). IsKeptDesk (desk_in q) q.journal.keeps q.journal.room) (sym c.deref_mut-parts.ensures.value)
    c.self.invariant

shown : (c : After-of) → desk_in c.deref_mut-parts.result.now ≡ c.args.self.now
shown c = ap desk_in c.deref_mut-parts.ensures.value ∙ c.self.view_is

-- The desk at its opening

abbrev zero : After-of → VersionView
zero c = arc_value {X = Version} c.args.zero.version

abbrev new : After-of → DeskView
new c = desk_of c.args.zero.numbers c.of.result c.new.result.entries c.args.zero.pool

is_opened : (c : After-of) → new c ≡ opened_desk (length c.args.self.now.pool) (zero c)
is_opened c = λ i. record {
  opened = c.requires.numbers i;
  last = c.of.ensures i;
  journal = c.new.ensures.entries i;
  pool = c.requires.pool i;
}

pub returns : goal.returns
returns c = is_opened (goal.at.returns c).After-of

pub invariant_of-self : goal.invariant_of-self
invariant_of-self c =
    let b = (goal.at.invariant_of-self c).After-of in
    let blocks = length c.args.self.now.pool in
    kept_same (opened_desk blocks (zero b)) (new b) _ _ 0 _
    (opened_kept blocks (zero b) c.requires.version
    (subst (λ (d : DeskView). 16 ≤ length d.pool) (shown b) (lent b).blocks_some)) (is_opened b)
    (c.new.ensures.keeps ∙ c.keeps_batches.ensures ∙ ap (λ (w : VersionView). keeps_batches w.opening.limits) c.deref.ensures)
    (omega arith)
