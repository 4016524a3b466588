use Rattle.std.proofs.Common.{◌≡◌, ℕ, ◌≤◌, length, sym, ap, subst, ◌∙◌, arith, count_by}
use Rattle.std.{proofs.lemmas.Grind.common_steps}
use Rattle.block_reclamation.specs.Status.{is_reclaimable, is_retired}
use Rattle.store_steps.{specs.{Desks.{DeskView, IsCollected, births_in}, Steps.{SimulatesAt, recycling}}, proofs.Collecting.collection_simulates}
use Rattle.store_steps.proofs.CollectedDesk.{recycled_and_left, is_collected, births_collected, desk_collected}
use Rattle.desk.{specs.{Kept.{IsKeptDesk, desk_in, desk_of}, declared.desks.Parts.Parts}, proofs.Collections.collection_kept}
use Rattle.desk.proofs.desks.Desk.collect.Goals.{After-recycle-recycled, After-enter_collection}
use Rattle.desk.proofs.desks.Desk.collect.Goals as goal

-- what is lent of the desk
kept : (c : After-recycle-recycled) → IsKeptDesk (desk_in c.deref_mut-parts.result.now) c.deref_mut-parts.result.now.journal.keeps
    c.deref_mut-parts.result.now.journal.room
kept c = subst (λ (q : Parts). IsKeptDesk (desk_in q) q.journal.keeps q.journal.room) (sym c.deref_mut-parts.ensures.value)
    c.self.invariant

shown : (c : After-recycle-recycled) → desk_in c.deref_mut-parts.result.now ≡ c.args.self.now
shown c = ap desk_in c.deref_mut-parts.ensures.value ∙ c.self.view_is

pub enter_collection-requires : goal.enter_collection-requires
enter_collection-requires c = λ some.
    let parts = recycled_and_left c.args.copy.now c.deref_mut-parts.result.now.pool in
    let room = (kept (goal.at.enter_collection-requires c).After-recycle-recycled).room_is in
    let count = c.recycle-recycled.ensures.count in
    omega arith

-- the desk as it was, and once the collection is entered
abbrev old : After-enter_collection → DeskView
old c = desk_in c.deref_mut-parts.result.now

abbrev new : After-enter_collection → DeskView
new c =
    let p = c.deref_mut-parts.result.now in
    desk_of p.opened p.last c.enter_collection.new.journal.entries c.recycle-recycled.new.self

is_new : (c : After-enter_collection) → new c ≡ desk_collected (old c) c.args.copy.now
is_new c = grind (arith, common_steps)

collected : (c : After-enter_collection) → IsCollected (old c) c.args.copy.now (new c)
collected c = is_collected (old c) (new c) c.args.copy.now (is_new c)

pub invariant_of-self : goal.invariant_of-self
invariant_of-self c =
    let a = (goal.at.invariant_of-self c).After-enter_collection in
    let b = (goal.at.invariant_of-self c).After-recycle-recycled in
    let low : c.args.copy.now.last ≤ length c.deref_mut-parts.result.now.last.batches =
    subst (λ (d : DeskView). c.args.copy.now.last ≤ length d.last.batches) (sym (shown b)) c.requires in
    let parts = recycled_and_left c.args.copy.now c.deref_mut-parts.result.now.pool in
    let left = ap (count_by is_retired) c.recycle-recycled.ensures.pool in
    let room = (kept b).room_is in
    let count = c.recycle-recycled.ensures.count in
    collection_kept (old a) (new a) c.args.copy.now _ _ _ _ (kept b) low (is_new a) c.enter_collection.ensures.keeps
    (omega (arith, parts, left, room, count, c.enter_collection.ensures.room))

pub returns-clause-steps : goal.returns-clause-steps
returns-clause-steps c =
    let a = (goal.at.returns-clause-steps c).After-enter_collection in
    subst (λ (d : DeskView). SimulatesAt c.args.copy.now d (recycling c.args.copy.now d.pool) (new a))
    (shown (goal.at.returns-clause-steps c).After-recycle-recycled)
    (collection_simulates (old a) (new a) c.args.copy.now (collected a))

pub returns-clause-collected : goal.returns-clause-collected
returns-clause-collected c =
    let a = (goal.at.returns-clause-collected c).After-enter_collection in
    subst (λ (d : DeskView). IsCollected d c.args.copy.now (new a)) (shown (goal.at.returns-clause-collected c).After-recycle-recycled)
    (collected a)

pub returns-clause-births : goal.returns-clause-births
returns-clause-births c =
    let a = (goal.at.returns-clause-births c).After-enter_collection in
    let b = (goal.at.returns-clause-births c).After-recycle-recycled in
    subst (λ (d : DeskView). (source : ℕ) → births_in (new a) source ≡ births_in d source) (shown b)
    (births_collected (old a) (new a) c.args.copy.now (kept b).desk (collected a))

pub returns-clause-recycled : goal.returns-clause-recycled
returns-clause-recycled c =
    c.recycle-recycled.ensures.count ∙ ap (λ (d : DeskView). count_by (is_reclaimable c.args.copy.now) d.pool)
    (shown (goal.at.returns-clause-recycled c).After-recycle-recycled)
