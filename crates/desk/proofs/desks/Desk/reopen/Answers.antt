use Rattle.std.proofs.Common.{◌≡◌, List, length, map, sym, ap, subst, ◌∙◌, arith}
use Rattle.edge_block.specs.Slots.{BlockView}
use Rattle.graph_version.specs.{Versions.VersionView, Rebased.IsRebased, Logs.keeps_batches}
use Rattle.graph_version.specs.Rows.{blocks_of, numbers_of}
use Rattle.block_reclamation.specs.{declared.status.BlockStatus.{BlockStatus, TheVariants.Used}, Status.recycled}
use Rattle.block_pool.specs.Pools.{marked}
use Rattle.store_steps.specs.{Desks.{DeskView, last_numbers}, Opening.{IsVersionZero, opened_desk}}
use Rattle.store_steps.proofs.Reopening.{zero_over}
use Rattle.desk.specs.{Applying.AreInUseOnce, Openings.without_pins, Kept.{IsKeptDesk, desk_in, desk_of}, declared.desks.Parts.Parts}
use Rattle.desk.proofs.{Collections.{kept_same, opened_kept}, OpenedAnew.{last_used, pool_anew}}
use Rattle.desk.proofs.desks.Desk.reopen.Goals.{After-as_slice, After-drop-numbers-2}
use Rattle.desk.proofs.desks.Desk.reopen.Goals as goal

-- What is lent of the desk

lent : (c : After-as_slice) → IsKeptDesk (desk_in c.deref_mut-parts.result.now) c.deref_mut-parts.result.now.journal.keeps
    c.deref_mut-parts.result.now.journal.room
lent c = subst (λ (q : Parts). IsKeptDesk (desk_in q) q.journal.keeps q.journal.room) (sym c.deref_mut-parts.ensures.value)
    c.self.invariant

shown : (c : After-as_slice) → desk_in c.deref_mut-parts.result.now ≡ c.args.self.now
shown c = ap desk_in c.deref_mut-parts.ensures.value ∙ c.self.view_is

abbrev old : After-as_slice → DeskView
old c = desk_in c.deref_mut-parts.result.now

-- The version that it opens with

rebased : (c : After-as_slice) → IsRebased (old c).last c.in_ok-zero.zero
rebased c = subst (λ (v : VersionView). IsRebased v c.in_ok-zero.zero) (c.deref.ensures ∙ c.version-last.ensures)
    c.in_ok-zero.ensures.rebased

very : (c : After-as_slice) → c.in_ok-zero.zero.rows ≡ (old c).last.rows
very c = c.in_ok-zero.ensures.rows ∙ ap (λ (v : VersionView). v.rows) (c.deref.ensures ∙ c.version-last.ensures)

zero_is : (c : After-as_slice) → IsVersionZero (length (old c).pool) c.in_ok-zero.zero
zero_is c = zero_over (old c) c.in_ok-zero.zero (lent c).desk c.number-begun.ensures.version (rebased c) (very c)

pub reset_pool-requires : goal.reset_pool-requires
reset_pool-requires c =
    let same : c.as_slice.result.now ≡ last_numbers (old c) =
    c.as_slice.ensures.value ∙ c.in_ok-numbers.ensures ∙ ap (λ (rows : List (List BlockView)). numbers_of (blocks_of rows)) (very c) in
    subst (λ ns. AreInUseOnce ns (old c).pool) (sym same) (last_used (old c) (lent c).desk)

-- Its pool

pool_is : (c : After-as_slice) (pool : List BlockStatus)
    → pool ≡ map (recycled (without_pins c.number-ended.result))
    (marked c.as_slice.result.now (Used c.number-begun.result) (old c).pool)
    → pool ≡ (opened_desk (length (old c).pool) c.in_ok-zero.zero).pool
pool_is c pool is =
    pool_anew (old c) c.in_ok-zero.zero c.number-begun.result c.number-ended.result c.as_slice.result.now pool (lent c).desk
    (rebased c) (very c) c.number-begun.ensures.number
    (c.number-ended.ensures.number ∙ ap (λ (v : VersionView). length v.batches) (c.deref-2.ensures ∙ c.version-last.ensures))
    (c.as_slice.ensures.value ∙ c.in_ok-numbers.ensures) is

-- The desk at its opening

abbrev new : After-drop-numbers-2 → DeskView
new c = desk_of c.of-opened.result c.of.result c.new-2.result.entries c.reset_pool.new.pool

last_is : (c : After-drop-numbers-2) → c.of.result ≡ c.in_ok-zero.zero
last_is c = c.of.ensures ∙ c.in_ok-version.ensures.ok

is_opened : (b : After-as_slice) (c : After-drop-numbers-2) → c.reset_pool.new.pool ≡ (opened_desk (length (old b).pool) c.in_ok-zero.zero).pool
    → new c ≡ opened_desk (length (old b).pool) c.in_ok-zero.zero
is_opened b c pool = λ i. record {
  opened = c.of-opened.ensures i;
  last = last_is c i;
  journal = c.new-2.ensures.entries i;
  pool = pool i;
}

opened : (b : After-as_slice) (c : After-drop-numbers-2) → c.reset_pool.new.pool ≡ (opened_desk (length (old b).pool) c.in_ok-zero.zero).pool
    → new c ≡ opened_desk (length (old b).pool) c.of.result
opened b c pool = is_opened b c pool ∙ ap (opened_desk (length (old b).pool)) (sym (last_is c))

pub returns-clause-zero : goal.returns-clause-zero
returns-clause-zero c =
    let b = (goal.at.returns-clause-zero c).After-as_slice in
    subst (λ (d : DeskView). IsVersionZero (length d.pool) c.of.result) (shown b)
    (subst (IsVersionZero (length (old b).pool)) (sym (last_is c)) (zero_is b))

pub returns-clause-desk : goal.returns-clause-desk
returns-clause-desk c =
    let b = (goal.at.returns-clause-desk c).After-as_slice in
    opened b c (pool_is b _ c.reset_pool.ensures) ∙ ap (λ (d : DeskView). opened_desk (length d.pool) c.of.result) (shown b)

pub invariant_of-self-2 : goal.invariant_of-self-2
invariant_of-self-2 c =
    let b = (goal.at.invariant_of-self-2 c).After-as_slice in
    let z : VersionView = c.in_ok-zero.zero in
    kept_same (opened_desk (length (old b).pool) z) (new c) _ _ 0 _
    (opened_kept (length (old b).pool) z (zero_is b) (lent b).blocks_some) (is_opened b c (pool_is b _ c.reset_pool.ensures))
    (c.new-2.ensures.keeps ∙ c.keeps_batches.ensures
    ∙ ap (λ (w : VersionView). keeps_batches w.opening.limits) (c.deref-3.ensures ∙ c.in_ok-version.ensures.ok))
    (omega arith)
