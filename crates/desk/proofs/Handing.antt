-- A batch handed over: what the desk's call does with what was made of it.
use Rattle.std.proofs.Common.{◌≡◌, ℕ, ◌+◌, ◌≤◌, Bool, true, List, [], ◌∷◌, ◌++◌, length, sym, ap, subst, ◌∙◌, arith}
use Rattle.std.proofs.{Common.{count_by, vec_len}, lemmas.{Grind.common_steps, List.length-map}}
use Rattle.std.specs.{List.sum_by, Arc.arc_value}
use Rattle.graph_types.specs.{Graph.Graph, declared.batches.NamedOp.NamedOp}
use Rattle.batch_shards.specs.RowBlocks.{block_of, shared_blocks, shared_numbers}
use Rattle.graph_version.specs.{declared.versions.Version.Version, Versions.VersionView, Versions.content, Logs.keeps_batches}
use Rattle.block_reclamation.specs.{Status.{is_among, is_free, is_retired, is_in_use}, declared.status.BlockStatus.BlockStatus}
use Rattle.block_reclamation.specs.declared.status.BlockStatus.TheVariants.{Free, Granted, Used}
use Rattle.block_pool.specs.Pools.{retired, marked, changed_numbers, AreFree}
use Rattle.store_steps.specs.{Journal.Entry, Desks.{DeskView, IsDesk}, Acceptances.{Accepts, IsAppliedTo}}
use Rattle.store_steps.proofs.{BatchLaws.made_accepts, Accepting.made_desk, RetiredCounts.retired_room}
use Rattle.store_steps.proofs.Applications.{DeskApplication, next_desk, born_pool, retired_pool, moves_left}
use Rattle.store_steps.proofs.GrantedBlocks.{taken_granted}
use Rattle.store_steps.proofs.GrantedBlocks.{taken_movable, dropped_movable, unused_movable, granted_movable}
use Rattle.store_steps.proofs.GrantedBlocks.{born_movable, born_given_back}
use Rattle.batch_apply.{specs.declared.plans.Plan.Plan, proofs.Asked.needs_within}
use Rattle.graph_types.specs.declared.refusals.ApplyError.{ApplyError}
use Rattle.desk.specs.declared.entries.JournalEntry.{JournalEntry}
use Rattle.desk.specs.{declared.applying.Prepared.Prepared, Kept.{IsKeptDesk, desk_of, journal_entry}}
use Rattle.desk.specs.{Applying.{AreInUseOnce, AreUsedOnce, IsPrepared, application_of}, Refusals.{Refuses, RefusesGrant, IsPlanned, IsWithin, asked}}
use Rattle.desk.{specs.Refusals.block_count, proofs.UsedBlocks.used_blocks}
use Rattle.graph_version.specs.Rows as rows
use Rattle.batch_shards.proofs.SharedNumbers.{numbers_mapped}
use Rattle.store_steps.proofs.Handover.{next_long}
use Rattle.desk.specs.declared.entries.JournalEntry.TheVariants as entries

pub record Handing : Type 0 where
  pub old : DeskView
  pub ops : List NamedOp
  pub numbers : List ℕ
  pub handed : List ℕ
  pub prepared : Prepared
  pub pool : List BlockStatus
  pub before : IsDesk old
  pub free : AreFree old.pool numbers
  pub same : handed ≡ numbers
  pub is_prepared : IsPrepared old.last ops handed prepared
  pub granted : pool ≡ marked numbers Granted old.pool

abbrev pub version_of : Handing → VersionView
version_of h = arc_value {X = Version} h.prepared.version

abbrev pub application : Handing → DeskApplication
application h = record {
  old = h.old;
  made = application_of h.ops h.numbers h.prepared;
  before = h.before;
  free = h.free;
  applied = subst (λ ns. IsAppliedTo h.old.last (application_of h.ops ns h.prepared)) h.same h.is_prepared.applied;
}

-- The grant is within what is asked for, since the used blocks are the last version's

pub grant_within : (d : DeskView) (v : VersionView) (workers : ℕ) (ops : List NamedOp) (plan : Plan) → IsDesk d → v ≡ d.last
    → IsPlanned v workers ops plan → sum_by (λ n. n) plan.needs.items ≤ asked ops (count_by is_in_use d.pool)
grant_within d v workers ops plan desk last admitted =
    let used : block_count v ≡ count_by is_in_use d.pool = ap block_count last ∙ sym (used_blocks d desk) in
    subst (λ n. sum_by (λ n. n) plan.needs.items ≤ asked ops n) used
    (needs_within workers ops (content v) v.rows plan admitted.planned)

-- The grant is given back

pub back_used : (pool new : List BlockStatus) (numbers : List ℕ) → AreFree pool numbers → new ≡ marked numbers Granted pool
    → AreInUseOnce numbers new
back_used pool new numbers free is =
    let m = granted_movable pool numbers free in subst (AreInUseOnce numbers) (sym is) (record { pass = m.pass; apart = m.apart })

-- and so it is where some of the granted numbers were born meanwhile

taken_within : (h : Handing) (m : ℕ) → is_among m h.prepared.taken.items ≡ true → is_among m h.numbers ≡ true
taken_within h m is = taken_granted (application h) m is

pub born_used : (h : Handing) (number : ℕ) (new : List BlockStatus) → new ≡ marked h.prepared.taken.items (Used number) h.pool
    → AreInUseOnce h.numbers new
born_used h number new is =
    let m = born_movable h.old.pool h.numbers h.prepared.taken.items number h.free in
    subst (AreInUseOnce h.numbers) (sym (is ∙ ap (marked h.prepared.taken.items (Used number)) h.granted))
    (record { pass = m.pass; apart = m.apart })

pub born_same : (h : Handing) (number : ℕ) (new end : List BlockStatus) → new ≡ marked h.prepared.taken.items (Used number) h.pool
    → end ≡ marked h.numbers Free new → end ≡ h.old.pool
born_same h number new end is after =
    after ∙ ap (marked h.numbers Free) (is ∙ ap (marked h.prepared.taken.items (Used number)) h.granted)
    ∙ born_given_back h.old.pool h.numbers h.prepared.taken.items number h.free (taken_within h)

-- The blocks' moves

dropped_is : (h : Handing) → shared_numbers h.prepared.dropped.items ≡ rows.numbers_of (shared_blocks h.prepared.dropped.items)
dropped_is h = sym (numbers_mapped h.prepared.dropped.items)

born_is : (h : Handing) (number : ℕ) (born : List BlockStatus) → number ≡ length h.old.last.batches + 1
    → born ≡ marked h.prepared.taken.items (Used number) h.pool → born ≡ born_pool (application h)
born_is h number born is made = made ∙ (λ i. marked h.prepared.taken.items (Used (is i)) (h.granted i))

retired_is : (h : Handing) (number : ℕ) (born : List BlockStatus) → number ≡ length h.old.last.batches + 1
    → born ≡ marked h.prepared.taken.items (Used number) h.pool
    → changed_numbers (retired number) (shared_numbers h.prepared.dropped.items) born ≡ retired_pool (application h)
retired_is h number born is made =
    λ i. changed_numbers (retired (is i)) (dropped_is h i) (born_is h number born is made i)

pub taken_once : (h : Handing) → AreInUseOnce h.prepared.taken.items h.pool
taken_once h =
    let m = taken_movable (application h) in
    subst (AreInUseOnce h.prepared.taken.items) (sym h.granted) (record { pass = m.pass; apart = m.apart })

pub dropped_once : (h : Handing) (number : ℕ) (born : List BlockStatus) → number ≡ length h.old.last.batches + 1
    → born ≡ marked h.prepared.taken.items (Used number) h.pool → AreUsedOnce (shared_numbers h.prepared.dropped.items) born
dropped_once h number born is made =
    let m = dropped_movable (application h) in
    let once : AreUsedOnce (rows.numbers_of (shared_blocks h.prepared.dropped.items)) (born_pool (application h)) =
    record { pass = m.pass; apart = m.apart } in
    subst (AreUsedOnce (shared_numbers h.prepared.dropped.items)) (sym (born_is h number born is made))
    (subst (λ ns. AreUsedOnce ns (born_pool (application h))) (sym (dropped_is h)) once)

pub unused_once : (h : Handing) (number : ℕ) (born : List BlockStatus) → number ≡ length h.old.last.batches + 1
    → born ≡ marked h.prepared.taken.items (Used number) h.pool
    → AreInUseOnce (shared_numbers h.prepared.unused.items) (changed_numbers (retired number) (shared_numbers h.prepared.dropped.items) born)
unused_once h number born is made =
    let m = unused_movable (application h) in
    subst (AreInUseOnce (shared_numbers h.prepared.unused.items)) (sym (retired_is h number born is made))
    (record { pass = m.pass; apart = m.apart })

pub end_pool : (h : Handing) (number : ℕ) (born end : List BlockStatus) → number ≡ length h.old.last.batches + 1
    → born ≡ marked h.prepared.taken.items (Used number) h.pool → end ≡ marked (shared_numbers h.prepared.unused.items) Free
    (changed_numbers (retired number) (shared_numbers h.prepared.dropped.items) born) → end ≡ (next_desk (application h)).pool
end_pool h number born end is made moved =
    moved ∙ ap (marked (shared_numbers h.prepared.unused.items) Free) (retired_is h number born is made) ∙ moves_left (application h)

-- The desk afterwards

abbrev pub entry_in : Handing → JournalEntry
entry_in h = entries.Applied h.prepared.batch h.prepared.taken.items h.prepared.dropped_numbers.items

pub end_desk : (h : Handing) (opened : List ℕ) (last : VersionView) (entries old_entries : List Entry)
    (pool : List BlockStatus) → h.old.opened ≡ opened → old_entries ≡ h.old.journal → last ≡ version_of h
    → entries ≡ old_entries ++ journal_entry (entry_in h) ∷ [] → pool ≡ (next_desk (application h)).pool
    → desk_of opened last entries pool ≡ next_desk (application h)
end_desk h opened last entries old_entries pool same_opened before same_last same_entries same_pool =
    grind (arith, common_steps, dropped_is)

pub end_accepts : (h : Handing) (new : DeskView) → new ≡ next_desk (application h) → Accepts h.old h.ops new
end_accepts h new is = subst (Accepts h.old h.ops) (sym is) (made_accepts (application h))

pub end_room : (h : Handing) (end : List BlockStatus) → end ≡ (next_desk (application h)).pool
    → count_by is_retired end ≤ count_by is_retired h.pool + length h.prepared.dropped.items
end_room h end is =
    let a = ap (count_by is_retired) is in
    let b = ap (count_by is_retired) h.granted in
    let many : length (shared_blocks h.prepared.dropped.items) ≡ length h.prepared.dropped.items =
    length-map h.prepared.dropped.items block_of in
    let room = retired_room (application h) in
    omega arith

-- the journal's room for what is retired then, where as much was made as for what was retired and what was dropped
pub end_fits : (h : Handing) (end : List BlockStatus) (room before dropped : ℕ) → end ≡ (next_desk (application h)).pool
    → before ≡ count_by is_retired h.pool → dropped ≡ vec_len h.prepared.dropped → before + dropped ≤ room
    → count_by is_retired end ≤ room
end_fits h end room before dropped is retired many fits =
    let fewer = end_room h end is in let ok = h.prepared.dropped.ok in omega (arith, ok.0)

pub end_kept : (h : Handing) (new : DeskView) (keeps : Bool) (room : ℕ) → new ≡ next_desk (application h) → 16 ≤ length h.old.pool
    → keeps ≡ keeps_batches h.old.last.opening.limits → count_by is_retired new.pool ≤ room → IsKeptDesk new keeps room
end_kept h new keeps room is some kept fits = record {
  desk = subst IsDesk (sym is) (made_desk (application h));
  blocks_some =
      let same = ap (λ (d : DeskView). length d.pool) is in
      let as_many = next_long (application h) in
      omega arith;
  keeps_are = kept ∙ ap (λ (g : Graph). keeps_batches g.limits) (sym h.is_prepared.applied.opening)
      ∙ ap (λ (d : DeskView). keeps_batches d.last.opening.limits) (sym is);
  room_is = fits;
}

-- Refusals

module _ (d : DeskView) (v : VersionView) (workers : ℕ) (ops : List NamedOp) (plan : Plan) (desk : IsDesk d) (last : v ≡ d.last)
    (admitted : IsPlanned v workers ops plan) where
  pub desk_refuses : (e : ApplyError) → RefusesGrant (asked ops (count_by is_in_use d.pool)) (count_by is_free d.pool) e
      → Refuses d.last (count_by is_free d.pool) ops e
  desk_refuses e refuses = grind (arith, common_steps, used_blocks)

  pub desk_admits : asked ops (count_by is_in_use d.pool) ≤ count_by is_free d.pool
      → IsWithin d.last (count_by is_free d.pool) ops
  desk_admits enough = grind (arith, common_steps, used_blocks)

-- a batch handed over, by what is known of the version that was lent
abbrev pub handing : (old : DeskView) (ops : List NamedOp) (numbers handed : List ℕ) (prepared : Prepared) (pool : List BlockStatus)
    (v : VersionView) → IsDesk old → AreFree old.pool numbers → handed ≡ numbers → v ≡ old.last → IsPrepared v ops handed prepared
    → pool ≡ marked numbers Granted old.pool → Handing
handing old ops numbers handed prepared pool v before free same last is_prepared granted = record {
  old = old;
  ops = ops;
  numbers = numbers;
  handed = handed;
  prepared = prepared;
  pool = pool;
  before = before;
  free = free;
  same = same;
  is_prepared = subst (λ (w : VersionView). IsPrepared w ops handed prepared) last is_prepared;
  granted = granted;
}
