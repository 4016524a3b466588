-- A batch with one insertion more, and a refusal of a part as one of the whole.
use Rattle.std.proofs.Common.{◌≡◌, ℕ, zero, suc, ◌+◌, ◌*◌, ◌<◌, ◌≤◌, ℤ, List, [], length, count_by, true, false, Option, Some, None}
use Rattle.std.proofs.Common.{refl, sym, ap, subst, inl, inr, ◌∙◌, arith}
use Rattle.std.specs.List.{list_any}
use Rattle.std.specs.Prelude.{Result, Ok, Err, IfOk}
use Rattle.graph_types.specs.{Limits.operation_limit, Step.is_expire, declared.batches.NamedOp.{NamedOp, TheVariants.Insert}}
use Rattle.block_reclamation.specs.Status.{is_free}
use Rattle.desk.specs.Refusals.{Refuses, asked, block_count}
use Rattle.owned_desk.specs.Owned.{OwnedView}
use Rattle.graph_types.specs.declared.refusals.ApplyError.{ApplyError}
use Rattle.desk.specs.declared.ready.Accepted.{Accepted}
use Rattle.graph_types.specs.declared.refusals.ApplyError.TheVariants.{BatchLimit, NamesFull, KindsFull, PoolEmpty, OutOfMemory as ApplyOutOfMemory}
use Rattle.batch_columns.specs.Dictionaries.{Insertions, insertion, insertion_at, insertions_from}
use Rattle.batch_columns.proofs.OneMore.{joined_parts}
use Rattle.desk_counts.specs.{declared.counts.Counts.Counts, Counted.with_outcomes}
use Rattle.desk_columns.specs.Feeding.{are_alike_columns, batch_length, AreIn, AreIn.Begin, BearsParts, CollectsFor, Collects, ComesBefore, IsFeedApplied}
use Rattle.desk_columns.specs.Feeding.{IsTried, MayCollect, RefusesNext, RefusesFed, RefusesRest, TakesFeed, TakesNext}
use Rattle.desk_columns.specs.declared.columns.InsertColumnsError.{InsertColumnsError}
use Rattle.desk_columns.specs.declared.columns.InsertColumnsError.TheVariants.{BadLength, BadInsertion, Refused, OutOfMemory}

-- a collection may come before each answer, and nothing before all but one
pub collected_before : (old from : OwnedView) (ops : List NamedOp) (answer : Result Accepted ApplyError) → CollectsFor ops old from
    → ComesBefore answer ops old from
collected_before old from ops (Ok accepted) collects = inr collects
collected_before old from ops (Err BatchLimit) collects = inr collects
collected_before old from ops (Err NamesFull) collects = inr collects
collected_before old from ops (Err KindsFull) collects = inr collects
collected_before old from ops (Err (PoolEmpty needed left)) collects = collects
collected_before old from ops (Err ApplyOutOfMemory) collects = inr collects

-- a batch that is refused, and not for its blocks
pub tried_once : (old new : OwnedView) (ops : List NamedOp) (error : ApplyError)
    → ((needed left : ℕ) → error ≡ PoolEmpty needed left → ⊥) → IsFeedApplied old ops (Err error) new → IsTried old ops (Err error) new
tried_once old new ops BatchLimit other applied = record { from = old; collected = inl refl; applied = applied }
tried_once old new ops NamesFull other applied = record { from = old; collected = inl refl; applied = applied }
tried_once old new ops KindsFull other applied = record { from = old; collected = inl refl; applied = applied }
tried_once old new ops (PoolEmpty needed left) other applied = absurd (other needed left refl)
tried_once old new ops ApplyOutOfMemory other applied = record { from = old; collected = inl refl; applied = applied }

-- a batch that is applied behind a collection
pub tried_again : (old before from new : OwnedView) (ops again : List NamedOp) (needed left : ℕ) (answer : Result Accepted ApplyError)
    → before ≡ old → again ≡ ops → Refuses old.desk.last (count_by is_free old.desk.pool) ops (PoolEmpty needed left)
    → Collects before from → IsFeedApplied from again answer new → IsTried old ops answer new
tried_again old before from new ops again needed left answer same one refused collects applied = record {
  from = from;
  collected = collected_before old from ops answer (needed, left, refused, subst (λ (o : OwnedView). Collects o from) same collects);
  applied = subst (λ (b : List NamedOp). IsFeedApplied from b answer new) one applied;
}

-- a batch that is taken is counted, and one that is refused left no more than a collection
pub taken_of : (old behind new : OwnedView) (counts counted : Counts) (ops : List NamedOp) (a : Accepted) → IsTried old ops (Ok a) behind
    → counted ≡ with_outcomes counts a.number a.outcomes → Collects behind new → TakesFeed old counts ops new counted
taken_of old behind new counts counted ops a tried counted_is collects = record {
  from = tried.from;
  collected = tried.collected;
  within = tried.applied.within;
  behind = behind;
  accepts = tried.applied.accepted;
  held = tried.applied.held;
  counted_is = counted_is ∙ (ap (λ (n : ℕ). with_outcomes counts n a.outcomes) tried.applied.number
      ∙ ap (with_outcomes counts (length behind.desk.last.batches)) tried.applied.outcomes_are);
  collects = collects;
}

pub refused_of : (old new : OwnedView) (ops : List NamedOp) (error : ApplyError) → IsTried old ops (Err error) new
    → RefusesFed old ops error new
refused_of old new ops error tried =
    let same : tried.from ≡ new = sym tried.applied.unchanged in (
      subst (λ (o : OwnedView). ComesBefore (Err error) ops old o) same tried.collected,
      subst (λ (o : OwnedView). Refuses o.desk.last (count_by is_free o.desk.pool) ops error) same tried.applied.refused,
    )

-- insertions expire nothing, so a batch of them asks for one block each
no_expiry : (kind : List ℕ) (weight : ℤ) (time : ℕ) (source target : Option (List ℕ)) (op : NamedOp)
    → insertion kind weight time source target ≡ Some op → is_expire op ≡ false
no_expiry kind weight time (Some source) (Some target) op is =
    let same : Insert kind source target weight time ≡ op = cc in
    ap is_expire (sym same)
no_expiry kind weight time None target op is = cc
no_expiry kind weight time (Some source) None op is = cc

insertions_are : (c : Insertions) (at n : ℕ) (ops : List NamedOp) → insertions_from c at n ≡ Some ops
    → (length ops ≡ n) × (list_any is_expire ops ≡ false)
insertions_are c at zero ops is =
    let none : ops ≡ [] = cc in
    rw none (refl, refl)
insertions_are c at (suc n) ops is =
    let parts = joined_parts (insertion_at c at) (insertions_from c (at + 1) n) ops is in
    let rest = insertions_are c (at + 1) n parts.1 parts.3 in
    let plain = no_expiry _ _ _ _ _ parts.0 parts.2 in
    rw parts.4 (ap suc rest.0, rw plain rest.1)

few_asked : (ops : List NamedOp) (used free : ℕ) → length ops ≤ free → list_any is_expire ops ≡ false → asked ops used ≤ free
few_asked ops used free le none = rw none (omega (arith, le))

bears : (ops : List NamedOp) (old from : OwnedView) → asked ops (block_count old.desk.last) ≤ count_by is_free old.desk.pool
    → MayCollect ops old from → from ≡ old
bears ops old from le (inl same) = same
bears ops old from le (inr (needed, left, refused, collects)) = absurd (omega (arith, refused.4, le))

uncollected : (ops : List NamedOp) (old from : OwnedView) (error : ApplyError)
    → asked ops (block_count old.desk.last) ≤ count_by is_free old.desk.pool → ComesBefore (Err error) ops old from → from ≡ old
uncollected ops old from BatchLimit le before = bears ops old from le before
uncollected ops old from NamesFull le before = bears ops old from le before
uncollected ops old from KindsFull le before = bears ops old from le before
uncollected ops old from (PoolEmpty needed left) le before = bears ops old from le (inr before)
uncollected ops old from ApplyOutOfMemory le before = bears ops old from le before

-- a batch that is refused where a block is free for each of its insertions leaves the desk as it was
pub left_as_it_was : (c : Insertions) (at parts : ℕ) (old new : OwnedView) (ops : List NamedOp) (error : ApplyError)
    → insertions_from c at (batch_length parts c at) ≡ Some ops → parts * operation_limit ≤ count_by is_free old.desk.pool
    → IsTried old ops (Err error) new → new ≡ old
left_as_it_was c at parts old new ops error are free tried =
    let (long, none) = insertions_are c at (batch_length parts c at) ops are in
    tried.applied.unchanged
    ∙ uncollected ops old tried.from error (few_asked ops _ _ (omega (arith, long, free)) none) tried.collected

-- a batch of several parts is one for which blocks are free
pub several : (o : OwnedView) (parts : ℕ) → BearsParts o parts → 1 < parts → parts * operation_limit ≤ count_by is_free o.desk.pool
several o parts (inl one) more = absurd (omega (arith, one, more))
several o parts (inr (few, free)) more = free

-- a batch of one part is the next one
pub next_of : (c : Insertions) (at : ℕ) (old before new : OwnedView) (counts between counted : Counts)
    (result : Result ℕ InsertColumnsError) → before ≡ old → between ≡ counts → at < length c.sources
    → IfOk result (λ count. count ≡ batch_length 1 c at)
    → IfOk result (λ count. (ops : List NamedOp) × (insertions_from c at count ≡ Some ops) × TakesFeed before between ops new counted)
    → IfOk result (λ count. TakesNext c at count old counts new counted)
next_of c at old before new counts between counted (Ok count) same told left long (ops, are, takes) = record {
  some = omega (arith, long, left);
  parts = 1;
  bears = inl refl;
  count_is = long;
  ops = ops;
  are = are;
  takes = subst (λ (it : Counts). TakesFeed old it ops new counted) told
      (subst (λ (o : OwnedView). TakesFeed o between ops new counted) same takes);
}
next_of c at old before new counts between counted (Err error) same told left long takes = tt

pub refused_rest : (c : Insertions) (done : ℕ) (old new : OwnedView) (error : InsertColumnsError) → are_alike_columns c ≡ true
    → done < length c.sources → RefusesNext c done old error new → RefusesRest c done old error new
refused_rest c done old new BadLength alike left refused = absurd refused.refuses
refused_rest c done old new (BadInsertion error) alike left refused = (alike, left, refused)
refused_rest c done old new (Refused error) alike left refused = (alike, left, refused)
refused_rest c done old new OutOfMemory alike left refused = (alike, left, refused)

pub refused_at : (c : Insertions) (at done : ℕ) (old new : OwnedView) (error : InsertColumnsError) → done ≡ at → are_alike_columns c ≡ true
    → at < length c.sources → RefusesNext c at old error new → RefusesRest c done old error new
refused_at c at done old new error same alike left refused =
    refused_rest c done old new error alike (subst (λ (n : ℕ). n < length c.sources) (sym same) left)
    (subst (λ (n : ℕ). RefusesNext c n old error new) (sym same) refused)

-- the insertions that are in: none, and the same ones
pub begun : (first : OwnedView) (start counts : Counts) (c : Insertions) → counts ≡ start → AreIn first start c 0 first counts
begun first start counts c same = subst (λ (it : Counts). AreIn first start c 0 first it) (sym same) Begin

pub still_in : (first : OwnedView) (start : Counts) (c : Insertions) (at done : ℕ) (fed : OwnedView) (counts told : Counts)
    → done ≡ at → told ≡ counts → AreIn first start c at fed counts → AreIn first start c done fed told
still_in first start c at done fed counts told same counted before =
    subst (λ (n : ℕ). AreIn first start c n fed told) (sym same)
    (subst (λ (it : Counts). AreIn first start c at fed it) (sym counted) before)
