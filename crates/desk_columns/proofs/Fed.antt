-- Insertions in columns, as a replay of their batches.
use Rattle.std.proofs.Common.{◌≡◌, ℕ, zero, suc, ◌+◌, List, [], ◌∷◌, ◌++◌, Option, Some, Result, Ok, Err, length, refl, ap, subst, inl, inr, ◌∙◌, arith, flat_map}
use Rattle.std.proofs.lemmas.List.{append-nil, flat_map_more}
use Rattle.graph_types.specs.declared.{batches.NamedOp.NamedOp, refusals.ApplyError.ApplyError}
use Rattle.graph_types.specs.declared.refusals.ApplyError.TheVariants.{BatchLimit, NamesFull, KindsFull, PoolEmpty, OutOfMemory as NoMemory}
use Rattle.owned_desk.specs.Owned.{OwnedView}
use Rattle.batch_columns.specs.Dictionaries.{Insertions, in_order, insertion_at, insertions_from, joined_operations}
use Rattle.batch_columns.proofs.OneMore.{joined_parts}
use Rattle.desk_counts.specs.{declared.counts.Counts.Counts, Counted.none_counted}
use Rattle.desk_columns.specs.declared.columns.InsertColumnsError.{InsertColumnsError}
use Rattle.desk_columns.specs.declared.columns.InsertColumnsError.TheVariants.{BadLength, BadInsertion, Refused, OutOfMemory}
use Rattle.desk_columns.specs.Feeding.{AreIn, AreIn.Begin, AreIn.More, CollectsFor, ComesBefore, Ends, Feeds, MayCollect, RefusesBatch, TakesFeed}
use Rattle.desk_columns.specs.Replay.{FeedsInsertions, Replayed, TidiesOften}
use Rattle.desk_columns.proofs.Replayed.{joined}

-- what is at so many places, and at so many more behind them
many_more : (op_at : ℕ → Option NamedOp) (at m n k : ℕ) (some others : List NamedOp) → k ≡ m + n → in_order op_at at m ≡ Some some
    → in_order op_at (at + m) n ≡ Some others → in_order op_at at k ≡ Some (some ++ others)
many_more op_at at zero n k some others count are more =
    let none : some ≡ [] = cc in
    let same : k ≡ n = omega arith in
    let place : at ≡ at + 0 = omega arith in
    rw none (ap (in_order op_at at) same ∙ (ap (λ (a : ℕ). in_order op_at a n) place ∙ more))
many_more op_at at (suc m) n k some others count are more =
    let parts = joined_parts (op_at at) (in_order op_at (at + 1) m) some are in
    let same : k ≡ suc (m + n) = omega arith in
    let place : at + 1 + m ≡ at + suc m = omega arith in
    let rest : in_order op_at (at + 1) (m + n) ≡ Some (parts.1 ++ others) =
    many_more op_at (at + 1) m n (m + n) parts.1 others refl parts.3 (ap (λ (a : ℕ). in_order op_at a n) place ∙ more) in
    rw parts.4 (ap (in_order op_at at) same
    ∙ (ap (λ (o : Option NamedOp). joined_operations o (in_order op_at (at + 1) (m + n))) parts.2
    ∙ ap (joined_operations (Some parts.0)) rest))

collected_for : (ops : List NamedOp) (old new : OwnedView) → CollectsFor ops old new → (n : ℕ) × TidiesOften n old new
collected_for ops old new (needed, left, refused, collects) = (1, (new, inl collects, refl))

may_collect : (ops : List NamedOp) (old new : OwnedView) → MayCollect ops old new → (n : ℕ) × TidiesOften n old new
may_collect ops old new (inl same) = (0, same)
may_collect ops old new (inr collects) = collected_for ops old new collects

one_fed : (old new : OwnedView) (counts counted : Counts) (ops : List NamedOp) → TakesFeed old counts ops new counted
    → Replayed (ops ∷ []) old new
one_fed old new counts counted ops takes =
    let (n, tidied) = may_collect ops old takes.from takes.collected in
    (n, takes.from, takes.behind, tidied, record { accepted = takes.accepts; held = takes.held }, (1, (new, inl takes.collects, refl)))

are_fed : (first : OwnedView) (start : Counts) (c : Insertions) (at : ℕ) (o : OwnedView) (counts : Counts)
    → AreIn first start c at o counts → FeedsInsertions c at first o
are_fed first start c at o counts Begin = record { batches = []; replayed = (0, refl); are = refl }
are_fed first start c at o counts (More before count old new was counted are_in takes) =
    let fed = are_fed first start c before old was are_in in
    let place : 0 + before ≡ before = omega arith in
    let more : insertions_from c (0 + before) count ≡ Some takes.ops =
    ap (λ (a : ℕ). insertions_from c a count) place ∙ takes.are in
    record {
      batches = fed.batches ++ takes.ops ∷ [];
      replayed = joined fed.batches (takes.ops ∷ []) first old new fed.replayed (one_fed old new was counted takes.ops takes.takes);
      are = many_more (insertion_at c) 0 before count (before + count) (flat_map (λ batch. batch) fed.batches) takes.ops refl fed.are more
          ∙ ap Some (flat_map_more (λ batch. batch) [] fed.batches takes.ops);
    }

-- what a refusal may leave

comes_before : (error : ApplyError) (ops : List NamedOp) (old new : OwnedView) → ComesBefore (Err error) ops old new
    → (n : ℕ) × TidiesOften n old new
comes_before BatchLimit ops old new before = may_collect ops old new before
comes_before NamesFull ops old new before = may_collect ops old new before
comes_before KindsFull ops old new before = may_collect ops old new before
comes_before (PoolEmpty needed left) ops old new before = collected_for ops old new before
comes_before NoMemory ops old new before = may_collect ops old new before

refused_batch : (parts : ℕ) (c : Insertions) (at : ℕ) (old new : OwnedView) (error : InsertColumnsError)
    → RefusesBatch parts c at old error new → (n : ℕ) × TidiesOften n old new
refused_batch parts c at old new BadLength refuses = absurd refuses
refused_batch parts c at old new (BadInsertion error) refuses = (0, refuses.1)
refused_batch parts c at old new (Refused error) refuses = comes_before error refuses.0 old new refuses.2.0
refused_batch parts c at old new OutOfMemory refuses = (0, refuses)

ended : (c : Insertions) (done : ℕ) (old new : OwnedView) (answer : Result (Unit {0}) InsertColumnsError) → Ends c done old answer new
    → (n : ℕ) × TidiesOften n old new
ended c done old new (Ok all) ends = (0, ends.2)
ended c done old new (Err BadLength) ends = (0, ends.2)
ended c done old new (Err (BadInsertion error)) ends = refused_batch ends.2.parts c done old new (BadInsertion error) ends.2.refuses
ended c done old new (Err (Refused error)) ends = refused_batch ends.2.parts c done old new (Refused error) ends.2.refuses
ended c done old new (Err OutOfMemory) ends = refused_batch ends.2.parts c done old new OutOfMemory ends.2.refuses

pub fed_insertions : (old new : OwnedView) (c : Insertions) (answer : Result (Unit {0}) InsertColumnsError) (counts : Counts) (done : ℕ)
    → Feeds old c answer new counts done → FeedsInsertions c done old new
fed_insertions old new c answer counts done feeds =
    let fed = are_fed old (none_counted (length old.desk.last.batches)) c done feeds.fed counts feeds.are_in in
    let replayed = joined fed.batches [] old feeds.fed new fed.replayed (ended c done feeds.fed new answer feeds.ends) in
    record {
      batches = fed.batches;
      replayed = subst (λ (bs : List (List NamedOp)). Replayed bs old new) (append-nil fed.batches) replayed;
      are = fed.are;
    }
