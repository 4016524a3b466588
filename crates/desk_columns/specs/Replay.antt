-- A replay: batches that a desk with one owner accepts, one after another, and between them what changes none of its content. What
-- it leaves, where it may be cut, what may stand in the place of the batches before a cut, and what comes of a batch that stands
-- twice.
use Rattle.std.specs.Prelude.{◌≡◌, ◌⊎◌, ◌==◌, ◌++◌, ◌∷◌, [], ℕ, zero, suc, nat_lt, List, take, drop, Bool, true, Option, None, Some}
use Rattle.std.specs.{Prelude.{if◌then◌else◌, Result, flat_map}, List.list_any}
use Rattle.graph_types.specs.{Graph.unlimited, Step.{after_all, empty_graph_in, left_by}, declared.batches.NamedOp.NamedOp}
use Rattle.graph_version.specs.{Rebased.IsRebased, Versions.content}
use Rattle.store_steps.specs.Acceptances.{Accepts}
use Rattle.owned_desk.specs.Owned.{OwnedView}
use Rattle.batch_columns.specs.{Dictionaries.{Insertions, insertions_from}, Operations.OperationTable}
use Rattle.desk_counts.specs.declared.counts.Counts.{Counts}
use Rattle.desk_columns.specs.{Feeding.{Collects, Feeds}, Opening.IsOpenedBy, declared.columns.InsertColumnsError.InsertColumnsError}

-- the desk has accepted a batch, in the words of `OwnedDesk::apply`, and what is held of it stays held
pub record AppliesBatch (old : OwnedView) (batch : List NamedOp) (new : OwnedView) : Type 0 where
  pub accepted : Accepts old.desk batch new.desk
  pub held : new ≡ record old { desk = new.desk }

-- what may be done between two batches: a collection, or a rebase; and so many of these, one after another
abbrev pub Tidies : OwnedView → OwnedView → Type 0
Tidies old new = Collects old new ⊎ IsRebased old.desk.last new.desk.last

abbrev pub TidiesOften : ℕ → OwnedView → OwnedView → Type 0
TidiesOften zero old new = new ≡ old
TidiesOften (suc n) old new = (next : OwnedView) × Tidies old next × TidiesOften n next new

-- the old desk accepted these batches, one after another, and became the new one
abbrev pub Replayed : List (List NamedOp) → OwnedView → OwnedView → Type 0
Replayed [] old new = (n : ℕ) × TidiesOften n old new
Replayed (batch ∷ batches) old new =
    (n : ℕ) × (ready after : OwnedView) × TidiesOften n old ready × AppliesBatch ready batch after × Replayed batches after new

-- What is left is what the batches leave, one after another, of the content that there was
abbrev pub LeavesItsBatches : Type 0
LeavesItsBatches =
    (batches : List (List NamedOp)) (old new : OwnedView) → Replayed batches old new
    → content new.desk.last ≡ left_by batches (content old.desk.last)

-- The cut

-- behind the first batches, so many: they lead to a desk that has what they leave of the old one's content, and the others lead
-- from there to the new one
pub record IsCutAt (k : ℕ) (batches : List (List NamedOp)) (old new : OwnedView) : Type 0 where
  pub between : OwnedView
  pub before : Replayed (take k batches) old between
  pub content_is : content between.desk.last ≡ left_by (take k batches) (content old.desk.last)
  pub others : Replayed (drop k batches) between new

abbrev pub IsCutAnywhere : Type 0
IsCutAnywhere =
    (batches : List (List NamedOp)) (old new : OwnedView) → Replayed batches old new → (k : ℕ) → IsCutAt k batches old new

-- and parts that meet are one replay
abbrev pub JoinsParts : Type 0
JoinsParts =
    (before others : List (List NamedOp)) (old between new : OwnedView) → Replayed before old between → Replayed others between new
    → Replayed (before ++ others) old new

-- The base

-- a desk opened by columns, whose operations leave of the empty graph what these batches leave of the old desk's content. Its
-- limits may be others, but for that of weights, so that the same sums overflow
pub record IsBaseOf (batches : List (List NamedOp)) (old : OwnedView) (t : OperationTable) (empty base : OwnedView) : Type 0 where
  pub opened : IsOpenedBy t empty base
  pub weights : (content empty.desk.last).limits.weight ≡ (content old.desk.last).limits.weight
  pub leaves : unlimited (after_all opened.ops (empty_graph_in (content empty.desk.last).limits))
      ≡ unlimited (left_by batches (content old.desk.last))

-- a base of the first batches, so many, and the others behind it come to what all batches come to
abbrev pub IsEnoughWithBase : Type 0
IsEnoughWithBase =
    (batches : List (List NamedOp)) (k : ℕ) (old new empty base last : OwnedView) (t : OperationTable)
    → Replayed batches old new → IsBaseOf (take k batches) old t empty base → Replayed (drop k batches) base last
    → unlimited (content last.desk.last) ≡ unlimited (content new.desk.last)

-- Insertions in columns

-- so many insertions from the first on were replayed, in batches
pub record FeedsInsertions (c : Insertions) (done : ℕ) (old new : OwnedView) : Type 0 where
  pub batches : List (List NamedOp)
  pub replayed : Replayed batches old new
  pub are : insertions_from c 0 done ≡ Some (flat_map (λ batch. batch) batches)

-- what a call with columns comes to is a replay of the insertions that are in
abbrev pub ReplaysInsertions : Type 0
ReplaysInsertions =
    (old new : OwnedView) (c : Insertions) (answer : Result (Unit {0}) InsertColumnsError) (counts : Counts) (done : ℕ)
    → Feeds old c answer new counts done → FeedsInsertions c done old new

-- Once

-- a batch that one producer sent, and its number in the producer's order
pub record SentBatch : Type 0 where
  pub sequence : ℕ
  pub batch : List NamedOp

-- whether a number is greater than that of the last batch that is in, if any is
abbrev pub is_new_behind : Option ℕ → ℕ → Bool
is_new_behind None sequence = true
is_new_behind (Some last) sequence = nat_lt last sequence

-- the batches that are new, in order; the others are passed over
abbrev pub new_batches : Option ℕ → List SentBatch → List (List NamedOp)
new_batches last [] = []
new_batches last (sent ∷ more) =
    if is_new_behind last sent.sequence then sent.batch ∷ new_batches (Some sent.sequence) more else new_batches last more

abbrev pub was_sent : ℕ → List SentBatch → Bool
was_sent sequence sent = list_any (λ s. s.sequence == sequence) sent

-- a batch under a number that was sent before is no new one: with it in the journal and without it a replay comes to the same
pub record IsOnce (last : Option ℕ) (before others : List SentBatch) (again : SentBatch) : Type 0 where
  pub batches : new_batches last (before ++ again ∷ others) ≡ new_batches last (before ++ others)
  pub content_is : (old with_it without : OwnedView) → Replayed (new_batches last (before ++ again ∷ others)) old with_it
      → Replayed (new_batches last (before ++ others)) old without → content with_it.desk.last ≡ content without.desk.last

abbrev pub TakesEachOnce : Type 0
TakesEachOnce =
    (last : Option ℕ) (before others : List SentBatch) (again : SentBatch) → was_sent again.sequence before ≡ true
    → IsOnce last before others again
