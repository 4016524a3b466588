-- Insertions that a desk takes batch after batch, with a collection where too few blocks are free.
use Rattle.std.specs.Prelude.{◌≡◌, ◌⊎◌, ◌+◌, ◌-◌, ◌*◌, ◌<◌, ◌≤◌, ◌==◌, ◌&&◌, ℕ, List, length, count_by, min, Bool, true, false, Some, Result, Ok, Err, OnOk, OnErr, IfOk, IfErr}
use Rattle.graph_types.specs.{Limits.{most_operations, operation_limit}, Step.outcomes, Valid.IsBatch, declared.batches.NamedOp.NamedOp}
use Rattle.graph_version.specs.Versions.{content}
use Rattle.block_reclamation.specs.{Status.is_free}
use Rattle.store_steps.specs.{Boards.raised_board, Desks.IsCollected, Acceptances.Accepts}
use Rattle.batch_apply.specs.{Listed.AreEndsListed, declared.listed.NameList.NameList}
use Rattle.desk.specs.{Refusals.{Refuses, IsWithin}, declared.ready.Accepted.Accepted}
use Rattle.owned_desk.specs.Owned.{OwnedView, copied}
use Rattle.graph_types.specs.declared.refusals.ApplyError.{ApplyError}
use Rattle.graph_types.specs.declared.refusals.ApplyError.TheVariants.{PoolEmpty, OutOfMemory as NoMemory}
use Rattle.graph_types.specs.declared.batches.PushError.TheVariants.{OutOfMemory as MemoryRanOut}
use Rattle.batch_columns.specs.Dictionaries.{Insertions, insertion_at, insertions_from, IsInserted}
use Rattle.batch_columns.specs.declared.columns.InsertError.{InsertError, TheVariants.{Refused as InsertRefused}}
use Rattle.desk_columns.specs.declared.columns.Insertions.{Insertions as Lent}
use Rattle.desk_columns.specs.declared.columns.InsertColumnsError.{InsertColumnsError}
use Rattle.desk_columns.specs.declared.columns.InsertColumnsError.TheVariants.{BadLength, BadInsertion, Refused, OutOfMemory}
use Rattle.desk_counts.specs.declared.counts.Counts.{Counts}
use Rattle.desk_counts.specs.Counted.{with_outcomes, none_counted}

-- what columns that are lent have
abbrev pub columns_of : Lent → Insertions
columns_of lent =
    record {
      kind = lent.kind.now;
      text = lent.text.now;
      ends = lent.ends.now;
      sources = lent.sources.now;
      targets = lent.targets.now;
      weights = lent.weights.now;
      times = lent.times.now;
    }

-- the columns have one length
abbrev pub are_alike_columns : Insertions → Bool
are_alike_columns c =
    (length c.targets == length c.sources) && (length c.weights == length c.sources) && (length c.times == length c.sources)

-- a collection
pub record Collects (old new : OwnedView) : Type 0 where
  pub desk : IsCollected old.desk (copied old.desk old.board) new.desk
  pub board : new.board ≡ raised_board (length old.desk.last.batches) old.board
  pub held : (new.counts ≡ old.counts) × (new.opening ≡ old.opening)

-- collected, since fewer blocks were free than the batch asks for
abbrev pub CollectsFor : List NamedOp → OwnedView → OwnedView → Type 0
CollectsFor ops old new =
    (needed left : ℕ) × Refuses old.desk.last (count_by is_free old.desk.pool) ops (PoolEmpty needed left) × Collects old new

-- as it was, or collected for the batch
abbrev pub MayCollect : List NamedOp → OwnedView → OwnedView → Type 0
MayCollect ops old new = (new ≡ old) ⊎ CollectsFor ops old new

-- what comes before a batch's answer: nothing, or a collection; and a collection where the answer is that blocks are wanting
abbrev pub ComesBefore : Result Accepted ApplyError → List NamedOp → OwnedView → OwnedView → Type 0
ComesBefore (Err (PoolEmpty needed left)) ops old new = CollectsFor ops old new
ComesBefore _ ops old new = MayCollect ops old new

-- a batch is applied to a desk as it is, or refused
pub record IsFeedApplied (old : OwnedView) (ops : List NamedOp) (answer : Result Accepted ApplyError) (new : OwnedView) : Type 0 where
  pub held : new ≡ record old { desk = new.desk }
  pub within : OnOk answer (IsWithin old.desk.last (count_by is_free old.desk.pool) ops)
  pub accepted : OnOk answer (Accepts old.desk ops new.desk)
  pub number : IfOk answer (λ a. a.number ≡ length new.desk.last.batches)
  pub outcomes_are : IfOk answer (λ a. a.outcomes ≡ outcomes ops (content old.desk.last))
  pub refused : IfErr answer (Refuses old.desk.last (count_by is_free old.desk.pool) ops)
  pub unchanged : OnErr answer (new ≡ old)

-- the same, where the desk has collected before if too few blocks were free, and so is tried a second time
pub record IsTried (old : OwnedView) (ops : List NamedOp) (answer : Result Accepted ApplyError) (new : OwnedView) : Type 0 where
  pub from : OwnedView
  pub collected : ComesBefore answer ops old from
  pub applied : IsFeedApplied from ops answer new

-- a batch is taken and counted, and a collection follows
pub record TakesFeed (old : OwnedView) (counts : Counts) (ops : List NamedOp) (new : OwnedView) (counted : Counts) : Type 0 where
  pub from : OwnedView
  pub collected : MayCollect ops old from
  pub within : IsWithin from.desk.last (count_by is_free from.desk.pool) ops
  pub behind : OwnedView
  pub accepts : Accepts from.desk ops behind.desk
  pub held : behind ≡ record from { desk = behind.desk }
  pub counted_is : counted ≡ with_outcomes counts (length behind.desk.last.batches) (outcomes ops (content from.desk.last))
  pub collects : Collects behind new

-- a batch is refused, and no more than a collection was done for it; by its blocks only where too few are free after one
abbrev pub RefusesFed : OwnedView → List NamedOp → ApplyError → OwnedView → Type 0
RefusesFed old ops error new =
    ComesBefore (Err error) ops old new × Refuses new.desk.last (count_by is_free new.desk.pool) ops error

-- of so many insertions from a place on, the first that is refused
pub record IsFirstRefusedRow (c : Insertions) (at count : ℕ) (error : InsertError) : Type 0 where
  pub before : List NamedOp
  pub within : length before < count
  pub fit : insertions_from c at (length before) ≡ Some before
  pub valid : IsBatch before
  pub refused : IsInserted most_operations (insertion_at c (at + length before)) before before (Err error)

-- a batch has at most so many parts, of 4,096 insertions each
abbrev pub most_parts : ℕ
most_parts = 16

-- how many insertions from a place on are a batch of so many parts: those that are left, where these are fewer
abbrev pub batch_length : ℕ → Insertions → ℕ → ℕ
batch_length parts c at = min (parts * operation_limit) (length c.sources - at)

-- a desk takes a batch of so many parts: of one, or of more where a block is free for each of its insertions
abbrev pub BearsParts : OwnedView → ℕ → Type 0
BearsParts o parts = (parts ≡ 1) ⊎ ((parts ≤ most_parts) × (parts * operation_limit ≤ count_by is_free o.desk.pool))

-- the ends of a batch's operations are names of a list, at these places
abbrev pub IsListing : List NamedOp → NameList → Type 0
IsListing ops listing = (name : ℕ → List ℕ) × AreEndsListed name ops listing.sources.now listing.targets.now

-- so many insertions from a place on, and at least one, are taken as a batch, and counted
pub record TakesNext (c : Insertions) (at count : ℕ) (old : OwnedView) (counts : Counts) (new : OwnedView) (counted : Counts)
    : Type 0 where
  pub some : 0 < count
  pub parts : ℕ
  pub bears : BearsParts old parts
  pub count_is : count ≡ batch_length parts c at
  pub ops : List NamedOp
  pub are : insertions_from c at count ≡ Some ops
  pub takes : TakesFeed old counts ops new counted

-- the insertions before a place are in, batch after batch from the first on, and counted
pub data AreIn (first : OwnedView) (start : Counts) (c : Insertions) : ℕ → OwnedView → Counts → Type 0 where
  Begin : AreIn first start c 0 first start
  More : (at count : ℕ) (old new : OwnedView) (counts counted : Counts) → AreIn first start c at old counts
      → TakesNext c at count old counts new counted → AreIn first start c (at + count) new counted

-- why the batch of so many parts from a place on isn't in, and what it left
abbrev pub RefusesBatch : ℕ → Insertions → ℕ → OwnedView → InsertColumnsError → OwnedView → Type 0
RefusesBatch parts c at old BadLength new = ⊥
RefusesBatch parts c at old (BadInsertion error) new = IsFirstRefusedRow c at (batch_length parts c at) error × (new ≡ old)
RefusesBatch parts c at old (Refused error) new =
    (ops : List NamedOp) × (insertions_from c at (batch_length parts c at) ≡ Some ops) × RefusesFed old ops error new
RefusesBatch parts c at old OutOfMemory new = new ≡ old

-- whether a refusal says no more than that memory ran out
abbrev pub is_out_of_memory : InsertColumnsError → Bool
is_out_of_memory (BadInsertion (InsertRefused MemoryRanOut)) = true
is_out_of_memory (Refused NoMemory) = true
is_out_of_memory OutOfMemory = true
is_out_of_memory _ = false

-- why the next batch isn't in: one of one part is refused, or memory ran out for one that the desk takes
pub record RefusesNext (c : Insertions) (at : ℕ) (old : OwnedView) (error : InsertColumnsError) (new : OwnedView) : Type 0 where
  pub parts : ℕ
  pub bears : BearsParts old parts
  pub reason : (parts ≡ 1) ⊎ (is_out_of_memory error ≡ true)
  pub refuses : RefusesBatch parts c at old error new

-- the same of the whole, of which the insertions before a place are in; some are left where the columns have one length
abbrev pub RefusesRest : Insertions → ℕ → OwnedView → InsertColumnsError → OwnedView → Type 0
RefusesRest c done old BadLength new = (are_alike_columns c ≡ false) × (done ≡ 0) × (new ≡ old)
RefusesRest c done old error new = (are_alike_columns c ≡ true) × (done < length c.sources) × RefusesNext c done old error new

abbrev pub Ends : Insertions → ℕ → OwnedView → Result (Unit {0}) InsertColumnsError → OwnedView → Type 0
Ends c done old (Ok _) new = (are_alike_columns c ≡ true) × (done ≡ length c.sources) × (new ≡ old)
Ends c done old (Err error) new = RefusesRest c done old error new

-- what a call with columns comes to: those before a place are in and counted, and that is all of them, or the rest is refused
pub record Feeds (old : OwnedView) (c : Insertions) (answer : Result (Unit {0}) InsertColumnsError) (new : OwnedView) (counts : Counts)
    (done : ℕ) : Type 0 where
  pub fed : OwnedView
  pub are_in : AreIn old (none_counted (length old.desk.last.batches)) c done fed counts
  pub ends : Ends c done fed answer new
