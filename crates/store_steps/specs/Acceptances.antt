-- A batch that a desk accepts: what was made of it before, and what its acceptance is.
use Rattle.std.specs.Prelude.{◌≡◌, ℕ, ◌+◌, List, [], ◌∷◌, ◌++◌, length, map, count_by, Bool, true, false, All, Contains}
use Rattle.graph_types.specs.{declared.batches.NamedOp.NamedOp, Step.after_all}
use Rattle.edge_block.specs.{Slots.BlockView, Rows.Shape, Batches.{layout_after, taken_by, dropped_by}}
use Rattle.graph_version.specs.{Rows.{blocks_of, numbers_of}, Versions.{VersionView, IsVersion, content, layout_of}}
use Rattle.block_reclamation.specs.Status.{is_among, is_free, is_retired}
use Rattle.batch_shards.specs.{Births.{CarriesBirths, births_after, dropped_births}, Done.Exchanges}
use Rattle.store_steps.specs.Journal.{Entry, Applied, is_legal, after_entry, exchanged}
use Rattle.store_steps.specs.Desks.{DeskView, ledger_of, birth_at, births_in, is_retired_by}
use Rattle.store_steps.specs.Steps.{Simulates, posting}

-- The layout rule after a version

-- the layout that a batch leaves, and how many blocks it takes and drops
abbrev pub next_layout : VersionView → List NamedOp → ℕ → List Shape
next_layout v batch source = layout_after batch (content v) (layout_of v.rows) source

abbrev pub taken_count : VersionView → List NamedOp → ℕ
taken_count v batch = taken_by batch (content v) (layout_of v.rows) (length (after_all batch (content v)).names)

abbrev pub dropped_count : VersionView → List NamedOp → ℕ
dropped_count v batch = dropped_by batch (content v) (layout_of v.rows) (length (after_all batch (content v)).names)

-- Before the acceptance

-- a batch that was applied with granted blocks: the numbers of these; the version that it leaves; the numbers of the blocks that
-- it takes; the blocks that it drops; the numbers of those that it doesn't need
pub record Application : Type 0 where
  pub batch : List NamedOp
  pub granted : List ℕ
  pub version : VersionView
  pub taken : List ℕ
  pub dropped : List BlockView
  pub unused : List ℕ

-- it was applied to this version
pub record IsAppliedTo (before : VersionView) (a : Application) : Type 0 where
  -- a version of the same opening with the batch more
  pub version : IsVersion a.version
  pub opening : a.version.opening ≡ before.opening
  pub batches : a.version.batches ≡ before.batches ++ a.batch ∷ []
  -- all blocks that aren't dropped are kept as they are, and the others are fresh ones of the numbers taken
  pub exchanged : Exchanges (blocks_of before.rows) (blocks_of a.version.rows) a.taken a.dropped
  -- each number granted is taken or unused
  pub handed : (q : ℕ → Bool) → count_by q a.taken + count_by q a.unused ≡ count_by q a.granted
  -- the layout rule
  pub layout : (source : ℕ) → layout_of a.version.rows source ≡ next_layout before a.batch source
  pub taken_are : length a.taken ≡ taken_count before a.batch
  pub dropped_are : length a.dropped ≡ dropped_count before a.batch
  -- the rule of births
  pub births : CarriesBirths before a.batch a.version a.taken a.dropped

-- The acceptance

-- a desk before a batch and after it, and the numbers of the blocks that the batch takes and drops
pub record Acceptance : Type 0 where
  pub old : DeskView
  pub batch : List NamedOp
  pub taken : List ℕ
  pub dropped : List ℕ
  pub new : DeskView

abbrev pub applied_entry : Acceptance → Entry
applied_entry a = Applied a.batch a.taken a.dropped

-- blocks that weren't taken are those of the version before, unchanged
abbrev pub KeepsUntaken : Acceptance → Type 0
KeepsUntaken a =
    All (λ b. is_among b.number a.taken ≡ false → Contains (blocks_of a.old.last.rows) b) (blocks_of a.new.last.rows)

-- free falls by what the batch takes, and retired grows by what it drops, all of which the new version's number retires,
-- each with its birth
pub record AcceptedCounts (a : Acceptance) : Type 0 where
  pub free : count_by is_free a.new.pool + length a.taken ≡ count_by is_free a.old.pool
  pub retired : count_by is_retired a.new.pool ≡ count_by is_retired a.old.pool + length a.dropped
  pub retired_by : (q : ℕ → ℕ → Bool) → count_by (is_retired_by q) a.new.pool
      ≡ count_by (is_retired_by q) a.old.pool
      + count_by (λ birth. q birth (length a.old.last.batches + 1)) (map (birth_at a.old.pool) a.dropped)
  pub blocks : length a.new.pool ≡ length a.old.pool

-- the desk has accepted the batch, and nothing else
pub record IsAccepted (a : Acceptance) : Type 0 where
  pub opened : a.new.opened ≡ a.old.opened
  pub opening : a.new.last.opening ≡ a.old.last.opening
  pub journal : a.new.journal ≡ a.old.journal ++ applied_entry a ∷ []
  -- the entry is legal, and its ledger is the new desk's
  pub legal : is_legal (ledger_of a.old) (applied_entry a) ≡ true
  pub ledger : ledger_of a.new ≡ after_entry (ledger_of a.old) (applied_entry a)
  pub kept : KeepsUntaken a
  -- the layout rule
  pub layout : (source : ℕ) → layout_of a.new.last.rows source ≡ next_layout a.old.last a.batch source
  pub taken_are : length a.taken ≡ taken_count a.old.last a.batch
  pub dropped_are : length a.dropped ≡ dropped_count a.old.last a.batch
  -- the rule of births: taken blocks are born with the new version's number
  pub births : (source : ℕ) → births_in a.new source ≡ births_after (length a.old.last.batches + 1) a.batch (content a.old.last)
      (layout_of a.old.last.rows) (births_in a.old) source
  pub dropped_births : (q : ℕ → Bool) → count_by q (map (birth_at a.old.pool) a.dropped)
      ≡ count_by q (dropped_births a.batch (content a.old.last) (layout_of a.old.last.rows) (births_in a.old)
      (length (after_all a.batch (content a.old.last)).names))
  pub counts : AcceptedCounts a
  -- the machine's steps
  pub steps : Simulates a.old (posting a.new.last a.batch a.taken) a.new

-- so it has, whichever blocks the batch took and dropped
pub record Accepts (old : DeskView) (batch : List NamedOp) (new : DeskView) : Type 0 where
  pub taken : List ℕ
  pub dropped : List ℕ
  pub accepted : IsAccepted (record { old = old; batch = batch; taken = taken; dropped = dropped; new = new })

-- how a desk accepts what was applied to its last version: that version becomes the last, the batch gets its entry, and the blocks
-- are exchanged
abbrev pub acceptance_of : DeskView → Application → Acceptance
acceptance_of d a = record {
  old = d;
  batch = a.batch;
  taken = a.taken;
  dropped = numbers_of a.dropped;
  new = record {
    opened = d.opened;
    last = a.version;
    journal = d.journal ++ Applied a.batch a.taken (numbers_of a.dropped) ∷ [];
    pool = exchanged (length d.last.batches + 1) a.taken (numbers_of a.dropped) d.pool;
  };
}

-- the desk afterwards
abbrev pub desk_after : DeskView → Application → DeskView
desk_after d a = (acceptance_of d a).new
