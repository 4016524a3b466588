-- What the calls about what became of edges tell.
use Rattle.std.specs.Prelude.{◌≡◌, ◌≢◌, ◌⊎◌, ℕ, Option, Some, None, Result, Ok, Err, MatchOption, IsSomeAnd}
use Rattle.graph_version.specs.Versions.{content}
use Rattle.version_columns.specs.{Views.filter_of, declared.views.View.View}
use Rattle.version_diff.specs.Pairs.{PairView}
use Rattle.version_diff.specs.Columns.{DiffTable, diff_table, diff_columns, mark_columns, WritesDifferences}
use Rattle.version_diff.specs.declared.columns.DiffError.{DiffError}
use Rattle.version_diff.specs.declared.columns.DiffError.TheVariants.{BadLength, OutOfMemory}
use Rattle.owned_desk.specs.Owned.{OwnedView, IsPairOf, RefusesPair}
use Rattle.owned_desk.specs.declared.{owned.Hold.Hold, errors.PairError.{PairError, TheVariants.{NotHeld, Backwards, OutOfMemory as NoMemory}}}
use Rattle.store_handles.specs.declared.held.Held.{Held}
use Rattle.store_handles.specs.declared.held.Held.TheVariants as held
use Rattle.misteluk_c.specs.Desks.{hold_of}
use Rattle.misteluk_c.specs.declared.{diffs.DiffColumns.DiffColumns, desks.HoldNumbers.HoldNumbers}

-- the two versions that a handle holds
abbrev pub held_pair : Option Held → Option PairView
held_pair None = None
held_pair (Some (held.Pair pair)) = Some pair
held_pair (Some _) = None

abbrev pub diff_code : Result (Unit {0}) DiffError → ℕ
diff_code (Ok _) = 0
diff_code (Err BadLength) = 4
diff_code (Err OutOfMemory) = 1

abbrev pub pair_code : PairError → ℕ
pair_code NotHeld = 15
pair_code Backwards = 8
pair_code NoMemory = 1

-- what the columns have, with a source
abbrev pub diff_table_in : ℕ → DiffColumns → DiffTable
diff_table_in source it =
    diff_table source (diff_columns it.states.now it.kinds.now it.sources.now it.targets.now
    (mark_columns it.weights_before.now it.firsts_before.now it.recents_before.now)
    (mark_columns it.weights_after.now it.firsts_after.now it.recents_after.now))

-- the struct is as it was: the same columns, whatever they have
pub record AreTheDiffColumns (old new : DiffColumns) : Type 0 where
  pub size : new.size ≡ old.size
  pub states : new.states.ghost_name ≡ old.states.ghost_name
  pub kinds : new.kinds.ghost_name ≡ old.kinds.ghost_name
  pub sources : new.sources.ghost_name ≡ old.sources.ghost_name
  pub targets : new.targets.ghost_name ≡ old.targets.ghost_name
  pub weights_before : new.weights_before.ghost_name ≡ old.weights_before.ghost_name
  pub firsts_before : new.firsts_before.ghost_name ≡ old.firsts_before.ghost_name
  pub recents_before : new.recents_before.ghost_name ≡ old.recents_before.ghost_name
  pub weights_after : new.weights_after.ghost_name ≡ old.weights_after.ghost_name
  pub firsts_after : new.firsts_after.ghost_name ≡ old.firsts_after.ghost_name
  pub recents_after : new.recents_after.ghost_name ≡ old.recents_after.ghost_name

-- what became of the edges of a view is written for sources from one on; or the view's kind is none of the later version's
abbrev pub TellsDiff : PairView → View → ℕ → DiffColumns → ℕ → DiffColumns → ℕ → ℕ → Type 0
TellsDiff p view from old next new count code =
    MatchOption (filter_of (content p.later) view)
    ((code ≡ 17) × (diff_table_in next new ≡ diff_table_in from old))
    (λ f. (answer : Result (Unit {0}) DiffError) × (code ≡ diff_code answer)
    × WritesDifferences f p (diff_table_in from old) (diff_table_in next new) count answer)

-- the versions of two holds of a desk are made a pair in a handle that held nothing; or not, and then it still holds nothing
abbrev pub TellsMade : OwnedView → Hold → Hold → Option Held → ℕ → Type 0
TellsMade o first second new code =
    ((code ≡ 0) × IsSomeAnd (held_pair new) (IsPairOf o first second))
    ⊎ ((error : PairError) × (code ≡ pair_code error) × RefusesPair o first second error × (new ≡ None))

-- of holds that another desk gave there is none, and a handle that holds something is left as it was
abbrev pub TellsPair : ℕ → OwnedView → HoldNumbers → HoldNumbers → Option Held → Option Held → ℕ → Type 0
TellsPair identity o first second (Some before) new code = (code ≡ 3) × (new ≡ Some before)
TellsPair identity o first second None new code =
    ((first.desk ≡ identity) × (second.desk ≡ identity) × TellsMade o (hold_of first) (hold_of second) new code)
    ⊎ ((code ≡ 15) × ((first.desk ≢ identity) ⊎ (second.desk ≢ identity)) × (new ≡ None))
