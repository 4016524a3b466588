-- What became of edges, written to columns.
use Rattle.std.specs.Prelude.{◌≡◌, ◌≤◌, ◌<◌, ◌==◌, ◌&&◌, ◌⊎◌, ℕ, ℤ, ◌+◌, ◌-◌, List, [], ◌∷◌, length, slice_set}
use Rattle.std.specs.Prelude.{Bool, true, false, Result, Ok, Err}
use Rattle.graph_types.specs.declared.ids.Filter.{Filter}
use Rattle.graph_version.specs.Versions.{content}
use Rattle.version_diff.specs.{Pairs.PairView, Differences.{difference_at, differences_from}}
use Rattle.version_diff.specs.declared.rows.{EdgeDifference.EdgeDifference, EdgeMarks.EdgeMarks}
use Rattle.version_diff.specs.declared.{sources.Found.Found, sources.Found.TheVariants.{Whole, TooLong}}
use Rattle.version_diff.specs.declared.columns.DiffError.{DiffError}
use Rattle.version_diff.specs.declared.columns.DiffError.TheVariants.{BadLength, OutOfMemory}

-- columns of what edges bear, and of what became of them
pub record MarkColumns : Type 0 where
  pub weights : List ℤ
  pub firsts : List ℕ
  pub recents : List ℕ

pub record DiffColumns : Type 0 where
  pub states : List ℕ
  pub kinds : List ℕ
  pub sources : List ℕ
  pub targets : List ℕ
  pub before : MarkColumns
  pub after : MarkColumns

abbrev pub mark_columns : List ℤ → List ℕ → List ℕ → MarkColumns
mark_columns weights firsts recents = record { weights = weights; firsts = firsts; recents = recents }

abbrev pub diff_columns : List ℕ → List ℕ → List ℕ → List ℕ → MarkColumns → MarkColumns → DiffColumns
diff_columns states kinds sources targets before after =
    record { states = states; kinds = kinds; sources = sources; targets = targets; before = before; after = after }

-- the columns have a length: those of what edges bear, all but the states, and all as many places as the states
abbrev pub are_marks_long : ℕ → MarkColumns → Bool
are_marks_long n c = (length c.weights == n) && (length c.firsts == n) && (length c.recents == n)

abbrev pub are_as_long : ℕ → List ℕ → List ℕ → List ℕ → MarkColumns → MarkColumns → Bool
are_as_long n kinds sources targets before after =
    (length kinds == n) && (length sources == n) && (length targets == n) && are_marks_long n before && are_marks_long n after

abbrev pub have_one_length : DiffColumns → Bool
have_one_length c = are_as_long (length c.states) c.kinds c.sources c.targets c.before c.after

-- with what an edge bears, and with what became of one, at a place
abbrev pub with_marks : ℕ → EdgeMarks → MarkColumns → MarkColumns
with_marks at m c =
    mark_columns (slice_set c.weights at m.weight) (slice_set c.firsts at m.first) (slice_set c.recents at m.recent)

abbrev pub with_difference : ℕ → EdgeDifference → DiffColumns → DiffColumns
with_difference at d c =
    diff_columns (slice_set c.states at d.state) (slice_set c.kinds at d.kind) (slice_set c.sources at d.source)
    (slice_set c.targets at d.target) (with_marks at d.before c.before) (with_marks at d.after c.after)

-- with what became of edges, one after another from a place on, and all else as it was
abbrev pub with_differences : ℕ → List EdgeDifference → DiffColumns → DiffColumns
with_differences at [] c = c
with_differences at (d ∷ ds) c = with_differences (at + 1) ds (with_difference at d c)

-- these are of the sources from one to below the next, and have room; there are no more sources, or those of the next one have no
-- room. There are some, or no more sources. Where the first is no source, it stays
pub record AreWhole (f : Filter) (p : PairView) (source next room : ℕ) (differences : List EdgeDifference) : Type 0 where
  pub onward : source ≤ next
  pub most : (next ≤ length (content p.later).names) ⊎ (next ≡ source)
  pub differences_are : differences ≡ differences_from f p source (next - source)
  pub fits : length differences ≤ room
  pub whole : (length (content p.later).names ≤ next) ⊎ (room < length differences + length (difference_at f p next))
  pub some : (0 < length differences) ⊎ (length (content p.later).names ≤ next)

-- not even those of the next source that has any have room
pub record AreTooMany (f : Filter) (p : PairView) (source room count : ℕ) : Type 0 where
  pub next : ℕ
  pub onward : source ≤ next
  pub there : next < length (content p.later).names
  pub none_before : differences_from f p source (next - source) ≡ []
  pub long : room < length (difference_at f p next)
  pub counted : count ≡ length (difference_at f p next)

abbrev pub IsFound : Filter → PairView → ℕ → ℕ → Found → Type 0
IsFound f p source room (Whole differences next) = AreWhole f p source next room differences.items
IsFound f p source room (TooLong count) = AreTooMany f p source room count

-- what `write_differences` comes to, from what it was given and what stands there then
pub record DiffTable : Type 0 where
  pub source : ℕ
  pub columns : DiffColumns

abbrev pub diff_table : ℕ → DiffColumns → DiffTable
diff_table source columns = record { source = source; columns = columns }

abbrev pub WritesDifferences : Filter → PairView → DiffTable → DiffTable → ℕ → Result (Unit {0}) DiffError → Type 0
WritesDifferences f p old new count (Ok _) =
    (have_one_length old.columns ≡ true)
    × (differences : List EdgeDifference)
    × AreWhole f p old.source new.source (length old.columns.states) differences
    × (new.columns ≡ with_differences 0 differences old.columns)
    × (count ≡ length differences)
WritesDifferences f p old new count (Err BadLength) =
    (new ≡ old)
    × ((have_one_length old.columns ≡ false)
    ⊎ AreTooMany f p old.source (length old.columns.states) count)
WritesDifferences f p old new count (Err OutOfMemory) = (new ≡ old) × (have_one_length old.columns ≡ true)
