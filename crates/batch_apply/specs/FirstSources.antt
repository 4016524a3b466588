-- The sources that a worker's shard begins with, and where they are among these.
use Rattle.std.specs.Prelude.{◌≡◌, ◌≢◌, ℕ, ◌+◌, ◌<◌, ◌%◌, ◌∷◌, [], List, length, get_or, true, ◌||◌, nat_eq, All, AllPairs}
use Rattle.std.specs.{Prelude.slice_get, List.{list_any, flat_map}}
use Rattle.std.specs.declared.option.Option.{Option, TheVariants.{None, Some}}
use Rattle.graph_types.specs.Graph.{Key}
use Rattle.edge_block.specs.Batches.{Resolved, AtKey, InAll}
use Rattle.batch_apply.specs.OldRows.{old_sources}
use Rattle.batch_apply.specs.declared.{old.OldRow.OldRow, own_sources.Places.Places}

-- the source of the edge that an operation is on, if its names are known
abbrev pub source_in : Option Key → List ℕ
source_in None = []
source_in (Some k) = k.source ∷ []

abbrev pub asked_source : Resolved → List ℕ
asked_source (AtKey source key change) = source_in key
asked_source (InAll time) = []

-- those of operations, one after another
abbrev pub asked_sources : List Resolved → List ℕ
asked_sources rs = flat_map asked_source rs

-- the places from the next one on say where these are among the sources, one after another
abbrev pub AreNext : List ℕ → List ℕ → Places → Type 0
AreNext sources these places = (length places.all.items ≡ places.next + length these)
    × ((k : ℕ) → k < length these → slice_get sources (get_or places.all.items (places.next + k) 0) ≡ Some (get_or these k 0))

-- What a worker's shard begins with: different sources of its own, those of its old rows among them. Each is that of an old
-- row or of an operation.
pub record AreFirst (workers w : ℕ) (rs : List Resolved) (old : List OldRow) (sources : List ℕ) : Type 0 where
  pub distinct : AllPairs (λ a b. a ≢ b) sources
  pub own : All (λ s. s % workers ≡ w) sources
  pub from : (s : ℕ) → list_any (nat_eq s) sources ≡ true
      → (list_any (nat_eq s) (old_sources old) || list_any (nat_eq s) (asked_sources rs)) ≡ true
  pub old_rows : (s : ℕ) → s % workers ≡ w → list_any (nat_eq s) (old_sources old) ≡ true → list_any (nat_eq s) sources ≡ true
