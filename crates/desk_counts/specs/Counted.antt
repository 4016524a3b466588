-- How many of a batch's operations had each outcome.
use Rattle.std.specs.Prelude.{◌≡◌, ℕ, ◌+◌, ◌%◌, ◌^◌, List, [], ◌∷◌, Bool, true, false, length, count_by, sum_by}
use Rattle.graph_types.specs.Outcomes.{expired_in}
use Rattle.graph_types.specs.declared.batches.Outcome.{Outcome, TheVariants.{Inserted, Updated, Removed, Absent, Overflow}}
use Rattle.desk_counts.specs.declared.counts.Counts.{Counts}

abbrev pub was_inserted : Outcome → Bool
was_inserted Inserted = true
was_inserted _ = false

abbrev pub was_updated : Outcome → Bool
was_updated Updated = true
was_updated _ = false

abbrev pub was_removed : Outcome → Bool
was_removed Removed = true
was_removed _ = false

abbrev pub was_absent : Outcome → Bool
was_absent Absent = true
was_absent _ = false

abbrev pub was_overflow : Outcome → Bool
was_overflow Overflow = true
was_overflow _ = false

-- numbers as 64 bits have them
abbrev pub wrapped : ℕ → ℕ
wrapped n = n % 2 ^ 64

-- counts with those of outcomes more, of the version with this number
abbrev pub with_outcomes : Counts → ℕ → List Outcome → Counts
with_outcomes c version outcomes =
    record {
      version = version;
      inserted = wrapped (c.inserted + count_by was_inserted outcomes);
      updated = wrapped (c.updated + count_by was_updated outcomes);
      removed = wrapped (c.removed + count_by was_removed outcomes);
      absent = wrapped (c.absent + count_by was_absent outcomes);
      overflowed = wrapped (c.overflowed + count_by was_overflow outcomes);
      expired = wrapped (c.expired + sum_by expired_in outcomes);
    }

-- none counted yet
abbrev pub none_counted : ℕ → Counts
none_counted version =
    record { version = version; inserted = 0; updated = 0; removed = 0; absent = 0; overflowed = 0; expired = 0 }
