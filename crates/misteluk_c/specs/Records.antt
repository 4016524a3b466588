-- What is told of a batch's records.
use Rattle.std.specs.Prelude.{◌≡◌, ◌⊎◌, ◌<◌, ◌++◌, ℕ, List, length, drop}
use Rattle.graph_types.specs.declared.batches.NamedOp.{NamedOp}
use Rattle.batch_records.specs.Texts.{records_text}

-- the records are written, and what is behind them is as it was; or they have no room. How many bytes they are is told of both. Or
-- memory ran out
abbrev pub TellsRecords : List NamedOp → List ℕ → ℕ → List ℕ → ℕ → ℕ → Type 0
TellsRecords ops old before new bytes code =
    ((code ≡ 0) × (bytes ≡ length (records_text ops)) × (new ≡ records_text ops ++ drop (length (records_text ops)) old))
    ⊎ ((code ≡ 4) × (bytes ≡ length (records_text ops)) × (length old < length (records_text ops)) × (new ≡ old))
    ⊎ ((code ≡ 1) × (bytes ≡ before) × (new ≡ old))
