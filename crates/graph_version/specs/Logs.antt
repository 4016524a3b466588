-- The batches of a version: a list in the proofs, and whether memory has it too.
use Rattle.std.specs.{Prelude.{◌≡◌, Bool, List, [], ◌∷◌, ◌++◌, nat_lt, MatchOption}}
use Rattle.std.specs.declared.{option.Option.Option, sync.Arc.Arc, alloc.Global.Global}
use Rattle.graph_types.specs.{Limits.{LimitsView, most_batches}, declared.batches.NamedOp.NamedOp, declared.batches.Batch.Batch}
use Rattle.graph_version.specs.Batches.{batch_value}

-- batches are kept where the limits set a bound to them that is below the wall
abbrev pub keeps_batches : LimitsView → Bool
keeps_batches limits = nat_lt limits.batches most_batches

-- the batches, and whether memory has them too
pub record LogView : Type 0 where
  pub keeps : Bool
  pub batches : List (List NamedOp)

-- the last batch, if there is any
abbrev pub IsLast : Option (Arc Batch Global) → List (List NamedOp) → Type 0
IsLast last batches = MatchOption last (batches ≡ [])
    (λ b. (others : List (List NamedOp)) × (batches ≡ others ++ batch_value b ∷ []))
