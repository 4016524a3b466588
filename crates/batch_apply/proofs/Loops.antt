-- What loops have done, with one more.
use Rattle.std.proofs.Common.{◌≡◌, List, [], ◌∷◌, ◌++◌, refl}
use Rattle.graph_types.specs.declared.batches.Outcome.{Outcome}
use Rattle.batch_shards.specs.declared.shard.ShardDone.{ShardDone}
use Rattle.batch_apply.specs.{Plans.written, Applied.written_from}

pub from_more : (ds : List ShardDone) (d : ShardDone) (xs : List Outcome)
    → written_from (ds ++ d ∷ []) xs ≡ written d.outcomes.items (written_from ds xs)
from_more [] d xs = refl
from_more (x ∷ ds) d xs = from_more ds d (written x.outcomes.items xs)
