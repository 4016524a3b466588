-- What a shelf that has shown nothing yet keeps.
use Rattle.std.proofs.Common.{zero, suc, [], ◌∷◌, None}
use Rattle.version_shelf.specs.Shelves.{ToldView, Keeps}

-- a place that has seen nothing keeps the rule
pub nothing_seen : (x : ToldView) → Keeps x (None ∷ [])
nothing_seen x zero u at = absurd (cc at)
nothing_seen x (suc place) u at = absurd (cc at)
