-- The names of a graph that batches leave differ where they did before.
use Rattle.std.proofs.Common.{ℕ, ◌≢◌, List, [], ◌∷◌, arith}
use Rattle.std.specs.Prelude.{AllPairs}
use Rattle.graph_types.specs.{Graph.Graph, Step.{after, after_all, left_by}, declared.batches.NamedOp.NamedOp}
use Rattle.graph_types.specs.declared.batches.NamedOp.TheVariants.{Insert, Incr, Remove, Expire}
use Rattle.graph_types.specs.declared.changes.EdgeChange.TheVariants.{Insert as ToInsert, Incr as ToIncr, Remove as ToRemove}
use Rattle.graph_types.proofs.NameLists.{AllPairs-names_made}

abbrev pub AreApart : List (List ℕ) → Type 0
AreApart names = AllPairs (λ a b. a ≢ b) names

after_one : (op : NamedOp) (g : Graph) → AreApart g.names → AreApart (after op g).names
after_one (Insert kind source target weight time) g apart = AllPairs-names_made (ToInsert weight time g.limits.weight) source target g.names apart
after_one (Incr kind source target amount time) g apart = AllPairs-names_made (ToIncr amount time g.limits.weight) source target g.names apart
after_one (Remove kind source target) g apart = AllPairs-names_made ToRemove source target g.names apart
after_one (Expire time) g apart = apart

after_batch : (ops : List NamedOp) (g : Graph) → AreApart g.names → AreApart (after_all ops g).names
after_batch [] g apart = apart
after_batch (op ∷ ops) g apart = after_batch ops (after op g) (after_one op g apart)

pub apart_names : (batches : List (List NamedOp)) (g : Graph) → AreApart g.names → AreApart (left_by batches g).names
apart_names [] g apart = apart
apart_names (batch ∷ batches) g apart = apart_names batches (after_all batch g) (after_batch batch g apart)

pub none_apart : AreApart []
none_apart i j d less below = absurd (omega arith)
