-- How many edges operations leave: as many as before, with one more for each that was inserted and one less for each that
-- was removed or has expired.
use Rattle.std.proofs.Common.{◌≡◌, ℕ, ◌+◌, cond, List, [], ◌∷◌, refl, arith}
use Rattle.std.{proofs.lemmas.List.Sums.sum_by-cons, specs.{Prelude.count_by, List.sum_by}}
use Rattle.std.specs.{declared.option.Option.Option, FinMap.{FinMap, get, len}}
use Rattle.std.proofs.lemmas.Grind.{common_steps}
use Rattle.graph_types.specs.{Graph.{Graph, Key, Stamp, key_cmp}, Step.{change_outcome, after, outcome, after_all, outcomes}}
use Rattle.graph_types.specs.{Step.{stamp_after, outcome_at, set_at, changed}, declared.batches.NamedOp.NamedOp}
use Rattle.graph_types.specs.declared.{batches.NamedOp.TheVariants.{Insert, Incr, Remove, Expire}, changes.EdgeChange.EdgeChange}
use Rattle.graph_types.specs.declared.changes.EdgeChange.TheVariants.{Insert as ToInsert, Incr as ToIncr, Remove as ToRemove}
use Rattle.graph_types.proofs.Expiry.{fewer}
use Rattle.graph_types.proofs.EdgeMaps.{inserted_len, removed_len}
use Rattle.batch_apply.specs.Applied.{is_inserted, taken_away}

-- what a change does at one key
at_key : (change : EdgeChange) (edges : FinMap key_cmp Stamp) (key : Key) (before : Option Stamp) → get edges key ≡ before
    → len (set_at edges key (stamp_after change before)) + taken_away (outcome_at change before)
    ≡ len edges + cond (is_inserted (outcome_at change before)) 1 0
at_key change edges key before at = grind (arith, common_steps, inserted_len, removed_len)

changed_len : (change : EdgeChange) (kind source target : List ℕ) (g : Graph)
    → len (changed change kind source target g).edges + taken_away (change_outcome change kind source target g)
    ≡ len g.edges + cond (is_inserted (change_outcome change kind source target g)) 1 0
changed_len change kind source target g = grind (arith, common_steps, at_key)

pub op_len : (op : NamedOp) (g : Graph)
    → len (after op g).edges + taken_away (outcome op g) ≡ len g.edges + cond (is_inserted (outcome op g)) 1 0
op_len (Insert kind source target weight time) g = changed_len (ToInsert weight time g.limits.weight) kind source target g
op_len (Incr kind source target amount time) g = changed_len (ToIncr amount time g.limits.weight) kind source target g
op_len (Remove kind source target) g = changed_len ToRemove kind source target g
op_len (Expire time) g = omega (arith, fewer time g.edges)

pub len_after_all : (ops : List NamedOp) (g : Graph)
    → len (after_all ops g).edges + sum_by taken_away (outcomes ops g) ≡ len g.edges + count_by is_inserted (outcomes ops g)
len_after_all [] g = refl
len_after_all (op ∷ ops) g = grind (arith, common_steps, op_len, sum_by-cons, len_after_all ops (after op g))
