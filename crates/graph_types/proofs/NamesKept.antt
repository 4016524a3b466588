-- Valid operations leave names where there were names.
use Rattle.std.proofs.{Common.{ℕ, List, [], ◌∷◌, true, false, cond, arith}, lemmas.Bool.and_parts}
use Rattle.std.{proofs.lemmas.List.Elements.{All-head, All-tail}, specs.Prelude.{All, IsTrue, ◌&&◌}}
use Rattle.std.proofs.lemmas.Grind.{common_steps}
use Rattle.graph_types.specs.{Graph.Graph, Laws.HasNames, Step.{with_name, makes_names, changed, after, after_all, left_by}}
use Rattle.graph_types.specs.{Valid.{is_name, is_kind_name, are_names, IsValid, IsBatch}, declared.batches.NamedOp.NamedOp}
use Rattle.graph_types.specs.declared.{batches.NamedOp.TheVariants.{Insert, Incr, Remove, Expire}, changes.EdgeChange.EdgeChange}
use Rattle.graph_types.specs.declared.changes.EdgeChange.TheVariants.{Insert as ToInsert, Incr as ToIncr, Remove as ToRemove}

All-with_name : (P : List ℕ → Type 0) (names : List (List ℕ)) (name : List ℕ) → All P names → P name
    → All P (with_name names name)
All-with_name h0 names name all p = grind (arith, common_steps)

HasNames-changed : (change : EdgeChange) (kind source target : List ℕ) (g : Graph) → IsTrue (are_names kind source target)
    → HasNames g → HasNames (changed change kind source target g)
HasNames-changed change kind source target g are has =
    let (first, of_target) = and_parts (is_kind_name kind && is_name source) (is_name target) are in
    let (of_kind, of_source) = and_parts (is_kind_name kind) (is_name source) first in
    let Name : List ℕ → Type 0 = λ name. IsTrue (is_name name) in
    let Kind : List ℕ → Type 0 = λ name. IsTrue (is_kind_name name) in
    record {
      names = elim (makes_names change) as (λ b. All Name (cond b (with_name (with_name g.names source) target) g.names)) [
        | true ↦ All-with_name Name _ target (All-with_name Name g.names source has.names of_source) of_target
        | false ↦ has.names
      ];
      kinds = elim (makes_names change) as (λ b. All Kind (cond b (with_name g.kinds kind) g.kinds)) [
        | true ↦ All-with_name Kind g.kinds kind has.kinds of_kind
        | false ↦ has.kinds
      ];
    }

HasNames-after : (op : NamedOp) (g : Graph) → IsValid op → HasNames g → HasNames (after op g)
HasNames-after (Insert kind source target weight time) g valid has =
    HasNames-changed (ToInsert weight time g.limits.weight) kind source target g valid.names has
HasNames-after (Incr kind source target amount time) g valid has =
    HasNames-changed (ToIncr amount time g.limits.weight) kind source target g valid.names has
HasNames-after (Remove kind source target) g valid has = HasNames-changed ToRemove kind source target g valid.names has
HasNames-after (Expire time) g valid has = record { names = has.names; kinds = has.kinds }

HasNames-after_all : (ops : List NamedOp) (g : Graph) → All IsValid ops → HasNames g → HasNames (after_all ops g)
HasNames-after_all [] g valid has = has
HasNames-after_all (op ∷ ops) g valid has =
    HasNames-after_all ops (after op g) (All-tail IsValid op ops valid) (HasNames-after op g (All-head IsValid op ops valid) has)

pub HasNames-left_by : (batches : List (List NamedOp)) (g : Graph) → All IsBatch batches → HasNames g
    → HasNames (left_by batches g)
HasNames-left_by [] g valid has = has
HasNames-left_by (batch ∷ batches) g valid has =
    HasNames-left_by batches (after_all batch g) (All-tail IsBatch batch batches valid)
    (HasNames-after_all batch g (All-head IsBatch batch batches valid).valid has)
