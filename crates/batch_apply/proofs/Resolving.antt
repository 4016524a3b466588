-- The operations of a batch with the numbers of their names.
use Rattle.std.proofs.Common.{◌≡◌, ◌∙◌, ap, ℕ, List, [], ◌∷◌, ◌++◌, length, map, Bool, cond, ◌&&◌, Some, None}
use Rattle.std.proofs.{Common.{arith, append_assoc, ◌≤◌, drop}, lemmas.List.length-map}
use Rattle.std.proofs.lemmas.{List.{map-append, append-nil, drop_all}, Grind.common_steps}
use Rattle.graph_types.specs.{Graph.Key, declared.batches.NamedOp.NamedOp}
use Rattle.graph_types.specs.{Step.makes_names, declared.changes.EdgeChange.EdgeChange}
use Rattle.graph_types.specs.Parts.{Parts, OfEdge, parts_in, names_by, kinds_by, names_after, kinds_after}
use Rattle.graph_types.proofs.OperationParts.{names_over, kinds_over}
use Rattle.edge_block.specs.Batches.{Resolved}
use Rattle.edge_block.specs.Batches.{resolve_parts, resolved_by}
use Rattle.edge_block.proofs.ShardResults.{as_many_resolved}
use Rattle.batch_apply.specs.{declared.resolve.ResolvedOp.ResolvedOp, Plan.{shown_op, ends_by, ends_made, kind_made, key_from, with_kind}}

key_cases : (a b c : Bool) (k s t : ℕ)
    → key_from (cond a (Some k) None) (cond b (Some s) None) (cond c (Some t) None) ≡ cond (a && (b && c))
    (Some (let key : Key = record { kind = k; source = s; target = t } in key)) None
key_cases a b c k s t = grind (arith, common_steps)

pub one_resolved : (names kinds : List (List ℕ)) (op : Parts)
    → with_kind kinds (ends_by names op) op ≡ resolve_parts names kinds op
one_resolved names kinds op = grind (arith, common_steps, key_cases)

-- an operation on an edge leaves these names and these kinds
module _ (most : ℕ) (op : NamedOp) (change : EdgeChange) (kind source target : List ℕ) (makes : Bool)
    (is : OfEdge change kind source target ≡ parts_in most op) (makes_are : makes ≡ makes_names change) where
  pub edge_names : (names : List (List ℕ)) → ends_made makes source target names ≡ names_after op names
  edge_names names =
      ap (λ b. ends_made b source target names) makes_are ∙ ap (λ p. names_by p names) is ∙ names_over most op names

  pub edge_kinds : (kinds : List (List ℕ)) → kind_made makes kind kinds ≡ kinds_after op kinds
  edge_kinds kinds = ap (λ b. kind_made b kind kinds) makes_are ∙ ap (λ p. kinds_by p kinds) is ∙ kinds_over most op kinds

-- as many operations are resolved as there are
pub as_many_shown : (most : ℕ) (found : List ResolvedOp) (ops : List NamedOp) (names kinds : List (List ℕ))
    → map shown_op found ≡ resolved_by most ops names kinds → length found ≡ length ops
as_many_shown most found ops names kinds are = grind (arith, common_steps, length-map, as_many_resolved)

-- one more operation is resolved
pub one_more : (most : ℕ) (ops rest : List NamedOp) (op : NamedOp) (found : List ResolvedOp) (r : ResolvedOp)
    (names kinds : List (List ℕ)) (all : List Resolved) → ops ≡ op ∷ rest
    → shown_op r ≡ resolve_parts (names_after op names) (kinds_after op kinds) (parts_in most op)
    → map shown_op found ++ resolved_by most ops names kinds ≡ all
    → map shown_op (found ++ r ∷ []) ++ resolved_by most rest (names_after op names) (kinds_after op kinds) ≡ all
one_more most ops rest op found r names kinds all ops_are same so_far = grind (arith, common_steps, map-append, append_assoc)

-- behind the last of them all are resolved
pub all_resolved : (most : ℕ) (ops : List NamedOp) (k : ℕ) (found : List ResolvedOp) (ns ks : List (List ℕ))
    (all : List Resolved) → length ops ≤ k → map shown_op found ++ resolved_by most (drop k ops) ns ks ≡ all → map shown_op found ≡ all
all_resolved most ops k found ns ks all past are = grind (arith, common_steps, append-nil, drop_all)
