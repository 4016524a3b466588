-- A batch's resolved operations and outcomes, by shards and one operation more.
use Rattle.std.proofs.Common.{◌≡◌, ℕ, suc, ◌+◌, ◌<◌, Bool, List, [], ◌∷◌, ◌++◌, map, length, All, filter, Option, zip, mod-lt}
use Rattle.std.proofs.{Common.{refl, sym, ap, subst, arith}, lemmas.{Grind.common_steps, List.Elements.{All-nil, All-cons}}}
use Rattle.std.specs.List.{enumerate_from}
use Rattle.graph_types.specs.{Graph.Key, Outcomes.{together, told}, Parts.{names_after, kinds_after, Parts, parts_in}}
use Rattle.graph_types.specs.declared.{batches.{NamedOp.NamedOp, Outcome.Outcome}, changes.EdgeChange.EdgeChange}
use Rattle.graph_types.proofs.OutcomeSteps.{last_stands, not_counted}
use Rattle.edge_block.specs.Batches.{key_outcome, Resolved, rows_all, rows_step, outcomes_all, picked, resolved_by, IsPlaced}
use Rattle.edge_block.specs.{Batches.{resolve_parts, shard_of}, Rows.OpenBlock}
use Rattle.edge_block.proofs.ShardLaws.{placed}

pub edge_stands : (x : Outcome) (change : EdgeChange) (key : Option Key) (rows : ℕ → List OpenBlock)
    → together x (key_outcome change key rows) ≡ key_outcome change key rows
edge_stands x change key rows = grind (arith, common_steps, last_stands, not_counted)

-- operations one after another
pub rows_more : (rs : List Resolved) (r : Resolved) (rows : ℕ → List OpenBlock)
    → rows_all (rs ++ r ∷ []) rows ≡ rows_step r (rows_all rs rows)
rows_more [] r rows = refl
rows_more (x ∷ rs) r rows = rows_more rs r (rows_step x rows)

pub length-outcomes_all : (sources : List ℕ) (rs : List Resolved) (rows : ℕ → List OpenBlock)
    → length (outcomes_all sources rs rows) ≡ length rs
length-outcomes_all sources [] rows = refl
length-outcomes_all sources (r ∷ rs) rows = ap suc (length-outcomes_all sources rs (rows_step r rows))

-- a shard of placed operations is the shard of the operations
pub shard_is : (p : Resolved → Bool) (rs : List Resolved) (k : ℕ) → map (λ x. x.1) (filter (λ x. p x.1) (enumerate_from k rs))
    ≡ filter p rs
shard_is p [] k = refl
shard_is p (r ∷ rs) k = grind (arith, common_steps, shard_is p rs (k + 1))

-- the places of picked results
pub placed_results : {A : Type 0} (p : Resolved → Bool) (rs : List Resolved) (ys : List A) (k : ℕ)
    → zip (map (λ x. x.0) (filter (λ x. p x.1) (enumerate_from k rs))) (picked p rs ys) ≡ picked (λ (x : ℕ × Resolved). p x.1)
    (enumerate_from k rs) (enumerate_from k ys)
placed_results p [] ys k = refl
placed_results p (r ∷ rs) [] k = none _
  where
    none : {A B : Type 0} (xs : List A) → (let nothing : List B = [] in zip xs nothing) ≡ []
    none [] = refl
    none (x ∷ xs) = refl
placed_results p (r ∷ rs) (y ∷ ys) k = grind (arith, common_steps, placed_results p rs ys (k + 1))

pub map_picked : {A B : Type 0} (f : B → B) (p : A → Bool) (xs : List A) (ys : List B)
    → map f (picked p xs ys) ≡ picked p xs (map f ys)
map_picked f p [] ys = refl
map_picked f p (x ∷ xs) [] = refl
map_picked f p (x ∷ xs) (y ∷ ys) = grind (arith, common_steps, map_picked f p xs ys)

pub as_many_resolved : (most : ℕ) (ops : List NamedOp) (names kinds : List (List ℕ))
    → length (resolved_by most ops names kinds) ≡ length ops
as_many_resolved most [] names kinds = refl
as_many_resolved most (op ∷ ops) names kinds =
    omega (arith, as_many_resolved most ops (names_after op names) (kinds_after op kinds))

-- an operation with a key is on the key's source
pub placed_in : (most : ℕ) (rs : List Resolved) (ops : List NamedOp) (names kinds : List (List ℕ))
    → rs ≡ resolved_by most ops names kinds → All IsPlaced rs
placed_in most rs [] names kinds e = subst (λ ss. All IsPlaced ss) (sym e) (All-nil IsPlaced)
placed_in most rs (op ∷ ops) names kinds e =
    let parts : Parts = parts_in most op in
    let names' : List (List ℕ) = names_after op names in
    let kinds' : List (List ℕ) = kinds_after op kinds in
    let rest : List Resolved = resolved_by most ops names' kinds' in
    subst (λ ss. All IsPlaced ss) (sym e) (All-cons IsPlaced (resolve_parts names' kinds' parts) rest
    (placed names' kinds' parts) (placed_in most rest ops names' kinds' refl))

pub long_told : (sources : List ℕ) (rs : List Resolved) (rows : ℕ → List OpenBlock)
    → length (map told (outcomes_all sources rs rows)) ≡ length rs
long_told sources [] rows = refl
long_told sources (r ∷ rs) rows = ap suc (long_told sources rs (rows_step r rows))

pub every : (workers : ℕ) → 0 < workers → (s : Option ℕ) → shard_of workers s < workers
every workers h s = grind (arith, common_steps, mod-lt)
