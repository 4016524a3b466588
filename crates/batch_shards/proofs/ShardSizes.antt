-- Bounds of what the steps of shards name and take.
use Rattle.std.proofs.Common.{◌≡◌, ℕ, zero, suc, ◌+◌, ◌≤◌, min, List, [], ◌∷◌, map, refl, ap₂, arith, not, count_by}
use Rattle.std.proofs.lemmas.Grind.{common_steps}
use Rattle.std.specs.{List.{AllZip, range_with_len}, declared.option.Option.Option}
use Rattle.graph_types.proofs.Sums.{count_more}
use Rattle.edge_block.specs.Slots.{BlockView}
use Rattle.edge_block.proofs.ShardSteps.{is_on_edge, on_edges}
use Rattle.batch_shards.specs.{Shards.{IsPlace, AreSteps}, declared.shard.{Place.Place, Shard.Shard, Step.Step}}
use Rattle.batch_shards.specs.{Done.sources_in, Groups.is_expiry, Shards.{resolved_at, resolved_in}, Spending.needed}
use Rattle.batch_shards.specs.declared.shard.Act.{Act}

wider : (n m : ℕ) → n ≤ m → (p : Option Place) → IsPlace n p → IsPlace m p
wider n m le p h = grind (arith, common_steps)

pub steps_wider : (n m : ℕ) → n ≤ m → (steps : List Step) → AreSteps n steps → AreSteps m steps
steps_wider n m le steps all k d lt = grind (arith, common_steps, wider)

pub exact : (f : Shard → ℕ) (n : ℕ) (R : ℕ → Shard → Type 0) → ((w : ℕ) (s : Shard) → R w s → f s ≤ n) → (first count : ℕ)
    (shards : List Shard) → AllZip R (range_with_len first count) shards → map (λ s. min (f s) n) shards ≡ map f shards
exact f n R few first zero [] zip = refl
exact f n R few first zero (s ∷ shards) zip = absurd zip
exact f n R few first (suc count) [] zip = absurd zip
exact f n R few first (suc count) (s ∷ shards) zip =
    let within = few first s zip.0 in
    let here : min (f s) n ≡ f s = omega arith in
    ap₂ (λ (a : ℕ) as'. a ∷ as') here (exact f n R few (first + 1) count shards zip.1)

one_step : (sources : List ℕ) (a : Act) → not (is_expiry a) ≡ is_on_edge (resolved_at sources a)
one_step sources a = grind (arith, common_steps)

pub edges_steps : (sources : List ℕ) (steps : List Step)
    → count_by (λ s. not (is_expiry s.act)) steps ≡ on_edges (resolved_in sources steps)
edges_steps sources [] = refl
edges_steps sources (s ∷ steps) = grind (arith, common_steps, count_more, one_step)

-- how many fresh blocks a shard may take of these rows
abbrev pub needs_of : (ℕ → List BlockView) → Shard → ℕ
needs_of rows shard = needed rows (sources_in shard) shard.steps.items
