-- What the shards of a plan may take is within what the batch asks for: a block for each operation, and, where an operation
-- expires edges, as many more as the version has.
use Rattle.std.proofs.Common.{◌≡◌, ℕ, zero, suc, ◌+◌, ◌≤◌, true, false, cond, List, [], ◌∷◌, length}
use Rattle.std.proofs.Common.{flat_map, max, refl, sym, ap, ap₂, ◌∙◌, arith}
use Rattle.std.proofs.lemmas.{Bool.true≢false, List.Sums.sum_by-cons}
use Rattle.std.{proofs.lemmas.List.Sums.{sum_by-append, sum-map}, specs.List.{sum_by, range_with_len, AllZip}}
use Rattle.std.{specs.List.list_any, proofs.lemmas.Grind.common_steps}
use Rattle.graph_types.specs.{Graph.Graph, Step.is_expire, declared.batches.NamedOp.NamedOp}
use Rattle.graph_types.specs.declared.batches.NamedOp.TheVariants.{Insert, Incr, Remove, Expire}
use Rattle.graph_types.specs.Parts.{names_after, kinds_after}
use Rattle.graph_types.proofs.Sums.{count_more, sum_zero}
use Rattle.edge_block.specs.Slots.{BlockView}
use Rattle.edge_block.specs.Batches.{Resolved, resolved, resolved_by, shard_ops}
use Rattle.edge_block.proofs.ShardResults.{as_many_resolved}
use Rattle.edge_block.proofs.ShardSteps.{is_on_edge, on_edges, in_shards, few_edges}
use Rattle.graph_version.specs.Rows.{row_of, blocks_of}
use Rattle.graph_version.proofs.OldBlocks.{none_old, few_old}
use Rattle.batch_shards.specs.{Done.{layout_by, sources_in, steps_in}, Spending.old_blocks}
use Rattle.batch_shards.specs.declared.shard.Shard.{Shard}
use Rattle.batch_shards.proofs.ShardSizes.{needs_of, edges_steps}
use Rattle.batch_apply.specs.{Planned.IsPlan, Shards.acts, Shards.unsourced, Shards.latest_expiry, Shards.IsShardOf}
use Rattle.batch_apply.{specs.declared.plans.Plan.Plan, proofs.Listing.same_latest}
use Rattle.batch_apply.proofs.Together.{all_once}

-- Operations on edges, each of which is in one shard

one_act : (r : Resolved) → is_on_edge (unsourced r) ≡ is_on_edge r
one_act r = grind (arith, common_steps)

edges_acts : (rs : List Resolved) → on_edges (acts rs) ≡ on_edges rs
edges_acts [] = refl
edges_acts (r ∷ rs) = grind (arith, common_steps, count_more, one_act)

-- The greatest time of a batch without expiries

one_time : (most : ℕ) (ops : List NamedOp) (names kinds : List (List ℕ)) → list_any is_expire ops ≡ false
    → latest_expiry (resolved_by most ops names kinds) ≡ 0
one_time most [] names kinds none = refl
one_time most (Insert kind source target weight time ∷ ops) names kinds none =
    let op : NamedOp = Insert kind source target weight time in
    ap (max 0) (one_time most ops (names_after op names) (kinds_after op kinds) none)
one_time most (Incr kind source target amount time ∷ ops) names kinds none =
    let op : NamedOp = Incr kind source target amount time in
    ap (max 0) (one_time most ops (names_after op names) (kinds_after op kinds) none)
one_time most (Remove kind source target ∷ ops) names kinds none =
    let op : NamedOp = Remove kind source target in
    ap (max 0) (one_time most ops (names_after op names) (kinds_after op kinds) none)
one_time most (Expire time ∷ ops) names kinds none = absurd (true≢false none)

-- All shards together

module _ (workers : ℕ) (ops : List NamedOp) (g : Graph) (rows : List (List BlockView)) where
  abbrev rs : List Resolved
  rs = resolved ops g

  abbrev old : ℕ → ℕ
  old s = old_blocks (latest_expiry rs) (row_of rows s)

  shard_needs : (w : ℕ) (s : Shard) → IsShardOf workers rs (layout_by (row_of rows)) w s
      → needs_of (row_of rows) s ≡ on_edges (shard_ops workers w rs) + sum_by old (sources_in s)
  shard_needs w s is =
      ap₂ (λ (n : ℕ) (k : ℕ). n + k)
      (edges_steps (sources_in s) s.steps.items ∙ sym (edges_acts (steps_in s)) ∙ ap on_edges is.acts_are
      ∙ edges_acts (shard_ops workers w rs))
      (ap (λ (t : ℕ). sum_by (λ source. old_blocks t (row_of rows source)) (sources_in s))
      (same_latest workers w rs _ (sources_in s) s.steps.items is))

  sum_needs : (a k : ℕ) (shards : List Shard)
      → AllZip (IsShardOf workers rs (layout_by (row_of rows))) (range_with_len a k) shards
      → sum_by (needs_of (row_of rows)) shards ≡ in_shards workers rs a k + sum_by old (flat_map sources_in shards)
  sum_needs a zero [] z = refl
  sum_needs a zero (s ∷ shards) z = absurd z
  sum_needs a (suc k) [] z = absurd z
  sum_needs a (suc k) (s ∷ shards) z =
      grind (arith, common_steps, sum_by-cons, needs_of, sum_by-append, shard_needs, sum_needs (a + 1) k shards z.1)

  pub needs_within : (plan : Plan) → IsPlan workers ops g (row_of rows) plan
      → sum_by (λ n. n) plan.needs.items ≤ length ops + cond (list_any is_expire ops) (length (blocks_of rows)) 0
  needs_within plan is =
      let shards : List Shard = plan.shards.items in
      let all : sum_by (λ n. n) plan.needs.items ≡ in_shards workers rs 0 workers + sum_by old (flat_map sources_in shards) =
      ap (sum_by (λ n. n)) is.needs ∙ sum-map (needs_of (row_of rows)) shards ∙ sum_needs 0 workers shards is.shards in
      let edges : in_shards workers rs 0 workers ≤ length ops =
      omega (arith, few_edges workers rs 0 workers, as_many_resolved g.limits.weight ops g.names g.kinds) in
      elim (list_any is_expire ops) as (λ b. list_any is_expire ops ≡ b
      → sum_by (λ n. n) plan.needs.items ≤ length ops + cond b (length (blocks_of rows)) 0) [
        | true ↦ λ t. omega (
          arith,
          all,
          edges,
          few_old (latest_expiry rs) rows (flat_map sources_in shards)
              (λ m. all_once workers ops g (layout_by (row_of rows)) 0 workers m shards is.shards),
        )
        | false ↦ λ t. omega (
          arith,
          all,
          edges,
          sum_zero old (λ s. ap (λ (n : ℕ). old_blocks n (row_of rows s)) (one_time g.limits.weight ops g.names g.kinds t)
              ∙ none_old (row_of rows s)) (flat_map sources_in shards),
        )
      ] refl
