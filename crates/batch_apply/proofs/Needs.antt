-- The fresh blocks that a plan's shards may take are no more than a number of 64 bits tells.
use Rattle.std.proofs.Common.{◌≡◌, ℕ, ◌-◌, ◌^◌, ◌<◌, ◌≤◌, Bool, List, [], ◌∷◌, map}
use Rattle.std.proofs.Common.{eqb, get_or, length, min, max, refl, ap₂, ◌∙◌, arith, All}
use Rattle.std.proofs.lemmas.{Bool.ne_eqb, List.length-map}
use Rattle.std.proofs.lemmas.List.Sums.{count_by-le-length, length-filter}
use Rattle.std.proofs.lemmas.{List.Elements.All-map, Map.Keys.IsDistinct-from_apart}
use Rattle.std.{proofs.lemmas.Map.Steps.length-le_from_distinct_below, specs.{Prelude.not, List.IsDistinct}}
use Rattle.std.{specs.List.{range_with_len, AllZip}, proofs.lemmas.{List.FromFn.length-enumerate_from, Grind.common_steps}}
use Rattle.graph_types.specs.Limits.{most_names, most_operations}
use Rattle.graph_types.specs.declared.batches.NamedOp.{NamedOp}
use Rattle.graph_types.specs.Parts.{Parts, parts_in, parts_of, names_after, kinds_after}
use Rattle.graph_types.proofs.Searches.{listed_all}
use Rattle.edge_block.specs.Batches.{Resolved, resolve_parts, resolved_by}
use Rattle.graph_version.{specs.{Rows.row_of, Versions.{VersionView, IsVersion}}, proofs.BlockCounts.few_blocks}
use Rattle.graph_version.proofs.OldBlocks.{old_sum}
use Rattle.batch_shards.specs.{Done.{layout_by, sources_in}, Groups.is_expiry, Spending.needed}
use Rattle.batch_shards.specs.{Spending.latest as latest_step, declared.shard.{Shard.Shard, Step.Step}}
use Rattle.batch_shards.proofs.ShardSizes.{exact}
use Rattle.batch_apply.specs.{Shards.{AreShardSteps, IsShardOf, latest_expiry}, declared.old.OldRow.OldRow, OldRows.AreOldRows}
use Rattle.batch_apply.{specs.OldRows.{old_sources, time_in, expiry_time}, proofs.OldRows.old_is_within}

-- a shard has no more operations than the batch
pub steps_few : (workers w : ℕ) (rs : List Resolved) (is_old : ℕ → Bool) (sources : List ℕ) (steps : List Step)
    → AreShardSteps workers rs w is_old sources steps → length steps ≤ length rs
steps_few workers w rs is_old sources steps is =
    grind (arith, common_steps, length-map, length-filter, count_by-le-length, length-enumerate_from)

few_needed : (v : VersionView) → IsVersion v → (workers w : ℕ) (rs : List Resolved) (shard : Shard) → length rs ≤ most_operations
    → IsShardOf workers rs (layout_by (row_of v.rows)) w shard
    → needed (row_of v.rows) (sources_in shard) shard.steps.items ≤ 2 ^ 64 - 1
few_needed v is workers w rs shard few of =
    let time : ℕ = latest_step shard.steps.items in
    let edges = count_by-le-length (λ (s : Step). not (is_expiry s.act)) shard.steps.items in
    let steps = steps_few workers w rs _ (sources_in shard) shard.steps.items of in
    let old = old_sum time v.rows (sources_in shard) of.distinct in
    let blocks = few_blocks v is in
    omega arith

-- what each shard may take, told to the last block
pub exact_needs : (v : VersionView) → IsVersion v → (workers : ℕ) (rs : List Resolved) (shards : List Shard) → length rs ≤ most_operations
    → AllZip (IsShardOf workers rs (layout_by (row_of v.rows))) (range_with_len 0 workers) shards
    → map (λ shard. min (needed (row_of v.rows) (sources_in shard) shard.steps.items) (2 ^ 64 - 1)) shards
    ≡ map (λ shard. needed (row_of v.rows) (sources_in shard) shard.steps.items) shards
exact_needs v is workers rs shards few zip =
    exact (λ (s : Shard). needed (row_of v.rows) (sources_in s) s.steps.items) (2 ^ 64 - 1)
    (IsShardOf workers rs (layout_by (row_of v.rows))) (λ w s of. few_needed v is workers w rs s few of) 0 workers shards zip

one_time : (names kinds : List (List ℕ)) (op : Parts) (rs : List Resolved)
    → latest_expiry (resolve_parts names kinds op ∷ rs) ≡ max (time_in op) (latest_expiry rs)
one_time names kinds op rs = grind (arith, common_steps)

-- a limit of weights changes no time
time_over : (most : ℕ) (op : NamedOp) → time_in (parts_in most op) ≡ time_in (parts_of op)
time_over most h1 = grind (arith, common_steps)

-- the greatest time of the expiries is told before their names are resolved
pub same_time : (most : ℕ) (ops : List NamedOp) (names kinds : List (List ℕ))
    → latest_expiry (resolved_by most ops names kinds) ≡ expiry_time ops
same_time most [] names kinds = refl
same_time most (op ∷ ops) names kinds =
    one_time (names_after op names) (kinds_after op kinds) (parts_in most op)
    (resolved_by most ops (names_after op names) (kinds_after op kinds))
    ∙ ap₂ max (time_over most op) (same_time most ops (names_after op names) (kinds_after op kinds))

-- a version has no more old rows than vertices
pub few_old_rows : (v : VersionView) → IsVersion v → (time : ℕ) (old : List OldRow) → AreOldRows time (row_of v.rows) old
    → length old ≤ most_names
few_old_rows v is time old are =
    let source : OldRow → ℕ = λ (r : OldRow). r.source.0 in
    let below : All (λ s. s < most_names) (old_sources old) = All-map (λ s. s < most_names) source old (λ k d lt.
    let here = are.blocks k d lt in
    let lt = old_is_within v is time (source (get_or old k d)) (omega (arith, here.0, here.1)) in
    omega (arith, lt, is.small.names, is.small.limits.names)) in
    let apart : IsDistinct eqb (old_sources old) = IsDistinct-from_apart eqb (old_sources old) (λ i j d lt within.
    ne_eqb (get_or (old_sources old) i d) (get_or (old_sources old) j d) (are.distinct i j d lt within)) in
    let few = length-le_from_distinct_below (old_sources old) most_names apart (λ q listed.
    listed_all (λ s. s < most_names) (old_sources old) q below listed) in
    omega (arith, few, length-map old source)
