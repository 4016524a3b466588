-- The operations of a shard, one after another.
use Rattle.std.proofs.Common.{◌≡◌, ℕ, ◌+◌, ◌<◌, List, [], ◌∷◌, ◌++◌, length, get_or, arith}
use Rattle.std.{proofs.{Common.take, lemmas.List.{map-append, take_more}}, specs.Prelude.pos}
use Rattle.std.{specs.declared.option.Option.TheVariants.None, proofs.lemmas.Grind.common_steps}
use Rattle.edge_block.specs.{Rows.OpenBlock, Batches.{rows_step, rows_all}}
use Rattle.batch_shards.specs.{Shards.{resolved_at, resolved_in}, declared.shard.{Step.Step, Act.TheVariants.Edge}}
use Rattle.graph_types.specs.declared.changes.EdgeChange.TheVariants.{Insert}
use Rattle.edge_block.proofs.ShardResults.{rows_more}

abbrev pub first_step : Step
first_step = record { op = 0; act = Edge None (Insert (pos 0) 0 0) }

module _ (sources : List ℕ) (steps : List Step) (k : ℕ) (lt : k < length steps) where
  abbrev s : Step
  s = get_or steps k first_step

  pub resolved_more : resolved_in sources (take (k + 1) steps) ≡ resolved_in sources (take k steps)
      ++ resolved_at sources s.act ∷ []
  resolved_more = grind (arith, common_steps, take_more, map-append)

  pub all_rows_more : (rows : ℕ → List OpenBlock)
      → rows_step (resolved_at sources s.act) (rows_all (resolved_in sources (take k steps)) rows)
      ≡ rows_all (resolved_in sources (take (k + 1) steps)) rows
  all_rows_more rows = grind (arith, common_steps, resolved_more, rows_more)
