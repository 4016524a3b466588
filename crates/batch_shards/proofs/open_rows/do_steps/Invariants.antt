use Rattle.std.proofs.Common.{◌≡◌, ◌+◌, ◌-◌, ◌≤◌, ◌<◌, ℕ, List, length, get_or, map, take, count_by, vec_len, true, false}
use Rattle.edge_block.specs.{Rows.OpenBlock, Batches.rows_all}
use Rattle.graph_types.specs.declared.batches.Outcome.{Outcome}
use Rattle.batch_shards.specs.RowBlocks.{opens, had_in, own_in, shared_numbers, HaveSame}
use Rattle.batch_shards.specs.{OpenRows.IsRowOf, Shards.resolved_in, Spending.latest, Spending.unspent, declared.shard.Step.Step}
use Rattle.batch_shards.specs.Groups.{is_on_row, does_act, IsNextStep, IsSourceRow, IsOneMore, IsTold}
use Rattle.batch_shards.proofs.open_rows.do_steps.Given as goal

abbrev pub invariant-loop-index : goal.invariant-loop-index
invariant-loop-index l = record {
  within : l.index ≤ length l.steps;
  there : (s : Step) → l.index < length l.steps → does_act l.row (get_or l.steps l.index s).act ≡ true;
  edge : IsNextStep (is_on_row l.row) l.steps l.index l.edge;
  rows : (sources : List ℕ) (rows : ℕ → List OpenBlock) → IsSourceRow sources l.steps l.row l.initial.opened.source.0
      → opens l.initial.opened.blocks.items ≡ rows l.initial.opened.source.0
      → opens l.opened.blocks.items ≡ rows_all (resolved_in sources (take l.index l.steps)) rows l.initial.opened.source.0;
  written : (sources : List ℕ) (rows : ℕ → List OpenBlock) → IsSourceRow sources l.steps l.row l.initial.opened.source.0
      → opens l.initial.opened.blocks.items ≡ rows l.initial.opened.source.0
      → (k : ℕ) (s : Step) (o : ℕ × Outcome) → k < l.index → does_act l.row (get_or l.steps k s).act ≡ true
      → IsTold (get_or l.steps k s).act (get_or l.initial.outcomes.items k o).1
      → IsOneMore sources l.steps rows l.initial.opened.source.0 k (get_or l.initial.outcomes.items k o).1
      (get_or l.outcomes.items k o).1;
  later : (k : ℕ) (o : ℕ × Outcome) → l.index ≤ k → get_or l.outcomes.items k o ≡ get_or l.initial.outcomes.items k o;
  others : (k : ℕ) (s : Step) (o : ℕ × Outcome) → k < length l.steps → does_act l.row (get_or l.steps k s).act ≡ false
      → get_or l.outcomes.items k o ≡ get_or l.initial.outcomes.items k o;
  places : map (λ o. o.0) l.outcomes.items ≡ map (λ o. o.0) l.initial.outcomes.items;
  length : length l.outcomes.items ≡ length l.steps;
  of_source : IsRowOf l.initial.opened.source l.opened;
  had : had_in l.opened.blocks.items ≡ had_in l.initial.opened.blocks.items;
  numbers : HaveSame (own_in l.opened.blocks.items) (shared_numbers l.fresh.items) (own_in l.initial.opened.blocks.items)
      (shared_numbers l.initial.fresh.items);
  few : vec_len l.initial.fresh + unspent (latest l.steps) (opens l.opened.blocks.items)
      ≤ vec_len l.fresh + (count_by (λ s. is_on_row l.row s.act) (take l.index l.steps)
      + unspent (latest l.steps) (opens l.initial.opened.blocks.items));
}

abbrev pub decreases-loop-index : goal.decreases-loop-index
decreases-loop-index l = length l.steps - l.index
