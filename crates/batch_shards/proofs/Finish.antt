-- What a shard leaves, from the rows that it has opened, changed and closed.
use Rattle.std.proofs.Common.{◌≡◌, ℕ, ◌+◌, false, List, ◌++◌, length, get_or, take, map, flat_map}
use Rattle.std.proofs.{Common.{count_by, zip, sym, ap, ◌∙◌, arith, subst, All}, lemmas.{Bool.lt-ltb, List.get_or-map}}
use Rattle.std.{proofs.lemmas.List.{length-map, take_all}, specs.declared.{sync.Arc.Arc, alloc.Global.Global}}
use Rattle.std.proofs.lemmas.Grind.{common_steps}
use Rattle.graph_types.specs.declared.batches.Outcome.{Outcome, TheVariants.Absent}
use Rattle.edge_block.specs.{Batches.opened_rows, Batches.outcomes_all, Rows.shape_of, Rows.row_end, Rows.taken_in, Rows.dropped_in}
use Rattle.edge_block.specs.{declared.blocks.Block.Block, Slots.BlockView}
use Rattle.batch_shards.specs.{RowBlocks.{block_of, shared_blocks, shared_numbers}, Closing.{written_here, dropped_here, closed_rows}}
use Rattle.batch_shards.specs.{Closing.{row_values, stays_all, written_blocks, dropped_all, unused_all}, Groups.is_past}
use Rattle.graph_types.specs.Outcomes.{told}
use Rattle.graph_types.proofs.{OutcomeSteps.zipped, Sums.count_by-append}
use Rattle.edge_block.proofs.ShardResults.{length-outcomes_all}
use Rattle.batch_shards.specs.{Groups.outcome_over, Shards.{IsAct, AreSteps, resolved_at, resolved_in, sources_of, had_all}}
use Rattle.batch_shards.specs.declared.shard.{Act.Act, Step.Step, Shard.Shard, ShardDone.ShardDone, OpenRow.OpenRow}
use Rattle.batch_shards.specs.{Progress.{AreOutcomes, AreRowsDone}, Births.{births_end, births_dropped}, Done.IsShardDone}
use Rattle.batch_shards.{specs.Done.{sum_of, layout_by, rows_by, sources_in}, proofs.Dating.{all_births, all_dropped}}
use Rattle.batch_shards.proofs.ShardSteps.{first_step}
use Rattle.batch_shards.proofs.{Balances.{all_before, all_after, all_numbers}, Closed.{length-written, length-dropped, sum_open}}
use Rattle.batch_shards.proofs.Closed.{same_sources, pieces_closed, all_layout, HasEdges, all_blocks}
use Rattle.graph_version.specs.Versions.{IsBlockOf, is_in}
use Rattle.graph_version.proofs.NumbersIn.{written_births}

-- every operation is on one of the rows
all_past : (rows : ℕ) (act : Act) → IsAct rows act → is_past rows act ≡ false
all_past rows act w = grind (arith, common_steps, lt-ltb)

outcomes_all_are : (rows : ℕ → List BlockView) (sources : List ℕ) (steps : List Step) (outs : List (ℕ × Outcome))
    → AreSteps (length sources) steps → AreOutcomes sources steps rows (length sources) outs
    → outs ≡ zip (map (λ s. s.op) steps) (map told (outcomes_all sources (resolved_in sources steps) (opened_rows (layout_by rows))))
outcomes_all_are rows sources steps outs in_rows d =
    let those : List Outcome = outcomes_all sources (resolved_in sources steps) (opened_rows (layout_by rows)) in
    let a = length-outcomes_all sources (resolved_in sources steps) (opened_rows (layout_by rows)) in
    let b : length (resolved_in sources steps) ≡ length steps = length-map steps
    (λ (s : Step). resolved_at sources s.act) in
    let c : length (map told those) ≡ length those = length-map those told in
    let long : length outs ≡ length steps = sym (length-map outs (λ (o : ℕ × Outcome). o.0)) ∙ ap length d.places
    ∙ length-map steps (λ (s : Step). s.op) in
    let all : take (length sources) sources ≡ sources = take_all (length sources) sources (omega arith) in
    zipped outs (map told those) (omega arith)
    (λ k o lt. d.are k first_step o (omega arith) (all_past (length sources) (get_or steps k first_step).act
    (in_rows k first_step (omega arith)))
    ∙ ap (λ ss. told (outcome_over ss sources steps (opened_rows (layout_by rows)) k)) all
    ∙ sym (get_or-map told those k Absent Absent (omega arith)))
    ∙ ap (λ ops. zip ops (map told those)) d.places

-- what all rows leave is what a shard must leave
module _ (rows : ℕ → List BlockView) (shard : Shard) (before done : ShardDone) (fresh : List (Arc Block Global)) where
  pub finish : All HasEdges (flat_map rows (sources_in shard)) → AreSteps (length (sources_in shard)) shard.steps.items
      → AreRowsDone rows (sources_in shard) shard.steps.items (shared_numbers shard.fresh.items) (length (sources_in shard)) fresh
      before → done.outcomes.items ≡ before.outcomes.items → done.rows.items ≡ before.rows.items
      → done.left.taken.items ≡ before.left.taken.items → done.left.dropped.items ≡ before.left.dropped.items
      → shared_numbers done.left.unused.items ≡ shared_numbers before.left.unused.items ++ shared_numbers fresh
      → IsShardDone rows shard done
  finish edges in_rows d same_outcomes same_rows same_taken same_dropped same_unused =
      let w : List OpenRow = d.work in
      let all : take (length (sources_in shard)) (sources_in shard) ≡ sources_in shard =
      take_all (length (sources_in shard)) (sources_in shard) (omega arith) in
      let ss : sources_of w ≡ sources_in shard = d.sources_are ∙ all in
      let had : had_all w ≡ flat_map rows (sources_in shard) = d.had ∙ ap (flat_map rows) all in
      let closed : row_values done.rows.items ≡ closed_rows w = ap row_values same_rows ∙ d.closed in
      let taken : done.left.taken.items ≡ map (λ b. b.number) (written_blocks w) = same_taken ∙ d.taken in
      let dropped : shared_blocks done.left.dropped.items ≡ dropped_all w = ap shared_blocks same_dropped ∙ d.dropped in
      record {
        outcomes_are = same_outcomes ∙ outcomes_all_are rows (sources_in shard) shard.steps.items before.outcomes.items in_rows
            d.outcomes;
        sources_are = ap (map (λ r. r.0)) closed ∙ same_sources w ∙ ss;
        layout = subst (λ rs. All (λ r. map shape_of r.1 ≡ row_end (rows_by rows shard r.0)) rs) (sym closed)
            (all_layout (rows_by rows shard) w d.layout);
        blocks = subst (λ rs. All (λ r. All (IsBlockOf r.0) r.1) rs) (sym closed)
            (all_blocks w d.own (subst (λ bs. All HasEdges bs) (sym had) edges));
        exchanged = record {
          kept = stays_all w;
          fresh = written_blocks w;
          taken_are = sym taken;
          before_are = λ p. ap (λ bs. count_by p (stays_all w) + count_by p bs) dropped ∙ all_before w p ∙ ap (count_by p) had;
          after_are = λ p. all_after w p ∙ sym (ap (count_by p) (ap (flat_map (λ r. r.1)) closed ∙ pieces_closed w));
        };
        taken_are = ap length taken ∙ length-map (written_blocks w) (λ b. b.number)
            ∙ sum_open written_here taken_in (rows_by rows shard) length-written w d.layout ∙ ap
            (sum_of (λ source. taken_in (rows_by rows shard source))) ss;
        dropped_are = sym (length-map done.left.dropped.items block_of) ∙ ap length dropped
            ∙ sum_open dropped_here dropped_in (rows_by rows shard) length-dropped w d.layout ∙ ap
            (sum_of (λ source. dropped_in (rows_by rows shard source))) ss;
        births = λ f g n each. subst (λ rs. All (λ r. All (λ b. g b ≡ f b) (rows r.0)
            → map g r.1 ≡ births_end n (rows_by rows shard r.0) (map f (rows r.0))) rs) (sym closed)
            (all_births f g n (rows_by rows shard) rows w d.layout d.had_each
            (written_births f g n (written_blocks w) (λ b is. each b (ap (is_in b.number) taken ∙ is))));
        dropped_births = λ f. ap (map f) dropped ∙ all_dropped f (rows_by rows shard) rows w d.layout d.had_each
            ∙ ap (flat_map (λ source. births_dropped (rows_by rows shard source) (map f (rows source)))) ss;
        handed = λ q.
            let t : count_by q done.left.taken.items ≡ count_by q (map (λ b. b.number) (written_blocks w)) = ap (count_by q) taken in
            let u : count_by q (shared_numbers done.left.unused.items) ≡ count_by q (unused_all w) + count_by q (shared_numbers fresh) =
            ap (count_by q) (same_unused ∙ ap (λ ns. ns ++ shared_numbers fresh) d.unused)
            ∙ count_by-append q (unused_all w) (shared_numbers fresh) in
            let n = all_numbers q w in
            let e = d.numbers q in
            omega arith;
      }
