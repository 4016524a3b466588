use Rattle.std.proofs.Common.{◌≡◌, ◌≤◌, ◌+◌, ◌⊎◌, inl, inr, ℕ, List, map, refl, ap, sym, subst, ◌∙◌, arith, length, vec_len}
use Rattle.std.{proofs.lemmas.List.{length-map, map-append}, specs.declared.{sync.Arc.Arc, alloc.Global.Global}}
use Rattle.edge_block.specs.{Slots.BlockView, declared.blocks.Block.Block}
use Rattle.graph_version.specs.Rows.{row_of}
use Rattle.batch_shards.specs.{RowBlocks.block_of, RowBlocks.shared_numbers, Shards.AreSteps, Done.sources_in, Done.AreBlockRows, Progress.AreRowsDone}
use Rattle.batch_shards.specs.{Spending.needed_past, Spending.IsGrouped, declared.shard.Step.Step, Groups.none_told}
use Rattle.batch_shards.proofs.{Beginnings.few_past, Beginnings.none_yet, Closed.read_edges, Finish.finish}
use Rattle.graph_types.specs.declared.{ids.VertexId.VertexId, batches.Outcome.Outcome}
use Rattle.graph_types.proofs.Cases.{both}
use Rattle.batch_shards.proofs.shard.work_on.Goals as goal

pub loop-row-init : goal.loop-row-init
loop-row-init c = record {
  fresh =
      let few = few_past (row_of c.args.version.now.rows) (sources_in c.args.shard) c.args.shard.steps.items in
      omega (arith, few, c.requires.fresh);
  done = none_yet (row_of c.args.version.now.rows) (sources_in c.args.shard) c.args.shard.steps.items c.args.shard.fresh.items
      c.in_ok-done.done
      (c.in_ok-done.ensures.outcomes ∙ ap (map (λ (s : Step). (s.op, none_told s.act))) c.as_slice-2.ensures.value)
      c.in_ok-done.ensures.rows c.in_ok-done.ensures.taken c.in_ok-done.ensures.dropped c.in_ok-done.ensures.unused;
  empty = c.new-list.ensures.items;
  rows = inl refl;
}

pub do_row-requires-clause-fresh : goal.do_row-requires-clause-fresh
do_row-requires-clause-fresh c =
    both (λ (ss : List VertexId) (st : List Step). needed_past c.loop-row.row (row_of c.args.version.now.rows)
    (map (λ (s : VertexId). s.0) ss) st ≤ vec_len c.loop-row.fresh)
    _ _ _ _ (sym c.as_slice-in-loop-row.ensures.value) (sym c.as_slice-in-loop-row-2.ensures.value) c.loop-row.invariant.fresh

pub loop-row-preserved : goal.loop-row-preserved
loop-row-preserved c =
    let v : ℕ → List BlockView = row_of c.args.version.now.rows in
    let handed : List ℕ = shared_numbers c.args.shard.fresh.items in
    let there = c.as_slice-in-loop-row.ensures.value in
    let here = c.as_slice-in-loop-row-2.ensures.value in
    record {
      fresh = both (λ (ss : List VertexId) (st : List Step). needed_past (c.loop-row.row + 1) v (map (λ (s : VertexId). s.0) ss) st
          ≤ vec_len c.do_row.new.fresh) _ _ _ _ there here c.in_ok-do_row.ensures.fresh;
      done = both (λ (ss : List VertexId) (st : List Step). AreRowsDone v (map (λ (s : VertexId). s.0) ss) st handed
          (c.loop-row.row + 1) c.do_row.new.fresh.items c.do_row.new.done) _ _ _ _ there here
          (c.in_ok-do_row.ensures.done handed
          (both (λ (ss : List VertexId) (st : List Step). AreRowsDone v (map (λ (s : VertexId). s.0) ss) st handed
          c.loop-row.row c.loop-row.fresh.items c.loop-row.done) _ _ _ _ (sym there) (sym here) c.loop-row.invariant.done));
      empty = c.in_ok-do_row.ensures.emptied;
      rows = inr c.in_ok-do_row.ensures.rows;
    }

pub do_row-requires-clause-outcomes : goal.do_row-requires-clause-outcomes
do_row-requires-clause-outcomes c =
    sym (length-map c.loop-row.done.outcomes.items (λ (o : ℕ × Outcome). o.0))
    ∙ ap length c.loop-row.invariant.done.outcomes.places ∙ length-map c.args.shard.steps.items (λ (s : Step). s.op)
    ∙ ap length (sym c.as_slice-in-loop-row-2.ensures.value)

pub returns : goal.returns
returns c =
    let v : ℕ → List BlockView = row_of c.args.version.now.rows in
    let long : length (sources_in c.args.shard) ≡ length c.args.shard.sources.items =
    length-map c.args.shard.sources.items (λ (s : VertexId). s.0) in
    let last : c.loop-row.row ≡ length (sources_in c.args.shard) =
    omega (arith, c.loop-row.auto.row-end, c.loop-row-test.false, c.len-row-end.ensures, c.args.shard.sources.ok.0, long) in
    finish v c.args.shard c.loop-row.done _ c.loop-row.fresh.items
    (read_edges v (sources_in c.args.shard) (subst (λ n. (n ≡ 0) ⊎ AreBlockRows v) last c.loop-row.invariant.rows))
    (subst (λ n. AreSteps n c.args.shard.steps.items) (sym long) c.requires.steps)
    (subst (λ n. AreRowsDone v (sources_in c.args.shard) c.args.shard.steps.items (shared_numbers c.args.shard.fresh.items) n
    c.loop-row.fresh.items c.loop-row.done) last c.loop-row.invariant.done)
    refl refl refl refl
    (ap shared_numbers c.in_ok-append.ensures.items ∙ map-append (λ (b : Arc Block Global). (block_of b).number)
    c.loop-row.done.left.unused.items c.loop-row.fresh.items)

pub do_row-requires-clause-groups : goal.do_row-requires-clause-groups
do_row-requires-clause-groups c =
    let many : c.len.result ≡ length c.args.shard.sources.items = omega (arith, c.len.ensures, c.args.shard.sources.ok.0) in
    let found : IsGrouped (length c.args.shard.sources.items) c.args.shard.steps.items c.in_ok-lists.lists =
    both (λ (n : ℕ) (st : List Step). IsGrouped n st c.in_ok-lists.lists) _ _ _ _ many c.as_slice.ensures.value
    c.in_ok-lists.ensures in
    both (λ (ss : List VertexId) (st : List Step). IsGrouped (length ss) st c.in_ok-lists.lists) _ _ _ _
    (sym c.as_slice-in-loop-row.ensures.value) (sym c.as_slice-in-loop-row-2.ensures.value) found
