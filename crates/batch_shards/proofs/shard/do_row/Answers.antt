use Rattle.std.proofs.Common.{◌≡◌, ℕ, ◌++◌, List, [], ◌∷◌, arith, ap, sym, subst, ap₂, ◌∙◌, map, length, get_or, count_by}
use Rattle.std.proofs.lemmas.List.{get_or-map, length-map, map-append}
use Rattle.graph_types.specs.declared.ids.VertexId.{VertexId}
use Rattle.edge_block.specs.{Slots.BlockView, declared.blocks.Block.Block, Rows.{OpenBlock, untouched, shape_of}, Batches.opened_rows}
use Rattle.graph_version.specs.Rows.{row_of}
use Rattle.batch_shards.proofs.{Beginnings.kept_all, Expiring.opened_owes, SourceRows.outcomes_more}
use Rattle.batch_shards.{proofs.SourceRows.row_done, proofs.SourceSteps.past_more, specs.Closing.row_values, specs.Done.layout_by}
use Rattle.batch_shards.specs.{Groups.IsSourceRow, RowBlocks.shared_blocks, RowBlocks.kept_of, RowBlocks.opens, Shards.AreSteps}
use Rattle.batch_shards.specs.{Spending.latest, Spending.unspent, Spending.old_blocks, declared.shard.OpenRow.OpenRow}
use Rattle.std.specs.declared.{sync.Arc.Arc, alloc.Global.Global}
use Rattle.graph_types.proofs.Sums.{needed_row}
use Rattle.batch_shards.proofs.shard.do_row.Goals as goal

-- the row that is opened owes its old blocks
owed : (t : ℕ) (bs : List (Arc Block Global)) (row : List OpenBlock) (blocks : List BlockView) → row ≡ map kept_of bs
    → shared_blocks bs ≡ blocks → unspent t row ≡ old_blocks t blocks
owed t bs row blocks e same =
    ap (unspent t) (e ∙ kept_all bs) ∙ opened_owes t (shared_blocks bs) ∙ ap (old_blocks t) same

pub do_steps-requires-clause-fresh : goal.do_steps-requires-clause-fresh
do_steps-requires-clause-fresh c =
    let v : ℕ → List BlockView = row_of c.args.version.now.rows in
    let more = past_more c.args.row c.args.steps.now in
    let t : ℕ = latest c.args.steps.now in
    let left = needed_row (λ s. old_blocks t (v s)) c.args.sources.now c.args.row c.requires.row in
    let here = owed t c.blocks_at-blocks.result.now (opens c.in_ok-opened.opened.blocks.items)
    (v (get_or c.args.sources.now c.args.row (record { 0 = 0 })).0) c.in_ok-opened.ensures.blocks c.blocks_at-blocks.ensures.row in
    omega (arith, more, left, here, c.requires.fresh)

pub returns-clause-fresh : goal.returns-clause-fresh
returns-clause-fresh c =
    let v : ℕ → List BlockView = row_of c.args.version.now.rows in
    let more = past_more c.args.row c.args.steps.now in
    let t : ℕ = latest c.args.steps.now in
    let left = needed_row (λ s. old_blocks t (v s)) c.args.sources.now c.args.row c.requires.row in
    let here = owed t c.blocks_at-blocks.result.now (opens c.in_ok-opened.opened.blocks.items)
    (v (get_or c.args.sources.now c.args.row (record { 0 = 0 })).0) c.in_ok-opened.ensures.blocks c.blocks_at-blocks.ensures.row in
    omega (arith, more, left, here, c.requires.fresh, c.in_ok-do_steps.ensures.keeps.few)

pub returns-clause-done : goal.returns-clause-done
returns-clause-done c =
    let v : ℕ → List BlockView = row_of c.args.version.now.rows in
    let sources : List ℕ = map (λ (s : VertexId). s.0) c.args.sources.now in
    let long : length sources ≡ length c.args.sources.now = length-map c.args.sources.now (λ (s : VertexId). s.0) in
    let source : VertexId = get_or c.args.sources.now c.args.row (record { 0 = 0 }) in
    let start : OpenRow = c.in_ok-opened.opened in
    let r : OpenRow = c.do_steps.new.opened in
    let is : IsSourceRow sources c.args.steps.now c.args.row start.source.0 = record {
      steps_are = subst (λ n. AreSteps n c.args.steps.now) (sym long) c.requires.steps;
      distinct = c.requires.distinct;
      within = omega (arith, c.requires.row, long);
      source_is = get_or-map (λ (s : VertexId). s.0) c.args.sources.now c.args.row (record { 0 = 0 }) 0 c.requires.row
          ∙ ap (λ (s : VertexId). s.0) (sym c.in_ok-opened.ensures.of_source.source_is);
    } in
    let shown : opens start.blocks.items ≡ opened_rows (layout_by v) start.source.0 =
    c.in_ok-opened.ensures.blocks ∙ kept_all c.blocks_at-blocks.result.now
    ∙ ap (λ b. map untouched (map shape_of b))
    (c.blocks_at-blocks.ensures.row ∙ ap (λ (s : VertexId). v s.0) (sym c.in_ok-opened.ensures.of_source.source_is)) in
    let done = c.in_ok-do_steps.ensures.done sources (opened_rows (layout_by v)) is shown in
    λ handed. row_done v sources c.args.steps.now c.args.row start r is c.in_ok-do_steps.ensures.of_source handed
    c.args.fresh.now.items c.do_steps.new.fresh.items c.args.done.now _
    done.blocks_are
    (c.in_ok-do_steps.ensures.keeps.had ∙ c.in_ok-opened.ensures.had ∙ c.blocks_at-blocks.ensures.row
    ∙ ap (λ (s : VertexId). v s.0) (sym c.in_ok-opened.ensures.of_source.source_is))
    (λ q. let none = ap (count_by q) c.in_ok-opened.ensures.none_own in let same = c.in_ok-do_steps.ensures.keeps.numbers q in
    omega arith)
    (outcomes_more v sources c.args.steps.now c.args.row start.source.0 is c.args.done.now.outcomes.items c.do_steps.new.outcomes.items
    done.written c.in_ok-do_steps.ensures.others)
    (ap row_values c.in_ok-push.ensures.items
    ∙ map-append (λ (r : VertexId × List BlockView). (r.0.0, r.1)) c.args.done.now.rows.items
    ((source, c.in_ok-closed.closed) ∷ [])
    ∙ ap₂ (λ a b. row_values c.args.done.now.rows.items ++ (a, b) ∷ [])
    (ap (λ (s : VertexId). s.0) (sym (c.in_ok-do_steps.ensures.of_source.source_is ∙ c.in_ok-opened.ensures.of_source.source_is)))
    c.in_ok-closed.ensures.row)
    c.in_ok-closed.ensures.taken
    c.in_ok-closed.ensures.dropped
    c.in_ok-closed.ensures.unused

pub returns-clause-rows : goal.returns-clause-rows
returns-clause-rows c = c.blocks_at-blocks.ensures.rows
