use Rattle.std.proofs.Common.{◌≡◌, ◌≤◌, ◌<◌, ◌∙◌, ◌++◌, ℕ, List, ap, sym, subst, arith, length, take, drop, AllPairs, get_or}
use Rattle.std.proofs.lemmas.Bool.{eqb-true}
use Rattle.std.proofs.lemmas.List.{length-map, get_or-take, take-append-drop}
use Rattle.std.specs.declared.{sync.Arc.Arc, alloc.Global.Global}
use Rattle.edge_block.specs.declared.blocks.Block.{Block}
use Rattle.edge_block.specs.Slots.{BlockView}
use Rattle.graph_types.proofs.ListPlaces.{map_take, map_drop}
use Rattle.graph_version.specs.{Rows.Replaces, Sharing.{block_value, block_values}}
use Rattle.opening_columns.proofs.RowLists.{AreLaid, all_blocks, row_more, own_front, past_back, up_back, front_some, source_at}
use Rattle.opening_columns.proofs.laying.rows_over.Goals as goal

pub loop-rest-preserved : goal.loop-rest-preserved
loop-rest-preserved c =
    let rest = c.loop-rest.rest.now in
    let bs : List BlockView = block_values rest in
    let blocks : List BlockView = block_values c.args.blocks.now in
    let n : ℕ = c.row_length.result in
    let e = c.row_length.ensures in
    let many = length-map rest block_value in
    let inside : n ≤ length bs = (let within = e.within in omega arith) in
    let front : block_values c.split_at.result.0.now ≡ take n bs = ap block_values c.split_at.ensures.front ∙ map_take block_value n rest in
    let back : block_values c.split_at.result.1.now ≡ drop n bs = ap block_values c.split_at.ensures.back ∙ map_drop block_value n rest in
    let some : 0 < length c.split_at.result.0.now = (let long = c.split_at.ensures.front_len in let n_some = e.some in omega arith) in
    let x = c.index-row-0.result in
    let source : ℕ = c.source.result.0 in
    let first : (d : BlockView) → (get_or bs 0 d).source ≡ source = λ d.
    ap (λ (b : BlockView). b.source) (source_at rest 0 x d (let within = e.within in let n_some = e.some in omega arith)
    (c.index-row-0.is ∙ ap (λ (l : List (Arc Block Global)). get_or l 0 x) c.split_at.ensures.front ∙ get_or-take n rest 0 x e.some)
    ∙ sym c.deref.ensures) ∙ sym c.source.ensures in
    let most : (d : BlockView) → n < length bs → (get_or bs n d).source ≡ (get_or bs 0 d).source → ⊥ =
    λ d lt. e.most d (omega arith) in
    let whole : AreLaid blocks (take n bs ++ drop n bs) c.loop-rest.rows =
    subst (λ (l : List BlockView). AreLaid blocks l c.loop-rest.rows) (sym (take-append-drop n bs)) c.loop-rest.invariant.laid in
    let put : Replaces source (take n bs) c.loop-rest.rows c.in_ok-rows.rows =
    subst (λ (row : List BlockView). Replaces source row c.loop-rest.rows c.in_ok-rows.rows) front c.in_ok-rows.ensures in
    record {
      laid = subst (λ (l : List BlockView). AreLaid blocks l c.in_ok-rows.rows) (sym back)
          (row_more blocks (take n bs) (drop n bs) c.loop-rest.rows c.in_ok-rows.rows source whole
          (own_front bs n source c.loop-rest.invariant.up e.some inside e.alike most first)
          (past_back bs n source c.loop-rest.invariant.up e.some inside e.alike most first)
          (front_some bs n source c.loop-rest.invariant.up e.some inside e.alike most first) put);
      up = subst (AllPairs (λ (a b : BlockView). a.source ≤ b.source)) (sym back)
          (up_back bs n source c.loop-rest.invariant.up e.some inside e.alike most first);
    }

pub returns-clause-blocks : goal.returns-clause-blocks
returns-clause-blocks c =
    let none : length (block_values c.loop-rest.rest.now) ≡ 0 = length-map c.loop-rest.rest.now block_value
    ∙ eqb-true (length c.loop-rest.rest.now) 0 (sym c.is_empty.ensures ∙ c.loop-rest-test.false) in
    all_blocks (block_values c.args.blocks.now) (block_values c.loop-rest.rest.now) c.loop-rest.rows c.loop-rest.invariant.laid none
