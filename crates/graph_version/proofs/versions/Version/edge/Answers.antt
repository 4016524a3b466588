use Rattle.std.proofs.{Common.{◌≡◌, ◌∙◌, List, get_or, ap, sym, arith, Some, None}, lemmas.List.take_all}
use Rattle.std.specs.{Option.option_map, declared.sync.Arc.Arc, declared.alloc.Global.Global}
use Rattle.edge_block.specs.{Slots.BlockView, Slots.first_some, Lending.lent_edge, declared.blocks.Block.Block}
use Rattle.edge_block.specs.Rows.{shape_of, block_at}
use Rattle.edge_block.proofs.SlotTargets.{none_more}
use Rattle.graph_version.specs.{Rows.row_of, Sharing.block_value, Sharing.block_values}
use Rattle.graph_version.specs.{Versions.VersionView, Versions.IsVersion, Edges.lent_to}
use Rattle.graph_version.proofs.Looks.{place_at, found_edge, no_edge, none_there}
use Rattle.graph_version.proofs.versions.Version.edge.Goals as goal

pub returns-in-Some-clause-edge : goal.returns-in-Some-clause-edge
returns-in-Some-clause-edge c =
    let k = c.args.kind.0 in
    let t = c.args.target.0 in
    let blocks : List (Arc Block Global) = c.row_blocks-block-items.result.now in
    let block : Arc Block Global = c.block-item.result in
    let item : block ≡ get_or blocks c.loop-block.block-index block = c.block-item.is in
    let is : IsVersion c.args.self.now = rw (← c.self.view_is) c.self.invariant.version in
    let same : block_values blocks ≡ row_of c.args.self.now.rows c.args.source.0 = c.row_blocks-block-items.ensures.blocks
    ∙ ap (λ (v : VersionView). row_of v.rows c.args.source.0) c.self.view_is in
    let here : Some (lent_edge c.in-Some.edge) ≡ lent_to k t (place_at (k, t) (get_or blocks c.loop-block.block-index block)) =
    c.in-Some.ensures.edge ∙ ap (λ (b : BlockView). lent_to k t (block_at (shape_of b) (k, t)))
    (c.deref.ensures ∙ ap block_value item) in
    found_edge c.args.self.now k c.args.source.0 t blocks c.loop-block.block-index block (lent_edge c.in-Some.edge) is same
    c.loop-block-test.true c.loop-block.invariant here

pub loop-block-preserved : goal.loop-block-preserved
loop-block-preserved c =
    let k = c.args.kind.0 in
    let t = c.args.target.0 in
    let blocks : List (Arc Block Global) = c.row_blocks-block-items.result.now in
    let block : Arc Block Global = c.block-item.result in
    let item : block ≡ get_or blocks c.loop-block.block-index block = c.block-item.is in
    let none : c.edge_in.result ≡ None = c.in_default.is in
    let here : None ≡ lent_to k t (place_at (k, t) (get_or blocks c.loop-block.block-index block)) =
    sym (ap (option_map lent_edge) none) ∙ c.edge_in.ensures.edge
    ∙ ap (λ (b : BlockView). lent_to k t (block_at (shape_of b) (k, t))) (c.deref.ensures ∙ ap block_value item) in
    none_more (place_at (k, t)) blocks c.loop-block.block-index block c.loop-block-test.true c.loop-block.invariant
    (none_there k t (get_or blocks c.loop-block.block-index block) here)

pub returns-clause-edge : goal.returns-clause-edge
returns-clause-edge c =
    let k = c.args.kind.0 in
    let t = c.args.target.0 in
    let blocks : List (Arc Block Global) = c.row_blocks-block-items.result.now in
    let is : IsVersion c.args.self.now = rw (← c.self.view_is) c.self.invariant.version in
    let same : block_values blocks ≡ row_of c.args.self.now.rows c.args.source.0 = c.row_blocks-block-items.ensures.blocks
    ∙ ap (λ (v : VersionView). row_of v.rows c.args.source.0) c.self.view_is in
    let all : first_some (place_at (k, t)) blocks ≡ None =
    ap (first_some (place_at (k, t))) (sym (take_all c.loop-block.block-index blocks (omega arith)))
    ∙ c.loop-block.invariant in
    no_edge c.args.self.now k c.args.source.0 t blocks is same all
