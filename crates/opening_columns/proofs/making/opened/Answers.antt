use Rattle.std.proofs.Common.{◌≤◌, ◌==◌, ◌∙◌, ap, sym, subst, arith, All, AllPairs, List, filter, length}
use Rattle.graph_types.specs.declared.ids.Edge.{Edge}
use Rattle.edge_block.specs.Slots.{BlockView}
use Rattle.graph_version.specs.Sharing.{block_values}
use Rattle.opening_columns.specs.{Edges.{AreRising, IsWithinBounds}, Openings.AreLaidOut}
use Rattle.opening_columns.proofs.Opened.{rise, many, version_is, made_is}
use Rattle.opening_columns.proofs.making.opened.Goals as goal

pub laid_out-requires-clause-rising : goal.laid_out-requires-clause-rising
laid_out-requires-clause-rising c = subst AreRising (sym c.as_slice.ensures.value) (c.requires.left.1).left.rising

pub laid_out-requires-clause-range : goal.laid_out-requires-clause-range
laid_out-requires-clause-range c = subst (All IsWithinBounds) (sym c.as_slice.ensures.value) (c.requires.left.1).left.range

pub rows_over-requires : goal.rows_over-requires
rows_over-requires c =
    let bs : List BlockView = block_values c.in_ok-pool.field-0.blocks.items in
    let laid : AreLaidOut c.args.blocks c.args.left.edges.items bs c.in_ok-pool.field-0.pool =
    subst (λ (es : List Edge). AreLaidOut c.args.blocks es bs c.in_ok-pool.field-0.pool) c.as_slice.ensures.value c.in_ok-pool.ensures.laid in
    let is = c.requires.left.1 in
    subst (AllPairs (λ (a b : BlockView). a.source ≤ b.source)) (ap block_values (sym c.as_slice-2.ensures.value))
    (rise c.args.limits c.args.blocks is.ops c.args.left.names c.args.left.kinds c.args.left.edges.items bs c.in_ok-pool.field-0.pool
    is.left laid)

pub begun-requires-clause-names : goal.begun-requires-clause-names
begun-requires-clause-names c = (c.requires.left.1).left.names_limit

pub begun-requires-clause-kinds : goal.begun-requires-clause-kinds
begun-requires-clause-kinds c = (c.requires.left.1).left.kinds_limit

pub begun-requires-clause-edges : goal.begun-requires-clause-edges
begun-requires-clause-edges c =
    let bs : List BlockView = block_values c.in_ok-pool.field-0.blocks.items in
    let laid : AreLaidOut c.args.blocks c.args.left.edges.items bs c.in_ok-pool.field-0.pool =
    subst (λ (es : List Edge). AreLaidOut c.args.blocks es bs c.in_ok-pool.field-0.pool) c.as_slice.ensures.value c.in_ok-pool.ensures.laid in
    let is = c.requires.left.1 in
    let lent = ap block_values c.as_slice-2.ensures.value in
    let made = many c.args.limits c.args.blocks is.ops c.args.left.names c.args.left.kinds c.args.left.edges.items bs
    c.in_ok-pool.field-0.pool is.left laid c.in_ok-rows.rows (c.in_ok-rows.ensures.blocks ∙ lent)
    (λ s. c.in_ok-rows.ensures.rows s ∙ ap (λ (xs : List BlockView). filter (λ (b : BlockView). b.source == s) xs) lent) in
    let same = ap length made in
    let long = c.as_slice.ensures.len in
    let whole = ap length c.as_slice.ensures.value in
    let count = c.len-count.ensures in
    omega arith

pub begun-requires-clause-version : goal.begun-requires-clause-version
begun-requires-clause-version c =
    let bs : List BlockView = block_values c.in_ok-pool.field-0.blocks.items in
    let laid : AreLaidOut c.args.blocks c.args.left.edges.items bs c.in_ok-pool.field-0.pool =
    subst (λ (es : List Edge). AreLaidOut c.args.blocks es bs c.in_ok-pool.field-0.pool) c.as_slice.ensures.value c.in_ok-pool.ensures.laid in
    let is = c.requires.left.1 in
    let lent = ap block_values c.as_slice-2.ensures.value in
    version_is c.args.limits c.args.blocks is.ops c.args.left.names c.args.left.kinds c.args.left.edges.items bs
    c.in_ok-pool.field-0.pool is.left laid c.in_ok-rows.rows (c.in_ok-rows.ensures.blocks ∙ lent)
    (λ s. c.in_ok-rows.ensures.rows s ∙ ap (λ (xs : List BlockView). filter (λ (b : BlockView). b.source == s) xs) lent)
    c.weight-walls.ensures.limits is.taken.names is.taken.kinds

pub returns-clause-made : goal.returns-clause-made
returns-clause-made c = λ t is.
    let bs : List BlockView = block_values c.in_ok-pool.field-0.blocks.items in
    let laid : AreLaidOut c.args.blocks c.args.left.edges.items bs c.in_ok-pool.field-0.pool =
    subst (λ (es : List Edge). AreLaidOut c.args.blocks es bs c.in_ok-pool.field-0.pool) c.as_slice.ensures.value c.in_ok-pool.ensures.laid in
    let lent = ap block_values c.as_slice-2.ensures.value in
    made_is c.args.limits c.args.blocks is.ops c.args.left.names c.args.left.kinds c.args.left.edges.items bs
    c.in_ok-pool.field-0.pool is.left laid c.in_ok-rows.rows (c.in_ok-rows.ensures.blocks ∙ lent)
    (λ s. c.in_ok-rows.ensures.rows s ∙ ap (λ (xs : List BlockView). filter (λ (b : BlockView). b.source == s) xs) lent)
    t c.in_ok-version.version is.taken c.weight-walls.ensures.limits c.in_ok-version.ensures
