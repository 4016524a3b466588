use Rattle.std.proofs.Common.{List, sym, subst}
use Rattle.edge_block.specs.Slots.{BlockView}
use Rattle.graph_version.specs.{Rows.row_of, Sharing.block_values, Versions.VersionView}
use Rattle.version_diff.specs.{Differences.{seen_in, AreApart}, Pairs.AreSameByNumber}
use Rattle.version_diff.proofs.Apart.{apart_from}
use Rattle.version_diff.proofs.sources.push_source.Goals as goal

pub push_difference-requires-clause-earlier : goal.push_difference-requires-clause-earlier
push_difference-requires-clause-earlier c =
    subst (λ (row : List BlockView). AreApart (seen_in c.args.view.now row)) (sym c.row_blocks-earlier.ensures.blocks)
    (apart_from c.args.view.now c.earlier.result.now c.args.source.0 c.row_blocks-earlier.ensures.version)

pub push_difference-requires-clause-later : goal.push_difference-requires-clause-later
push_difference-requires-clause-later c =
    subst (λ (row : List BlockView). AreApart (seen_in c.args.view.now row)) (sym c.row_blocks-later.ensures.blocks)
    (apart_from c.args.view.now c.later.result.now c.args.source.0 c.row_blocks-later.ensures.version)

pub push_difference-requires-clause-alike : goal.push_difference-requires-clause-alike
push_difference-requires-clause-alike c =
    subst (λ (row : List BlockView). AreSameByNumber row (block_values c.row_blocks-later.result.now)) (sym c.row_blocks-earlier.ensures.blocks)
    (subst (λ (row : List BlockView). AreSameByNumber (row_of c.earlier.result.now.rows c.args.source.0) row)
    (sym c.row_blocks-later.ensures.blocks)
    (subst (λ (v : VersionView). AreSameByNumber (row_of c.earlier.result.now.rows c.args.source.0) (row_of v.rows c.args.source.0))
    (sym c.later.ensures.version)
    (subst (λ (v : VersionView). AreSameByNumber (row_of v.rows c.args.source.0) (row_of c.args.pair.now.later.rows c.args.source.0))
    (sym c.earlier.ensures.version) (c.later.ensures.alike c.args.source.0))))
