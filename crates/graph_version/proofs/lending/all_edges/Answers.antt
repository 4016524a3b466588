use Rattle.std.proofs.Common.{◌∙◌, refl, None}
use Rattle.graph_types.specs.declared.ids.Filter.{Filter}
use Rattle.edge_block.proofs.LentEntries.{all_lent}
use Rattle.graph_version.proofs.lending.all_edges.Goals as goal

pub returns-clause-lends : goal.returns-clause-lends
returns-clause-lends c =
    let every : Filter = record { kind = None; lo = 0; hi = 18446744073709551615 } in
    c.select.ensures.lends ∙ all_lent c.args.block.now every (record { kind = refl; from = refl; to = refl })
    c.select.ensures.block
