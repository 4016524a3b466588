use Rattle.std.proofs.{Common.{length, rules}, lemmas.List.Sorted.IsNonDecreasingBy-from_sort_by_key}
use Rattle.graph_levels.{specs.Reached.level_table, proofs.Tables.sorted_rows}
use Rattle.graph_levels.proofs.found.near_over.Goals as goal

pub returns : goal.returns
returns g c =
    let n = g.S.Steps.vertices c.args.steps.now in
    let rows = c.in_ok-found.found.items in
    let sorted = c.sort_unstable_by_key.new.self.items in (
      level_table n rows,
      c.in_ok-found.ensures.levels,
      sorted_rows n rows sorted c.in_ok-found.ensures.rows c.sort_unstable_by_key.ensures.permutation
          (IsNonDecreasingBy-from_sort_by_key (λ row. row.0.0) sorted c.sort_unstable_by_key.ensures.sorted
          (λ a r q k. search rules)),
    )
