use Rattle.std.proofs.Common.{◌≡◌, List, true, length, ap, ◌∙◌, subst, rules, arith}
use Rattle.version_diff.specs.Columns.{DiffColumns, diff_columns, mark_columns, have_one_length, with_differences, IsFound}
use Rattle.version_diff.specs.declared.{rows.EdgeDifference.EdgeDifference}
use Rattle.version_diff.proofs.columns.write_differences.Goals as goal

pub returns-in-Whole : goal.returns-in-Whole
returns-in-Whole c =
    let f = c.args.view.now in
    let p = c.args.pair.now in
    let old : DiffColumns =
    diff_columns c.args.states.now c.args.kinds.now c.args.sources.now c.args.targets.now
    (mark_columns c.args.weights_before.now c.args.firsts_before.now c.args.recents_before.now)
    (mark_columns c.args.weights_after.now c.args.firsts_after.now c.args.recents_after.now) in
    let found = subst (IsFound f p c.args.source.now (length c.args.states.now)) c.in-Whole.is c.in-Ok.ensures in
    let alike : have_one_length old ≡ true = search rules in (
      alike,
      c.in-Whole.differences.items,
      found,
      c.write_each.ensures ∙ ap (λ (ds : List EdgeDifference). with_differences 0 ds old) c.deref.ensures.value,
      omega (arith, c.len.ensures),
    )
