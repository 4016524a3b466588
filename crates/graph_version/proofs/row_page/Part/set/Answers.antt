use Rattle.std.proofs.{Common.◌∙◌, Math.Nat.{min-le_left, min-le_right}, lemmas.List.length-set}
use Rattle.graph_version.proofs.Ages.{bounded_set}
use Rattle.graph_version.proofs.row_page.Part.set.Goals as goal

pub invariant_of-self : goal.invariant_of-self
invariant_of-self c = (
  c.rows_bound-self-inside.ensures (bounded_set _ c.self.inside.since c.since-since.result c.self.inside.rows c.args.place c.args.row
      (min-le_left c.self.inside.since c.since-since.result) (min-le_right c.self.inside.since c.since-since.result)
      c.self.invariant.0 c.since-since.ensures),
  length-set c.self.inside.rows c.args.place c.args.row ∙ c.self.invariant.1,
)
