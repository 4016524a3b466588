use Rattle.std.proofs.Common.{rules}
use Rattle.version_shelf.proofs.Steps.{showing_on}
use Rattle.version_shelf.proofs.writers.ShelfWriter.enter_batch.Goals as goal

pub invariant_of-self : goal.invariant_of-self
invariant_of-self c = (
  c.push.ensures.end,
  showing_on c.self.inside.place.desk.shown.value c.self.inside.history c.push.new.self c.args.batch.now c.push.result
      c.self.invariant.1 c.push.ensures.book c.push.ensures.batches,
  c.self.invariant.2,
)

-- Its search is long where it fails.
pub returns-clause-posted : goal.returns-clause-posted
returns-clause-posted c = search rules
