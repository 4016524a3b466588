use Rattle.std.proofs.Common.{◌∙◌, map, count_by, sym, ap, subst}
use Rattle.block_pool.specs.Kept.{HasPins}
use Rattle.block_reclamation.specs.Status.{is_reclaimable, recycled}
use Rattle.block_pool.proofs.numbers.Numbers.recycle.Goals as goal

pub sort-requires-clause-pins : goal.sort-requires-clause-pins
sort-requires-clause-pins c = subst (HasPins c.args.copy.now) (sym c.recall.ensures.same.pins) c.follow.ensures.pins

pub returns-clause-statuses : goal.returns-clause-statuses
returns-clause-statuses c =
    c.sort.ensures.statuses ∙ ap (map (recycled c.args.copy.now)) (c.recall.ensures.same.same ∙ c.follow.ensures.statuses)

pub returns-clause-count : goal.returns-clause-count
returns-clause-count c =
    c.sort.ensures.count ∙ ap (count_by (is_reclaimable c.args.copy.now)) (c.recall.ensures.same.same ∙ c.follow.ensures.statuses)
