use Rattle.block_reclamation.proofs.{Copied.floor_is_least, Reclaimed.floor_spares, Reclaimed.need_is_monotone}
use Rattle.block_reclamation.proofs.laws.law_need.Goals as goal

pub returns-clause-least : goal.returns-clause-least
returns-clause-least c = floor_is_least

pub returns-clause-spares : goal.returns-clause-spares
returns-clause-spares c = floor_spares

pub returns-clause-monotone : goal.returns-clause-monotone
returns-clause-monotone c = need_is_monotone
