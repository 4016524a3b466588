use Rattle.std.proofs.Common.{◌≡◌, take, map}
use Rattle.epoch_core.proofs.start.listed_numbers.Given as goal

abbrev pub invariant-loop-list : goal.invariant-loop-list
invariant-loop-list l = l.numbers.items ≡ map (λ x. x.0) (take l.list-index l.lists)
