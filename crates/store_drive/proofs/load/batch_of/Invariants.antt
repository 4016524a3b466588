use Rattle.std.{proofs.Common.◌≡◌, specs.{Prelude.map, List.range_with_len}}
use Rattle.store_drive.specs.Load.{load_operation}
use Rattle.store_drive.proofs.load.batch_of.Given as goal

-- the operations at the places so far
abbrev pub invariant-loop-place : goal.invariant-loop-place
invariant-loop-place l = l.batch ≡ map (load_operation l.number) (range_with_len 0 l.place)
