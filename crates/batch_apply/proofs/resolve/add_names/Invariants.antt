use Rattle.std.proofs.Common.{◌≡◌, drop}
use Rattle.graph_types.specs.Parts.{names_after_all}
use Rattle.batch_apply.specs.Plan.{Fits}
use Rattle.batch_apply.proofs.resolve.add_names.Given as goal

-- what is left of the operations leaves what all leave
abbrev pub invariant-loop-op : goal.invariant-loop-op
invariant-loop-op l =
    (names_after_all (drop l.op-index l.ops) l.names.names ≡ names_after_all l.ops l.initial.names.names)
    × (l.names.limit ≡ l.initial.names.limit)
    × Fits l.names
