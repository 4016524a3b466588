use Rattle.std.proofs.Common.{◌≡◌, drop}
use Rattle.vertex_names.proofs.same.is_same_name.Given as goal

-- names are the same whose rests are
abbrev pub invariant-loop-k : goal.invariant-loop-k
invariant-loop-k l = drop l.k l.name ≡ drop l.k l.other → l.name ≡ l.other
