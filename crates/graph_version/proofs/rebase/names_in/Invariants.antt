use Rattle.std.proofs.Common.{◌≡◌, take}
use Rattle.graph_version.proofs.rebase.names_in.Given as goal

abbrev pub invariant-loop-number : goal.invariant-loop-number
invariant-loop-number l = l.names.items ≡ take l.number l.book.names
