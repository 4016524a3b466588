use Rattle.std.proofs.Common.{take}
use Rattle.owned_desk.specs.Touched.{AreBounds, TouchesSources}
use Rattle.owned_desk.proofs.touched.stamp.Given as goal

abbrev pub invariant-loop-source : goal.invariant-loop-source
invariant-loop-source l = record {
  touched : TouchesSources (take l.source-index l.sources) l.number l.initial.numbers l.numbers;
  bounds : AreBounds l.bounds l.numbers;
}
