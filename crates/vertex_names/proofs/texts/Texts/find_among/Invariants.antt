use Rattle.std.{proofs.Common.{◌≢◌, All, take, Some}, specs.List.slice_get}
use Rattle.vertex_names.proofs.texts.Texts.find_among.Given as goal

abbrev pub invariant-loop-number : goal.invariant-loop-number
invariant-loop-number l = All (λ number. slice_get l.self number ≢ Some l.name) (take l.number-index l.numbers)
