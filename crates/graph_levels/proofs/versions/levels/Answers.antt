use Rattle.std.proofs.Common.{rules}
use Rattle.graph_levels.proofs.versions.levels.Goals as goal

pub levels_over-requires : goal.levels_over-requires
levels_over-requires c = search rules

pub returns-in_err-levels_over-clause-refused : goal.returns-in_err-levels_over-clause-refused
returns-in_err-levels_over-clause-refused c = search rules

pub returns-clause-vertex : goal.returns-clause-vertex
returns-clause-vertex c = search rules
