use Rattle.graph_levels.proofs.Marking.{marked_same, marked_other}
use Rattle.graph_levels.proofs.marks.mark.Goals as goal

pub returns-clause-marked : goal.returns-clause-marked
returns-clause-marked c = marked_same c.args.marks.now c.args.vertex c.requires

pub returns-clause-others : goal.returns-clause-others
returns-clause-others c = λ v other. marked_other c.args.marks.now c.args.vertex v c.requires other
