use Rattle.graph_walks.specs.Paths.{turned}
use Rattle.graph_walks.proofs.PathSteps.{IsBack}
use Rattle.graph_walks.proofs.paths.walk_back.Given as goal

abbrev pub invariant-back : goal.invariant-back
invariant-back g l = IsBack (turned (g.S.Steps.leads l.back)) l.source l.target l.level l.levels l.path.items l.place l.at

abbrev pub decreases-back : goal.decreases-back
decreases-back g l = l.place
