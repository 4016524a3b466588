-- The questions that a slot is owed, by the graph that it stands at.
use Rattle.std.proofs.Common.{◌≡◌, List, [], ◌∷◌, ◌++◌, map, refl}
use Rattle.std.specs.Prelude.{Option, None, Some}
use Rattle.graph_types.specs.{Graph.Graph, declared.requests.Request.Request}
use Rattle.epoch_core.specs.{Holdings.{Observation, answered_first, questions, holdings_of, Released}, Machine.Question}

-- requests over one graph
abbrev pub questions_over : Graph → List Request → List Question
questions_over g requests = map (λ request. record { request = request; graph = g }) requests

-- the questions of the holding that goes on, and of those to come
abbrev here_owed : Option Graph → List Observation → List Question
here_owed None seen = []
here_owed (Some g) seen = map (λ request. record { request = request; graph = g }) (answered_first seen)

abbrev pub owed : Option Graph → List Observation → List Question
owed now seen = here_owed now seen ++ questions (holdings_of seen)

-- what is asked in a holding is all answered where it ends
pub ends : (now : Option Graph) (more : List Observation) → owed now (Released ∷ more) ≡ owed None more
ends None more = refl
ends (Some g) more = refl
