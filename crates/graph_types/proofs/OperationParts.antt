-- What operations leave of a graph, by their parts, and the names among it.
use Rattle.std.proofs.Common.{◌≡◌, ◌∙◌, ℕ, ◌≤◌, List, [], ◌∷◌, length, refl, ap, arith, ◌<◌, get_or, drop}
use Rattle.std.proofs.lemmas.Grind.{common_steps}
use Rattle.graph_types.specs.{Graph.Graph, Step.{after, after_all, outcome, changed, change_outcome, expired, count_before}}
use Rattle.graph_types.specs.Parts.{Parts, OfEdge, OfAll, parts_in, names_by, kinds_by, names_after, kinds_after}
use Rattle.graph_types.specs.{Parts.{names_after_all, kinds_after_all}, declared.batches.{NamedOp.NamedOp, Outcome.Outcome}}
use Rattle.graph_types.specs.declared.batches.Outcome.TheVariants.{Expired}
use Rattle.graph_types.proofs.NameLists.{length-with_name}

-- what an operation leaves, and its outcome, by its parts
abbrev pub after_parts : Parts → Graph → Graph
after_parts (OfEdge change kind source target) g = changed change kind source target g
after_parts (OfAll time) g = record g { edges = expired time g.edges }

abbrev pub outcome_parts : Parts → Graph → Outcome
outcome_parts (OfEdge change kind source target) g = change_outcome change kind source target g
outcome_parts (OfAll time) g = Expired (count_before time g.edges)

-- under the limit of the graph
abbrev pub parts_over : NamedOp → Graph → Parts
parts_over op g = parts_in g.limits.weight op

pub after_is : (op : NamedOp) (g : Graph) → after op g ≡ after_parts (parts_over op g) g
after_is h0 g = grind (arith, common_steps)

pub outcome_is : (op : NamedOp) (g : Graph) → outcome op g ≡ outcome_parts (parts_over op g) g
outcome_is h0 g = grind (arith, common_steps)

-- a limit of weights changes no names
pub names_over : (most : ℕ) (op : NamedOp) (names : List (List ℕ)) → names_by (parts_in most op) names ≡ names_after op names
names_over most h0 names = grind (arith, common_steps)

pub kinds_over : (most : ℕ) (op : NamedOp) (kinds : List (List ℕ)) → kinds_by (parts_in most op) kinds ≡ kinds_after op kinds
kinds_over most h0 kinds = grind (arith, common_steps)

-- the names that operations leave are those of the graph that they leave
one_names : (op : NamedOp) (g : Graph) → names_after op g.names ≡ (after op g).names
one_names op g = grind (arith, common_steps)

one_kinds : (op : NamedOp) (g : Graph) → kinds_after op g.kinds ≡ (after op g).kinds
one_kinds op g = grind (arith, common_steps)

pub names_of_all : (ops : List NamedOp) (g : Graph) → names_after_all ops g.names ≡ (after_all ops g).names
names_of_all [] g = refl
names_of_all (op ∷ ops) g = ap (names_after_all ops) (one_names op g) ∙ names_of_all ops (after op g)

pub kinds_of_all : (ops : List NamedOp) (g : Graph) → kinds_after_all ops g.kinds ≡ (after_all ops g).kinds
kinds_of_all [] g = refl
kinds_of_all (op ∷ ops) g = ap (kinds_after_all ops) (one_kinds op g) ∙ kinds_of_all ops (after op g)

-- and they are no fewer
pub no_fewer_after : (op : NamedOp) (names : List (List ℕ)) → length names ≤ length (names_after op names)
no_fewer_after op names = grind (arith, common_steps, length-with_name)

pub no_fewer_all : (ops : List NamedOp) (names : List (List ℕ)) → length names ≤ length (names_after_all ops names)
no_fewer_all [] names = omega arith
no_fewer_all (op ∷ ops) names = let a = no_fewer_after op names in let b = no_fewer_all ops (names_after op names) in omega arith

pub no_fewer_kinds : (op : NamedOp) (kinds : List (List ℕ)) → length kinds ≤ length (kinds_after op kinds)
no_fewer_kinds op kinds = grind (arith, common_steps, length-with_name)

pub no_fewer_kinds_all : (ops : List NamedOp) (kinds : List (List ℕ)) → length kinds ≤ length (kinds_after_all ops kinds)
no_fewer_kinds_all [] kinds = omega arith
no_fewer_kinds_all (op ∷ ops) kinds = omega (arith, no_fewer_kinds op kinds, no_fewer_kinds_all ops (kinds_after op kinds))

-- past the limit after one operation, past it after all
pub length-names_after_all-drop : (ops : List NamedOp) (i : ℕ) (op : NamedOp) (names : List (List ℕ)) → i < length ops
    → op ≡ get_or ops i op → length (names_after op names) ≤ length (names_after_all (drop i ops) names)
length-names_after_all-drop h0 i op names l is = grind (arith, common_steps, no_fewer_all)

pub names_fit : (ops : List NamedOp) (g : Graph) → length (names_after_all ops g.names) ≤ g.limits.names
    → g.limits.names < length (after_all ops g).names → ⊥
names_fit ops g few past = let e = ap length (names_of_all ops g) in omega arith

pub names_left : (parts : Parts) (g : Graph) → (after_parts parts g).names ≡ names_by parts g.names
names_left h0 g = grind (arith, common_steps)

pub kinds_left : (parts : Parts) (g : Graph) → (after_parts parts g).kinds ≡ kinds_by parts g.kinds
kinds_left h0 g = grind (arith, common_steps)

pub limits_left : (parts : Parts) (g : Graph) → (after_parts parts g).limits ≡ g.limits
limits_left h0 g = grind (arith, common_steps)
