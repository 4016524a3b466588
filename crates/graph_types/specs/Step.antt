-- What operations and batches do to a graph.
use Rattle.std.specs.Prelude.{ℕ, ◌+ℤ◌, List, [], ◌∷◌, ◌++◌, Bool, true, false, if◌then◌else◌, bytes_eq, nat_lt, count_by, filter}
use Rattle.std.specs.{Prelude.{not, ◌<◌, length, nat_le, ◌&&◌}, Option.is_some, List.{list_any, position_or_len}, FinMap.FinMap}
use Rattle.std.specs.{FinMap.{empty, get, insert, remove, retain_keys, entries}, declared.option.Option.Option}
use Rattle.std.specs.declared.option.Option.TheVariants.{None, Some}
use Rattle.graph_types.specs.{Limits.{is_weight_in, LimitsView, standard_limits}, Graph.{Graph, Key, Stamp, key_cmp, stamp_of}}
use Rattle.graph_types.specs.declared.{ids.Edge.Edge, batches.NamedOp.{NamedOp, TheVariants.{Insert, Incr, Remove, Expire}}}
use Rattle.graph_types.specs.declared.batches.Outcome.{Outcome, TheVariants.{Inserted, Updated, Removed, Absent, Overflow}}
use Rattle.graph_types.specs.declared.{batches.Outcome.TheVariants.Expired, changes.EdgeChange.EdgeChange}
use Rattle.graph_types.specs.declared.changes.EdgeChange.TheVariants.{Insert as ToInsert, Incr as ToIncr, Remove as ToRemove}

-- a list of names in order of first appearance, with a name that has now appeared
abbrev pub with_name : List (List ℕ) → List ℕ → List (List ℕ)
with_name names name = if list_any (bytes_eq name) names then names else names ++ name ∷ []

-- a name's number: its place, and for a name that is absent the number after the last
abbrev pub number_of : List (List ℕ) → List ℕ → ℕ
number_of names name = position_or_len (bytes_eq name) names

-- What a change does at one key

-- whether a weight, an amount or a sum would be past the most that the change allows, where this stood at the key before
abbrev pub overflows : EdgeChange → Option Stamp → Bool
overflows (ToInsert weight time most) before = not (is_weight_in most weight)
overflows (ToIncr amount time most) None = not (is_weight_in most amount)
overflows (ToIncr amount time most) (Some e) = not (is_weight_in most amount && is_weight_in most (e.weight +ℤ amount))
overflows ToRemove before = false

-- what a change that doesn't overflow leaves at the key, and its outcome
abbrev pub stamp_put : EdgeChange → Option Stamp → Option Stamp
stamp_put (ToInsert weight time most) None = Some (record { weight = weight; first = time; recent = time })
stamp_put (ToInsert weight time most) (Some e) = Some (record e { weight = weight; recent = time })
stamp_put (ToIncr amount time most) None = Some (record { weight = amount; first = time; recent = time })
stamp_put (ToIncr amount time most) (Some e) = Some (record e { weight = e.weight +ℤ amount; recent = time })
stamp_put ToRemove before = None

abbrev pub outcome_put : EdgeChange → Option Stamp → Outcome
outcome_put (ToInsert weight time most) None = Inserted
outcome_put (ToInsert weight time most) (Some e) = Updated
outcome_put (ToIncr amount time most) None = Inserted
outcome_put (ToIncr amount time most) (Some e) = Updated
outcome_put ToRemove None = Absent
outcome_put ToRemove (Some e) = Removed

-- what stands at the key afterwards, and the outcome: a change that overflows leaves what there was
abbrev pub stamp_after : EdgeChange → Option Stamp → Option Stamp
stamp_after change before = if overflows change before then before else stamp_put change before

abbrev pub outcome_at : EdgeChange → Option Stamp → Outcome
outcome_at change before = if overflows change before then Overflow else outcome_put change before

-- the map with this at the key, and all else as it was
abbrev pub set_at : FinMap key_cmp Stamp → Key → Option Stamp → FinMap key_cmp Stamp
set_at edges key None = remove edges key
set_at edges key (Some stamp) = insert edges key stamp

-- A change of the edge of a kind between two vertices: its names are made, its key is found, and the map is set there

-- whether a change makes the names of its edge: a removal makes none
abbrev pub makes_names : EdgeChange → Bool
makes_names ToRemove = false
makes_names _ = true

abbrev pub names_made : EdgeChange → List ℕ → List ℕ → List (List ℕ) → List (List ℕ)
names_made change source target names = if makes_names change then with_name (with_name names source) target else names

abbrev pub kinds_made : EdgeChange → List ℕ → List (List ℕ) → List (List ℕ)
kinds_made change kind kinds = if makes_names change then with_name kinds kind else kinds

-- the key of the edge of this kind between these vertices, by these lists of names and kinds
abbrev pub key_in : List (List ℕ) → List (List ℕ) → List ℕ → List ℕ → List ℕ → Key
key_in names kinds kind source target =
    record { kind = number_of kinds kind; source = number_of names source; target = number_of names target }

abbrev pub changed_key : EdgeChange → List ℕ → List ℕ → List ℕ → Graph → Key
changed_key change kind source target g =
    key_in (names_made change source target g.names) (kinds_made change kind g.kinds) kind source target

abbrev pub changed : EdgeChange → List ℕ → List ℕ → List ℕ → Graph → Graph
changed change kind source target g =
    let key = changed_key change kind source target g in
    record g {
      names = names_made change source target g.names;
      kinds = kinds_made change kind g.kinds;
      edges = set_at g.edges key (stamp_after change (get g.edges key));
    }

abbrev pub change_outcome : EdgeChange → List ℕ → List ℕ → List ℕ → Graph → Outcome
change_outcome change kind source target g = outcome_at change (get g.edges (changed_key change kind source target g))

-- Expiry: each edge that was last touched before a time goes, and no name is made

abbrev pub is_before : ℕ → Stamp → Bool
is_before time stamp = nat_lt stamp.recent time

-- what stays of what stands at a key
abbrev pub stays_from : ℕ → Option Stamp → Option Stamp
stays_from time None = None
stays_from time (Some stamp) = if is_before time stamp then None else Some stamp

-- the edges that stay, and how many go
abbrev pub expired : ℕ → FinMap key_cmp Stamp → FinMap key_cmp Stamp
expired time edges = retain_keys edges (λ key. is_some (stays_from time (get edges key)))

abbrev pub count_before : ℕ → FinMap key_cmp Stamp → ℕ
count_before time edges = count_by (λ entry. is_before time entry.1) (entries edges)

-- of a list of edges, whether one goes, and those that stay
abbrev pub was_before : ℕ → Edge → Bool
was_before time e = is_before time (stamp_of e)

abbrev pub later : ℕ → List Edge → List Edge
later time edges = filter (λ e. not (was_before time e)) edges

-- Operations

abbrev pub is_expire : NamedOp → Bool
is_expire (Expire time) = true
is_expire _ = false

-- one operation: the weights that it leaves are within the graph's limit
abbrev pub after : NamedOp → Graph → Graph
after (Insert kind source target weight time) g = changed (ToInsert weight time g.limits.weight) kind source target g
after (Incr kind source target amount time) g = changed (ToIncr amount time g.limits.weight) kind source target g
after (Remove kind source target) g = changed ToRemove kind source target g
after (Expire time) g = record g { edges = expired time g.edges }

abbrev pub outcome : NamedOp → Graph → Outcome
outcome (Insert kind source target weight time) g =
    change_outcome (ToInsert weight time g.limits.weight) kind source target g
outcome (Incr kind source target amount time) g = change_outcome (ToIncr amount time g.limits.weight) kind source target g
outcome (Remove kind source target) g = change_outcome ToRemove kind source target g
outcome (Expire time) g = Expired (count_before time g.edges)

-- operations one after another, in order
abbrev pub after_all : List NamedOp → Graph → Graph
after_all [] g = g
after_all (op ∷ ops) g = after_all ops (after op g)

abbrev pub outcomes : List NamedOp → Graph → List Outcome
outcomes [] g = []
outcomes (op ∷ ops) g = outcome op g ∷ outcomes ops (after op g)

-- what batches leave, one after another, of a graph
abbrev pub left_by : List (List NamedOp) → Graph → Graph
left_by [] g = g
left_by (batch ∷ batches) g = left_by batches (after_all batch g)

-- the graph without names, kinds and edges, under these limits and under the standard ones
abbrev pub empty_graph_in : LimitsView → Graph
empty_graph_in limits = record { names = []; kinds = []; edges = empty; limits = limits }

abbrev pub empty_graph : Graph
empty_graph = empty_graph_in standard_limits

-- a batch meets a limit of the graph where it would leave more names or kinds than that
abbrev pub MeetsNameLimit : List NamedOp → Graph → Type 0
MeetsNameLimit ops g = g.limits.names < length (after_all ops g).names

abbrev pub MeetsKindLimit : List NamedOp → Graph → Type 0
MeetsKindLimit ops g = g.limits.kinds < length (after_all ops g).kinds

-- whether a graph is within both of its limits
abbrev pub is_within_limits : Graph → Bool
is_within_limits g = nat_le (length g.names) g.limits.names && nat_le (length g.kinds) g.limits.kinds
