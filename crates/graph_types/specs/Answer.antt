-- The answer to a request.
use Rattle.std.specs.Prelude.{◌≡◌, ℕ, ℤ, List, length, map, zip, slice_index_or, [], nat_lt, Bool, true, false, bytes_eq, Result}
use Rattle.std.specs.{Prelude.{Ok, Err, not, ◌&&◌}, List.{list_any, range_with_len, filter_map}, Option.option_map, FinMap.get}
use Rattle.std.specs.declared.option.Option.{Option, TheVariants.{None, Some}}
use Rattle.graph_types.specs.{Graph.{Graph, Stamp}, Step.{number_of, key_in}, Analyses.{AreLevels, AreLabels, AreCoreNumbers}}
use Rattle.graph_types.specs.{View.{out_degree, in_degree, out_weight}, declared.ids.{Filter.Filter, Degree.Degree}}
use Rattle.graph_types.specs.declared.requests.{NamedFilter.NamedFilter, Request.{Request, TheVariants.Levels as AskLevels}}
use Rattle.graph_types.specs.declared.requests.Request.TheVariants.{Labels as AskLabels, Cores as AskCores, Degrees as AskDegrees}
use Rattle.graph_types.specs.declared.requests.{Request.TheVariants.OneEdge as AskOneEdge, Reply.{Reply, TheVariants.Levels}}
use Rattle.graph_types.specs.declared.requests.{Reply.TheVariants.{Labels, Cores, Degrees, OneEdge}, AskError.AskError}
use Rattle.graph_types.specs.declared.requests.AskError.TheVariants.{BadWindow, NoKind, NoVertex}

-- whether a name is listed, and whether a filter's kind is: a filter may name none
abbrev pub is_listed : List (List ℕ) → List ℕ → Bool
is_listed names name = list_any (bytes_eq name) names

abbrev pub is_kind_listed : List (List ℕ) → Option (List ℕ) → Bool
is_kind_listed kinds None = true
is_kind_listed kinds (Some kind) = is_listed kinds kind

-- the filter with its kind's number in place of the name
abbrev pub resolved_filter : Graph → NamedFilter → Filter
resolved_filter g f = record { kind = option_map (λ name. record { 0 = number_of g.kinds name }) f.kind; lo = f.lo; hi = f.hi }

-- the first refusal that holds, of the window, the kind and the vertices
abbrev pub first_refusal : Bool → Bool → Bool → Option AskError
first_refusal false kind_ok vertex_ok = Some BadWindow
first_refusal true false vertex_ok = Some NoKind
first_refusal true true false = Some NoVertex
first_refusal true true true = None

abbrev pub filter_refusal : Graph → NamedFilter → Bool → Option AskError
filter_refusal g f vertex_ok = first_refusal (not (nat_lt f.hi f.lo)) (is_kind_listed g.kinds f.kind) vertex_ok

abbrev pub refusal : Request → Graph → Option AskError
refusal (AskLevels source filter) g = filter_refusal g filter (is_listed g.names source)
refusal (AskLabels filter) g = filter_refusal g filter true
refusal (AskCores filter) g = filter_refusal g filter true
refusal (AskDegrees filter) g = filter_refusal g filter true
refusal (AskOneEdge kind source target) g =
    first_refusal true (is_listed g.kinds kind) (is_listed g.names source && is_listed g.names target)

-- weight, first time and recent time
abbrev pub shown_stamp : Stamp → ℤ × ℕ × ℕ
shown_stamp e = (e.weight, e.first, e.recent)

abbrev pub degree_at : Filter → Graph → ℕ → Degree
degree_at f g v = record { outgoing = out_degree f g v; incoming = in_degree f g v; out_weight = out_weight f g v }

-- the degrees of the vertices in number order
abbrev pub degree_table : Filter → Graph → List Degree
degree_table f g = map (degree_at f g) (range_with_len 0 (length g.names))

-- the names of vertices that have a level, each with its level
abbrev pub level_row : List ℕ × Option ℕ → Option (List ℕ × ℕ)
level_row row = option_map (λ level. (row.0, level)) row.1

abbrev pub reached : List (List ℕ) → List (Option ℕ) → List (List ℕ × ℕ)
reached names levels = filter_map level_row (zip names levels)

-- the name of each of these vertices
abbrev pub names_of_vertices : List (List ℕ) → List ℕ → List (List ℕ)
names_of_vertices names vertices = map (λ v. slice_index_or names v []) vertices

-- a reply to a request that is not refused
abbrev pub IsReply : Request → Graph → Reply → Type 0
IsReply (AskLevels source filter) g reply =
    (levels : List (Option ℕ)) × AreLevels (resolved_filter g filter) g (number_of g.names source) levels
    × (reply ≡ Levels (reached g.names levels))
IsReply (AskLabels filter) g reply =
    (labels : List ℕ) × AreLabels (resolved_filter g filter) g labels × (reply ≡ Labels (zip g.names (names_of_vertices g.names labels)))
IsReply (AskCores filter) g reply =
    (numbers : List ℕ) × AreCoreNumbers (resolved_filter g filter) g numbers × (reply ≡ Cores (zip g.names numbers))
IsReply (AskDegrees filter) g reply = reply ≡ Degrees (zip g.names (degree_table (resolved_filter g filter) g))
IsReply (AskOneEdge kind source target) g reply =
    reply ≡ OneEdge (option_map shown_stamp (get g.edges (key_in g.names g.kinds kind source target)))

-- the answer: the first refusal that holds, or else a reply
abbrev pub IsAnswer : Request → Graph → Result Reply AskError → Type 0
IsAnswer request g (Ok reply) = (refusal request g ≡ None) × IsReply request g reply
IsAnswer request g (Err error) = refusal request g ≡ Some error
