-- The answer to a request in numbers, and the same reply with names.
use Rattle.std.specs.{Prelude.{◌≡◌, ◌⊎◌, ℕ, List, [], map, slice_index_or, zip, Result, Ok, Err}, FinMap.get, Option.option_map}
use Rattle.std.specs.declared.option.Option.{Option, TheVariants.{None, Some}}
use Rattle.graph_types.specs.{Graph.Graph, Step.{number_of, key_in}, Analyses.{AreLevels, AreLabels, AreCoreNumbers}}
use Rattle.graph_types.specs.{Answer.{refusal, resolved_filter, degree_table, shown_stamp, reached, names_of_vertices}, declared.ids.VertexId.VertexId}
use Rattle.graph_types.specs.declared.requests.Request.{Request, TheVariants.{Levels as AskLevels, Labels as AskLabels}}
use Rattle.graph_types.specs.declared.requests.Request.TheVariants.{Cores as AskCores, Degrees as AskDegrees}
use Rattle.graph_types.specs.declared.requests.{Request.TheVariants.OneEdge as AskOneEdge, Reply.Reply, AskError.AskError}
use Rattle.graph_types.specs.declared.requests.Reply.TheVariants as replies
use Rattle.graph_levels.specs.{Reached.rows_from, Reached.vertex_numbers}
use Rattle.version_answers.specs.declared.numbered.NumberedReply.{NumberedReply}
use Rattle.version_answers.specs.declared.numbered.NumberedReply.TheVariants.{Levels, Reached, Labels, Cores, Degrees, OneEdge}

-- a reply in numbers to a request that is not refused: one table over the view, of levels also the rows of the vertices that
-- have one, or one edge
abbrev pub IsNumberedReply : Request → Graph → NumberedReply → Type 0
IsNumberedReply (AskLevels source filter) g reply =
    (levels : List (Option ℕ)) × AreLevels (resolved_filter g filter) g (number_of g.names source) levels
    × ((reply ≡ Levels levels) ⊎ (reply ≡ Reached (rows_from 0 levels)))
IsNumberedReply (AskLabels filter) g reply =
    (labels : List VertexId) × AreLabels (resolved_filter g filter) g (vertex_numbers labels) × (reply ≡ Labels labels)
IsNumberedReply (AskCores filter) g reply =
    (numbers : List ℕ) × AreCoreNumbers (resolved_filter g filter) g numbers × (reply ≡ Cores numbers)
IsNumberedReply (AskDegrees filter) g reply = reply ≡ Degrees (degree_table (resolved_filter g filter) g)
IsNumberedReply (AskOneEdge kind source target) g reply =
    reply ≡ OneEdge (option_map shown_stamp (get g.edges (key_in g.names g.kinds kind source target)))

-- the answer in numbers: the first refusal that holds, or else a reply
abbrev pub IsNumberedAnswer : Request → Graph → Result NumberedReply AskError → Type 0
IsNumberedAnswer request g (Ok reply) = (refusal request g ≡ None) × IsNumberedReply request g reply
IsNumberedAnswer request g (Err error) = refusal request g ≡ Some error

-- a reply with names in place of numbers, where these are the vertices' names
abbrev pub named : List (List ℕ) → NumberedReply → Reply
named names (Levels levels) = replies.Levels (reached names levels)
named names (Reached rows) = replies.Levels (map (λ row. (slice_index_or names row.0.0 [], row.1)) rows)
named names (Labels labels) = replies.Labels (zip names (names_of_vertices names (vertex_numbers labels)))
named names (Cores numbers) = replies.Cores (zip names numbers)
named names (Degrees degrees) = replies.Degrees (zip names degrees)
named names (OneEdge edge) = replies.OneEdge edge
