-- Rows of names and values, put together one vertex after another.
use Rattle.std.proofs.Common.{◌≡◌, ℕ, ◌⊎◌, inl, inr, List, length}
use Rattle.std.proofs.Common.{Option, refl, ap, ◌∙◌, arith}
use Rattle.graph_types.specs.{Answer.{reached, IsReply}, declared.ids.{VertexId.VertexId, Filter.Filter}}
use Rattle.graph_types.specs.{declared.requests.Request.Request, Analyses.AreLevels, Graph.Graph}
use Rattle.graph_levels.specs.{Reached.AreReached, Reached.rows_from, Reached.vertex_numbers}
use Rattle.graph_types.specs.declared.requests.Reply.TheVariants as replies
use Rattle.graph_types.specs.declared.requests.Request.TheVariants as request
use Rattle.graph_levels.proofs.LabelRows.{rows_named}
use Rattle.version_answers.specs.{Numbered.IsNumberedReply, Numbered.named, declared.numbered.NumberedReply.NumberedReply}
use Rattle.version_answers.specs.declared.numbered.NumberedReply.TheVariants.{Levels, Reached}

pub named_levels : (names : List (List ℕ)) (levels : List (Option ℕ)) (reply : NumberedReply) → length levels ≡ length names
    → (reply ≡ Levels levels) ⊎ (reply ≡ Reached (rows_from 0 levels)) → named names reply ≡ replies.Levels (reached names levels)
named_levels names levels reply long (inl is) = ap (named names) is
named_levels names levels reply long (inr is) =
    ap (named names) is ∙ ap replies.Levels (rows_named names levels 0 (omega (arith, long)))

-- levels are told by their table, and by its rows
pub each_told : (f : Filter) (g : Graph) (source : ℕ) (levels : List (Option ℕ)) → AreLevels f g source levels
    → (table : List (Option ℕ)) × AreLevels f g source table
    × ((Levels levels ≡ Levels table) ⊎ (Levels levels ≡ Reached (rows_from 0 table)))
each_told f g source levels are = (levels, are, inl refl)

pub rows_told : (f : Filter) (g : Graph) (source : ℕ) (rows : List (VertexId × ℕ)) → AreReached f g source rows
    → (table : List (Option ℕ)) × AreLevels f g source table
    × ((Reached rows ≡ Levels table) ⊎ (Reached rows ≡ Reached (rows_from 0 table)))
rows_told f g source rows are = (are.0, are.1, inr (ap Reached are.2))

-- a reply in numbers is a reply by the names of its vertices
pub named_reply : (request : Request) (g : Graph) (reply : NumberedReply) → IsNumberedReply request g reply
    → IsReply request g (named g.names reply)
named_reply (request.Levels source filter) g reply is = (is.0, is.1, named_levels g.names is.0 reply is.1.one_each is.2)
named_reply (request.Labels filter) g reply is = (vertex_numbers is.0, is.1, ap (named g.names) is.2)
named_reply (request.Cores filter) g reply is = (is.0, is.1, ap (named g.names) is.2)
named_reply (request.Degrees filter) g reply is = ap (named g.names) is
named_reply (request.OneEdge kind source target) g reply is = ap (named g.names) is
