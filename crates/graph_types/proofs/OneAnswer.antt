-- Over a graph a request has one answer, and over that of a content it has one.
use Rattle.std.proofs.Common.{◌≡◌, Some, None, Bool, true, not, refl, sym, ap, ◌∙◌, arith}
use Rattle.std.specs.{Prelude.Result, Prelude.Ok, Prelude.Err, Prelude.zip, Prelude.nat_lt, Option.option_map, FinMap.get}
use Rattle.std.proofs.lemmas.Grind.{common_steps}
use Rattle.graph_types.specs.{Graph.{Graph, graph_in, IsContent}, Step.{key_in, number_of}, Answer.{IsAnswer, IsReply, refusal}}
use Rattle.graph_types.specs.Answer.{first_refusal, resolved_filter, degree_table, shown_stamp, reached, names_of_vertices, is_listed, is_kind_listed}
use Rattle.graph_types.specs.{Limits.LimitsView, declared.{contents.Content.Content, requests.Request.{Request, TheVariants.Levels as AskLevels}}}
use Rattle.graph_types.specs.declared.requests.Request.TheVariants.{Labels as AskLabels, Cores as AskCores, Degrees as AskDegrees}
use Rattle.graph_types.specs.declared.requests.{Request.TheVariants.OneEdge as AskOneEdge, Reply.{Reply, TheVariants.Levels}}
use Rattle.graph_types.specs.declared.requests.{Reply.TheVariants.{Labels, Cores, Degrees, OneEdge}, AskError.AskError}
use Rattle.graph_types.proofs.{NameLists.number_of-lt, OneTable.one_table, SomeTable.some_table}

pub one_reply : (request : Request) (g : Graph) (x y : Reply) → IsReply request g x → IsReply request g y → x ≡ y
one_reply (AskLevels source filter) g x y a b =
    a.2 ∙ ap (λ levels. Levels (reached g.names levels))
    (one_table.levels (resolved_filter g filter) g (number_of g.names source) a.0 b.0 a.1 b.1) ∙ sym b.2
one_reply (AskLabels filter) g x y a b =
    a.2 ∙ ap (λ labels. Labels (zip g.names (names_of_vertices g.names labels))) (one_table.labels (resolved_filter g filter) g a.0 b.0 a.1 b.1)
    ∙ sym b.2
one_reply (AskCores filter) g x y a b =
    a.2 ∙ ap (λ numbers. Cores (zip g.names numbers)) (one_table.cores (resolved_filter g filter) g a.0 b.0 a.1 b.1) ∙ sym b.2
one_reply (AskDegrees filter) g x y a b = a ∙ sym b
one_reply (AskOneEdge kind source target) g x y a b = a ∙ sym b

pub one_answer : (request : Request) (g : Graph) (x y : Result Reply AskError) → IsAnswer request g x → IsAnswer request g y
    → x ≡ y
one_answer request g h2 h3 a b = grind (arith, common_steps, one_reply)

vertex_listed : (window kind vertex : Bool) → first_refusal window kind vertex ≡ None → vertex ≡ true
vertex_listed h0 kind vertex none = grind (arith, common_steps)

pub some_reply : (request : Request) (limits : LimitsView) (c : Content) → IsContent c → refusal request (graph_in limits c) ≡ None
    → (reply : Reply) × IsReply request (graph_in limits c) reply
some_reply (AskLevels source filter) limits c is none =
    let g = graph_in limits c in
    let listed = vertex_listed (not (nat_lt filter.hi filter.lo)) (is_kind_listed g.kinds filter.kind)
    (is_listed g.names source) none in
    let r = some_table.levels (resolved_filter g filter) limits c is (number_of g.names source) (number_of-lt g.names source listed) in
    (Levels (reached g.names r.0), (r.0, r.1, refl))
some_reply (AskLabels filter) limits c is none =
    let g = graph_in limits c in
    let r = some_table.labels (resolved_filter g filter) limits c is in
    (Labels (zip g.names (names_of_vertices g.names r.0)), (r.0, r.1, refl))
some_reply (AskCores filter) limits c is none =
    let g = graph_in limits c in
    let r = some_table.cores (resolved_filter g filter) limits c is in
    (Cores (zip g.names r.0), (r.0, r.1, refl))
some_reply (AskDegrees filter) limits c is none = let g =
    graph_in limits c in (Degrees (zip g.names (degree_table (resolved_filter g filter) g)), refl)
some_reply (AskOneEdge kind source target) limits c is none =
    let g = graph_in limits c in (OneEdge (option_map shown_stamp (get g.edges (key_in g.names g.kinds kind source target))), refl)

pub some_answer : (request : Request) (limits : LimitsView) (c : Content) → IsContent c
    → (answer : Result Reply AskError) × IsAnswer request (graph_in limits c) answer
some_answer request limits c is =
    elim (refusal request (graph_in limits c)) as (λ o. refusal request (graph_in limits c) ≡ o
    → (answer : Result Reply AskError) × IsAnswer request (graph_in limits c) answer) [
      | None ↦ λ none. let r = some_reply request limits c is none in (Ok r.0, (none, r.1))
      | Some error ↦ λ refused. (Err error, refused)
    ] refl
