-- The lines of a reply, from what the reply says.
use Rattle.std.proofs.Common.{◌≡◌, ◌≢◌, ℕ, List, refl, ◌∙◌, ap}
use Rattle.std.specs.{Prelude.AllPairs, Prelude.Result, Prelude.Ok, Prelude.Err, Prelude.◌⊎◌, Prelude.slice_get, List.zip}
use Rattle.graph_types.specs.{Answer.{IsReply, resolved_filter, degree_table, names_of_vertices}, Graph.Graph}
use Rattle.graph_types.specs.declared.requests.{Request.Request, Reply.Reply, AskError.AskError}
use Rattle.graph_version.specs.Versions.{IsVersion, VersionView, content}
use Rattle.edge_block.specs.Batches.{HasEndsWithin}
use Rattle.graph_types.specs.declared.requests.Request.TheVariants as request
use Rattle.graph_types.specs.declared.requests.AskError.TheVariants as ask
use Rattle.graph_types.proofs.NamesApart.{AreApart, apart_names}
use Rattle.edge_block.proofs.BatchSums.{edges_in_view}
use Rattle.version_answers.specs.{Numbered.{IsNumberedAnswer, named}, declared.numbered.NumberedReply.NumberedReply}
use Rattle.version_answers.proofs.NumberedAnswers.{answer_ok, answer_err}
use Rattle.script_lines.specs.{Lines.degree_lines, Lines.label_lines, Lines.shown_lines, declared.words.Word.Word}
use Rattle.script_lines.proofs.OwnLabels.{own_labels}
use Rattle.script_commands.specs.States.{Held, IsReplied, ServerState, ask_word, reply_lines, version, version_in}

-- a graph whose names differ, and whose edges join its vertices
pub record IsAsked (g : Graph) : Type 0 where
  pub names_distinct : AllPairs (λ a b. a ≢ b) g.names
  pub within : HasEndsWithin g

pub asked_version : (v : VersionView) → IsVersion v → AreApart v.opening.names → IsAsked (content v)
asked_version v version opening = record {
  names_distinct = apart_names v.batches v.opening opening;
  within = version.within;
}

pub shown_lines-reply : (slot : ℕ) (request : Request) (g : Graph) (reply : Reply) → IsAsked g
    → IsReply request g reply → shown_lines slot reply ≡ reply_lines slot request g reply
shown_lines-reply slot (request.Levels source filter) g reply valid is = rw is.2 refl
shown_lines-reply slot (request.Labels filter) g reply valid is =
    let table = zip g.names (names_of_vertices g.names is.0) in
    let parts = own_labels (resolved_filter g filter) g is.0 valid.names_distinct is.1 in
    rw is.2 (ap (λ n. label_lines slot n table) parts)
shown_lines-reply slot (request.Cores filter) g reply valid is = rw is.2 refl
shown_lines-reply slot (request.Degrees filter) g reply valid is =
    let table = zip g.names (degree_table (resolved_filter g filter) g) in
    rw is (ap (λ n. degree_lines slot n table) (edges_in_view (resolved_filter g filter) g valid.within))
shown_lines-reply slot (request.OneEdge kind source target) g reply valid is = rw is refl

-- the lines of a reply over the content of the version that the slot holds
pub replied_ok : (slot : ℕ) (request : Request) (s : ServerState) (g : Graph) (h : Held) (reply : NumberedReply) (lines : List ℕ)
    → version_in (slice_get s.held slot) ≡ Ok h → IsAsked g → g ≡ version h.number s
    → ((let r : Result NumberedReply AskError = Ok reply in r ≡ Err ask.OutOfMemory) ⊎ IsNumberedAnswer request g (Ok reply))
    → lines ≡ shown_lines slot (named g.names reply) → IsReplied slot request s (version_in (slice_get s.held slot)) (Ok lines)
replied_ok slot request s g h reply lines held valid same answer shown =
    let is = answer_ok request g reply answer in
    let text : lines ≡ reply_lines slot request g (named g.names reply) =
    shown ∙ shown_lines-reply slot request g (named g.names reply) valid is.1 in
    rw (held, ← same) (Ok (named g.names reply), is, ap (λ text. Ok text) text)

pub replied_err : (slot : ℕ) (request : Request) (s : ServerState) (g : Graph) (h : Held) (error : AskError) (word : Word)
    → version_in (slice_get s.held slot) ≡ Ok h → g ≡ version h.number s
    → ((let r : Result NumberedReply AskError = Err error in r ≡ Err ask.OutOfMemory) ⊎ IsNumberedAnswer request g (Err error))
    → error ≢ ask.OutOfMemory → word ≡ ask_word error
    → IsReplied slot request s (version_in (slice_get s.held slot)) (Err word)
replied_err slot request s g h error word held same answer known is_word =
    rw (held, is_word, ← same) (Err error, answer_err request g error known answer, refl)
