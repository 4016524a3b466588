use Rattle.std.proofs.Common.{◌≡◌, ◌⊎◌, ℕ, List, Err, subst}
use Rattle.graph_types.specs.{Answer.IsAnswer, declared.requests.{AskError.TheVariants.OutOfMemory, Request.TheVariants.OneEdge}}
use Rattle.graph_version.specs.Versions.{VersionView, content}
use Rattle.stream_store.proofs.seats.Session.ask.Goals as goal

-- Its search is long where the clause fails.
pub returns-clause-answer : goal.returns-clause-answer
returns-clause-answer c =
    subst (λ (v : VersionView). (c.answer.result ≡ Err OutOfMemory) ⊎ IsAnswer c.args.request.now (content v) c.answer.result)
    c.version-held.ensures c.answer.ensures.answer

pub returns-clause-one_edge : goal.returns-clause-one_edge
returns-clause-one_edge c =
    subst (λ (v : VersionView). (kind source target : List ℕ) → c.args.request.now ≡ OneEdge kind source target
    → IsAnswer c.args.request.now (content v) c.answer.result) c.version-held.ensures c.answer.ensures.one_edge
