use Rattle.std.proofs.Common.{◌≡◌, ◌⊎◌, ℕ, List, Err, subst}
use Rattle.graph_types.specs.declared.requests.{AskError.TheVariants.OutOfMemory, Request.TheVariants.OneEdge}
use Rattle.graph_version.specs.Versions.{VersionView, content}
use Rattle.version_answers.specs.Numbered.{IsNumberedAnswer}
use Rattle.stream_store.proofs.seats.Session.ask_in_numbers.Goals as goal

pub returns-clause-answer : goal.returns-clause-answer
returns-clause-answer c =
    subst (λ (v : VersionView). (c.answer_in_numbers.result ≡ Err OutOfMemory)
    ⊎ IsNumberedAnswer c.args.request.now (content v) c.answer_in_numbers.result)
    c.version-held.ensures c.answer_in_numbers.ensures.answer

pub returns-clause-one_edge : goal.returns-clause-one_edge
returns-clause-one_edge c =
    subst (λ (v : VersionView). (kind source target : List ℕ) → c.args.request.now ≡ OneEdge kind source target
    → IsNumberedAnswer c.args.request.now (content v) c.answer_in_numbers.result)
    c.version-held.ensures c.answer_in_numbers.ensures.one_edge
