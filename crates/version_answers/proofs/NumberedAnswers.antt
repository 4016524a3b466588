-- The answer by names is refused exactly as the answer by numbers.
use Rattle.std.proofs.Common.{◌≡◌, inl, inr}
use Rattle.std.specs.Prelude.{Result, Ok, Err, ◌⊎◌}
use Rattle.graph_types.specs.{Answer.IsAnswer, Graph.Graph, declared.requests.{AskError.AskError, Request.Request}}
use Rattle.version_answers.specs.{Numbered.{IsNumberedAnswer, named}, declared.numbered.NumberedReply.NumberedReply}
use Rattle.version_answers.proofs.NamedRows.{named_reply}
use Rattle.graph_types.specs.declared.requests.Request.TheVariants as request
use Rattle.graph_types.specs.declared.requests.AskError.TheVariants as ask

-- a result that isn't out of memory is an answer
pub answer_ok : (request : Request) (g : Graph) (reply : NumberedReply)
    → ((let r : Result NumberedReply AskError = Ok reply in r ≡ Err ask.OutOfMemory) ⊎ IsNumberedAnswer request g (Ok reply))
    → IsAnswer request g (Ok (named g.names reply))
answer_ok request g reply answer = elim answer [ inl short ↦ cc | inr is ↦ (is.0, named_reply request g reply is.1) ]

pub answer_err : (request : Request) (g : Graph) (error : AskError) → (error ≡ ask.OutOfMemory → ⊥)
    → ((let r : Result NumberedReply AskError = Err error in r ≡ Err ask.OutOfMemory) ⊎ IsNumberedAnswer request g (Err error))
    → IsAnswer request g (Err error)
answer_err request g error known answer = elim answer [ inl short ↦ absurd (known cc) | inr is ↦ is ]
