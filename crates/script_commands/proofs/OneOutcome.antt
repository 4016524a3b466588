-- Each command comes to one outcome.
use Rattle.std.proofs.Common.{◌≡◌, ℕ, ◌≢◌, refl, sym, ap, ◌∙◌, arith}
use Rattle.std.specs.Prelude.{Result, Err, Ok, slice_get}
use Rattle.graph_types.specs.declared.{refusals.ApplyError.ApplyError, requests.Request.Request}
use Rattle.graph_types.proofs.OneAnswer.{one_answer}
use Rattle.desk.proofs.Refused.{not_refused}
use Rattle.stream_store.specs.Refusals.{Attempt, BatchRefusal}
use Rattle.feed_csv.specs.declared.command.Command.{Command}
use Rattle.feed_csv.specs.declared.command.Command.TheVariants.{Op, Commit, OpenSlot, CloseSlot, Query, Collect, Stat, Rebase}
use Rattle.feed_csv.specs.declared.command.FeedWord.{FeedWord}
use Rattle.script_lines.specs.declared.words.Word.{Word}
use Rattle.script_commands.specs.States.{ServerState, Held, RecordResult, IsReplied, version, answer_result, batch_word}
use Rattle.script_commands.specs.States.{IsCommitted, attempt, IsRecordResult, version_in}
use Rattle.graph_types.specs.declared.refusals.ApplyError.TheVariants as refused

one_replied : (slot : ℕ) (request : Request) (s : ServerState) (held : Result Held Word) (a b : RecordResult)
    → IsReplied slot request s held a
    → IsReplied slot request s held b → a ≡ b
one_replied slot request s (Err word) a b first second = first ∙ sym second
one_replied slot request s (Ok held) a b first second =
    let g = version held.number s in
    first.2 ∙ (ap (answer_result slot request g) (one_answer request g first.0 second.0 first.1 second.1) ∙ sym second.2)

-- a batch is refused for one reason: each of them holds only where those before it don't
one_refusal : (a : Attempt) (e f : ApplyError) → BatchRefusal a e → BatchRefusal a f → e ≢ refused.OutOfMemory
    → f ≢ refused.OutOfMemory → batch_word e ≡ batch_word f
one_refusal a refused.OutOfMemory f first second known known' = absurd (known refl)
one_refusal a e refused.OutOfMemory first second known known' = absurd (known' refl)
one_refusal a refused.BatchLimit refused.BatchLimit first second known known' = refl
one_refusal a refused.BatchLimit refused.NamesFull first second known known' = absurd (omega (arith, first, second.0))
one_refusal a refused.BatchLimit refused.KindsFull first second known known' = absurd (omega (arith, first, second.0))
one_refusal a refused.BatchLimit (refused.PoolEmpty n l) first second known known' = absurd (omega (arith, first, second.0))
one_refusal a refused.NamesFull refused.BatchLimit first second known known' = absurd (omega (arith, first.0, second))
one_refusal a refused.NamesFull refused.NamesFull first second known known' = refl
one_refusal a refused.NamesFull refused.KindsFull first second known known' = absurd (second.1.1 first.1)
one_refusal a refused.NamesFull (refused.PoolEmpty n l) first second known known' = absurd (second.1.0 first.1)
one_refusal a refused.KindsFull refused.BatchLimit first second known known' = absurd (omega (arith, first.0, second))
one_refusal a refused.KindsFull refused.NamesFull first second known known' = absurd (first.1.1 second.1)
one_refusal a refused.KindsFull refused.KindsFull first second known known' = refl
one_refusal a refused.KindsFull (refused.PoolEmpty n l) first second known known' = absurd (second.1.1 first.1.0)
one_refusal a (refused.PoolEmpty n l) refused.BatchLimit first second known known' = absurd (omega (arith, first.0, second))
one_refusal a (refused.PoolEmpty n l) refused.NamesFull first second known known' = absurd (first.1.0 second.1)
one_refusal a (refused.PoolEmpty n l) refused.KindsFull first second known known' = absurd (first.1.1 second.1.0)
one_refusal a (refused.PoolEmpty n l) (refused.PoolEmpty m k) first second known known' = refl

one_commit : (s : ServerState) (a b : RecordResult) → IsCommitted s a → IsCommitted s b → a ≡ b
one_commit s (Ok lines) (Ok others) first second = ap Ok (first.1 ∙ sym second.1)
one_commit s (Ok lines) (Err word) first second = absurd (not_refused (attempt s) second.0 first.0 second.1 second.2)
one_commit s (Err word) (Ok lines) first second = absurd (not_refused (attempt s) first.0 second.0 first.1 first.2)
one_commit s (Err word) (Err other) first second =
    ap Err (first.3 ∙ (one_refusal (attempt s) first.0 second.0 first.1 second.1 first.2 second.2 ∙ sym second.3))

pub one_outcome : (item : Result Command FeedWord) (s : ServerState) (a b : RecordResult) → IsRecordResult item s a
    → IsRecordResult item s b → a ≡ b
one_outcome (Err word) s a b first second = first ∙ sym second
one_outcome (Ok (Op op)) s a b first second = first ∙ sym second
one_outcome (Ok Commit) s a b first second = one_commit s a b first second
one_outcome (Ok (OpenSlot slot)) s a b first second = first ∙ sym second
one_outcome (Ok (CloseSlot slot)) s a b first second = first ∙ sym second
one_outcome (Ok (Query slot request)) s a b first second =
    one_replied slot request s (version_in (slice_get s.held slot)) a b first second
one_outcome (Ok Collect) s a b first second = first ∙ sym second
one_outcome (Ok Stat) s a b first second = first ∙ sym second
one_outcome (Ok (Rebase slot)) s a b first second = first ∙ sym second
