-- What one record does to a segment: which answers it prints, and whether it goes on with the store or opens one anew.
use Rattle.std.proofs.Common.{◌≡◌, ℕ, ◌<◌, ◌==◌, Bool, true, false, List, [], ◌∷◌, ◌++◌, length}
use Rattle.std.proofs.Common.{append-nil, get_or, refl, sym, ap, subst, ◌∙◌}
use Rattle.std.proofs.lemmas.{Bool.{eqb-true, eqb-false}, List.{get_or-set_other, get_or-set_same}}
use Rattle.std.specs.{List.AllZip, Prelude.{◌≢◌, Result, Ok, Err, if◌then◌else◌, slice_get}}
use Rattle.feed_csv.specs.declared.command.Command.{Command}
use Rattle.feed_csv.specs.declared.command.Command.TheVariants.{Op, Commit, OpenSlot, CloseSlot, Query, Collect, Stat, Rebase}
use Rattle.graph_types.specs.declared.requests.Request.{Request}
use Rattle.graph_types.proofs.ListPlaces.{seated}
use Rattle.epoch_core.specs.{Machine.Question, Worlds.{Answer, World}}
use Rattle.script_lines.specs.declared.words.Word.{Word}
use Rattle.script_commands.specs.Machine.{AddsReplies, IsReplyTo}
use Rattle.script_commands.specs.{Servers.ShowsServer, declared.server.Server.Server}
use Rattle.script_commands.specs.States.{Held, RecordResult, ServerState, answer_result}
use Rattle.script_commands.specs.States.{version, version_in}
use Rattle.script_commands.proofs.SlotResults.{found_held}
use Rattle.script_commands.proofs.ServerMoves.{ShowsVersions}
use Rattle.script_server.specs.Segments.{question_held, question_to}

-- The answers

-- what a record that comes to this adds to the replies of a slot's session
pub record Answered (slot : ℕ) (asked : List Question) (outcome : RecordResult) (old new : List Answer) : Type 0 where
  pub first : List Answer
  pub more : new ≡ old ++ first
  pub prints : AllZip (λ q answer. outcome ≡ answer_result slot q.request q.graph answer) asked first

pub unanswered : (slot : ℕ) (outcome : RecordResult) (old new : List Answer) → new ≡ old → Answered slot [] outcome old new
unanswered slot outcome old new same = record { first = []; more = same ∙ sym (append-nil old); prints = tt }

module _ (slot other : ℕ) (request : Request) (s : ServerState) (w : World) (outcome : RecordResult) (old new : List (List Answer))
    (shows : ShowsVersions w s) (many : length old ≡ length s.held) where
  asked_same : (r : Result Held Word) → version_in (slice_get s.held other) ≡ r → other ≡ slot
      → IsReplyTo other request w r outcome old new
      → Answered slot (question_held s r request) outcome (get_or old slot []) (get_or new slot [])
  asked_same (Err word) is same told = unanswered slot outcome _ _ (ap (λ xs. get_or xs slot []) told)
  asked_same (Ok held) is same told =
      let low : other < length old =
      subst (λ n. other < n) (sym many) (seated s.held other held (found_held (slice_get s.held other) held is)) in
      let next : List Answer = get_or old other [] ++ told.0 ∷ [] in
      let grown : get_or new other [] ≡ next = ap (λ xs. get_or xs other []) told.1 ∙ get_or-set_same old other next [] low in
      let said : outcome ≡ answer_result other request (version held.number s) told.0 =
      told.2 ∙ ap (λ g. answer_result other request g told.0) (shows held.number) in
      record {
        first = told.0 ∷ [];
        more = subst (λ k. get_or new k [] ≡ get_or old k [] ++ told.0 ∷ []) same grown;
        prints = (subst (λ k. outcome ≡ answer_result k request (version held.number s) told.0) same said, tt);
      }

  asked_else : (r : Result Held Word) → slot ≢ other → IsReplyTo other request w r outcome old new
      → Answered slot [] outcome (get_or old slot []) (get_or new slot [])
  asked_else (Err word) ne told = unanswered slot outcome _ _ (ap (λ xs. get_or xs slot []) told)
  asked_else (Ok held) ne told =
      unanswered slot outcome _ _
      (ap (λ xs. get_or xs slot []) told.1 ∙ get_or-set_other old other slot (get_or old other [] ++ told.0 ∷ []) [] ne)

  asked : (t : Bool) → other == slot ≡ t → IsReplyTo other request w (version_in (slice_get s.held other)) outcome old new
      → Answered slot (if t then question_held s (version_in (slice_get s.held slot)) request else []) outcome
      (get_or old slot []) (get_or new slot [])
  asked true is told =
      let same : other ≡ slot = eqb-true other slot is in
      subst (λ k. Answered slot (question_held s (version_in (slice_get s.held k)) request) outcome (get_or old slot []) (get_or new slot []))
      same (asked_same (version_in (slice_get s.held other)) refl same told)
  asked false is told = asked_else (version_in (slice_get s.held other)) (λ e. eqb-false other slot is (sym e)) told

pub answers_of : (command : Command) (server : Server) (s : ServerState) (w : World) (outcome : RecordResult)
    (old new : List (List Answer)) → ShowsServer server s → ShowsVersions w s → length old ≡ length s.held
    → AddsReplies command server outcome w old new → (slot : ℕ)
    → Answered slot (question_to slot s (Ok command)) outcome (get_or old slot []) (get_or new slot [])
answers_of (Query other request) server s w outcome old new shows versions many told slot =
    asked slot other request s w outcome old new versions many (other == slot) refl
    (subst (λ held. IsReplyTo other request w (version_in (slice_get held other)) outcome old new) shows.held told)
answers_of (Op op) server s w outcome old new shows versions many told slot =
    unanswered slot outcome _ _ (ap (λ xs. get_or xs slot []) told)
answers_of Commit server s w outcome old new shows versions many told slot =
    unanswered slot outcome _ _ (ap (λ xs. get_or xs slot []) told)
answers_of (OpenSlot other) server s w outcome old new shows versions many told slot =
    unanswered slot outcome _ _ (ap (λ xs. get_or xs slot []) told)
answers_of (CloseSlot other) server s w outcome old new shows versions many told slot =
    unanswered slot outcome _ _ (ap (λ xs. get_or xs slot []) told)
answers_of Collect server s w outcome old new shows versions many told slot =
    unanswered slot outcome _ _ (ap (λ xs. get_or xs slot []) told)
answers_of Stat server s w outcome old new shows versions many told slot =
    unanswered slot outcome _ _ (ap (λ xs. get_or xs slot []) told)
answers_of (Rebase other) server s w outcome old new shows versions many told slot =
    unanswered slot outcome _ _ (ap (λ xs. get_or xs slot []) told)
