-- A question of a session that holds a version: its events are all done, leave the world as it was, and reply with its answer.
use Rattle.std.proofs.Common.{◌≡◌, ℕ, zero, suc, ◌+◌, ◌<◌, true, List, [], ◌∷◌, ◌++◌, length, take, set, replicate, get_or}
use Rattle.std.proofs.Common.{refl, sym, ap, subst, ◌∙◌, arith}
use Rattle.std.proofs.{lemmas.Bool.le-leb, lemmas.List.{set-set, take_all}, lemmas.Option.slice_get-get_or}
use Rattle.std.specs.{List.flat_map, Option.{option_and_then, option_map}, Prelude.{if◌then◌else◌, slice_get, MatchOption}}
use Rattle.std.specs.{declared.option.Option.Option, declared.option.Option.TheVariants.{None, Some}}
use Rattle.graph_types.specs.{Answer.IsAnswer, Graph.{Graph, unlimited}, Limits.standard_limits}
use Rattle.graph_types.specs.{declared.requests.Request.Request, declared.batches.NamedOp.NamedOp}
use Rattle.graph_types.proofs.LimitsKept.{same_answer}
use Rattle.graph_types.proofs.{Joined.one_piece_more, ListPlaces.{set_same, set_again}}
use Rattle.edge_block.specs.Slots.{BlockView}
use Rattle.graph_version.specs.Versions.{VersionView}
use Rattle.epoch_core.specs.declared.events.Event.{Event, TheVariants.{Ask, Read, Reply}}
use Rattle.epoch_core.specs.{declared.session_states.Hold.Hold, declared.session_states.Inquiry.Inquiry}
use Rattle.epoch_core.specs.declared.session_states.SessionState.{SessionState}
use Rattle.epoch_core.specs.declared.session_states.SessionState.TheVariants.{Holding, Asking}
use Rattle.epoch_core.specs.{Worlds.{Answer, World, graph_with}, Versions.{blocks_at, edges_at, edges_of, graph_at, version_at}}
use Rattle.epoch_core.specs.Machine.{Answers, Question, Replies, is_all_read, question_in, question_of, read_on, step}
use Rattle.epoch_core.specs.Machine.{to_ask, to_read, to_reply, with_sessions}
use Rattle.epoch_core.specs.{Runs.AllReplies, Sound.{IsHeld, IsNamed}}
use Rattle.epoch_core.proofs.{RunsTogether.both_reply, SessionSteps.changed_to}
use Rattle.epoch_core.proofs.RunsTogether.{AreSilent, silent_reads}
use Rattle.store_steps.specs.Steps.{all_done, filling, fresh_in, posting}
use Rattle.store_steps.proofs.Histories.{done_is_run}

-- Events that reply nothing

silent_filling : (bs : List BlockView) (rest : List Event) → AreSilent rest → AreSilent (flat_map filling bs ++ rest)
silent_filling [] rest silent w replies = silent w replies
silent_filling (b ∷ bs) rest silent w replies =
    (replies, refl, (replies, refl, silent_filling bs rest silent _ replies))

pub silent_posting : (v : VersionView) (batch : List NamedOp) (taken : List ℕ) → AreSilent (posting v batch taken)
silent_posting v batch taken = silent_filling (fresh_in v taken) _ (λ w replies. (replies, refl, refl))

-- Events one after another

pub then_done : (e : Event) (es : List Event) (w mid after : World) → step w e ≡ Some mid → all_done es mid ≡ Some after
    → all_done (e ∷ es) w ≡ Some after
then_done e es w mid after one rest = ap (option_and_then (all_done es)) one ∙ rest

both_done : (es fs : List Event) (w mid after : World) → all_done es w ≡ Some mid → all_done fs mid ≡ Some after
    → all_done (es ++ fs) w ≡ Some after
both_done [] fs w mid after front rest = ap (λ o. option_and_then (all_done fs) o) front ∙ rest
both_done (e ∷ es) fs w mid after front rest =
    elim (step w e) as (λ o. option_and_then (all_done es) o ≡ Some mid → option_and_then (all_done (es ++ fs)) o ≡ Some after) [
      | None ↦ λ none. cc
      | Some next ↦ λ is. both_done es fs next mid after is rest
    ] front

-- A question

module _ (w : World) (s : ℕ) (request : Request) (hold : Hold) (found : slice_get w.sessions s ≡ Some (Holding hold)) where
  abbrev pub held_blocks : List ℕ
  held_blocks = blocks_at w.opening w.versions hold.version

  abbrev reading : ℕ → SessionState
  reading i = Asking hold (record { request = request; next = i; read = edges_of w.heap (take i held_blocks) })

  abbrev at_read : ℕ → World
  at_read i = with_sessions w (set w.sessions s (reading i))

  there : (i : ℕ) → slice_get (set w.sessions s (reading i)) s ≡ Some (reading i)
  there i = set_same w.sessions s (Holding hold) (reading i) found

  asked : step w (Ask s request) ≡ Some (at_read 0)
  asked = changed_to w s (to_ask request) (Holding hold) (reading 0) found refl

  read_one : (i : ℕ) → i < length held_blocks → step (at_read i) (Read s) ≡ Some (at_read (i + 1))
  read_one i low =
      let b : ℕ = get_or held_blocks i 0 in
      let block : slice_get held_blocks i ≡ Some b = slice_get-get_or held_blocks i 0 low in
      let inquiry : Inquiry = record { request = request; next = i; read = edges_of w.heap (take i held_blocks) } in
      let more : SessionState = Asking hold (read_on w.heap inquiry b) in
      changed_to (at_read i) s (to_read w.opening w.heap w.versions) (reading i) more (there i)
      (ap (option_map (λ c. Asking hold (read_on w.heap inquiry c))) block)
      ∙ (ap (λ xs. Some (with_sessions w xs)) (set-set w.sessions s (reading i) more)
      ∙ ap (λ es. Some (with_sessions w (set w.sessions s (Asking hold (record { request = request; next = i + 1; read = es })))))
      (one_piece_more (edges_at w.heap) held_blocks i b block))

  reads : (n i : ℕ) → i + n ≡ length held_blocks → all_done (replicate n (Read s)) (at_read i) ≡ Some (at_read (length held_blocks))
  reads zero i same = let all : i ≡ length held_blocks = omega arith in ap (λ k. Some (at_read k)) all
  reads (suc n) i same =
      then_done (Read s) (replicate n (Read s)) (at_read i) (at_read (i + 1)) (at_read (length held_blocks))
      (read_one i (omega arith)) (reads n (i + 1) (omega arith))

  abbrev front : List Event
  front = Ask s request ∷ replicate (length held_blocks) (Read s)

  all_read : all_done front w ≡ Some (at_read (length held_blocks))
  all_read = then_done (Ask s request) (replicate (length held_blocks) (Read s)) w (at_read 0) (at_read (length held_blocks)) asked
      (reads (length held_blocks) 0 (omega arith))

  abbrev whole : Inquiry
  whole = record { request = request; next = length held_blocks; read = edges_of w.heap (take (length held_blocks) held_blocks) }

  is_read : is_all_read w.opening w.versions hold whole ≡ true
  is_read = le-leb (length held_blocks) (length held_blocks) (omega arith)

  replied : step (at_read (length held_blocks)) (Reply s) ≡ Some w
  replied =
      changed_to (at_read (length held_blocks)) s (to_reply w.opening w.versions) (reading (length held_blocks)) (Holding hold)
      (there (length held_blocks)) (ap (λ t. if t then Some (Holding hold) else None) is_read)
      ∙ (ap (λ xs. Some (with_sessions w xs)) (set-set w.sessions s (reading (length held_blocks)) (Holding hold))
      ∙ ap (λ xs. Some (with_sessions w xs)) (set_again w.sessions s (Holding hold) found))

  -- its events are all done, and leave the world as it was
  pub question_done : all_done (front ++ Reply s ∷ []) w ≡ Some w
  question_done = both_done front (Reply s ∷ []) w (at_read (length held_blocks)) w all_read
      (then_done (Reply s) [] (at_read (length held_blocks)) w w replied refl)

  abbrev answered : Question
  answered = record { request = request; graph = graph_with (version_at w.opening w.versions hold.version) whole.read }

  is_question : question_of (at_read (length held_blocks)) s ≡ Some answered
  is_question = ap (option_and_then (question_in w.opening w.versions)) (there (length held_blocks))
      ∙ ap (λ t. if t then Some answered else None) is_read

  -- what it has read is the graph of its version, but for the limits
  read_graph : IsHeld w hold → IsNamed w hold.version
      → unlimited (graph_at w.opening w.versions hold.version) ≡ answered.graph
  read_graph held named =
      let all : edges_of w.heap held_blocks ≡ whole.read =
      ap (edges_of w.heap) (sym (take_all (length held_blocks) held_blocks (omega arith))) in
      λ i. record {
        names = sym named.names i;
        kinds = sym named.kinds i;
        edges = (sym held.shown.same ∙ ap (λ es. (graph_with (version_at w.opening w.versions hold.version) es).edges) all) i;
        limits = standard_limits;
      }

  -- each answer over the graph of its version may be the reply
  pub question_replies : (old : List (List Answer)) (answer : Answer) → IsHeld w hold → IsNamed w hold.version
      → IsAnswer request (graph_at w.opening w.versions hold.version) answer
      → AllReplies w (front ++ Reply s ∷ []) old (set old s (get_or old s [] ++ answer ∷ []))
  question_replies old answer held named is =
      let new : List (List Answer) = set old s (get_or old s [] ++ answer ∷ []) in
      let good : Answers answered answer = subst (λ (g : Graph). IsAnswer request g answer) (read_graph held named)
      (same_answer request (graph_at w.opening w.versions hold.version) standard_limits answer is) in
      let last : Replies (at_read (length held_blocks)) (Reply s) old new =
      subst (λ (o : Option Question). MatchOption o (new ≡ old) (λ q. (a : Answer) × Answers q a
      × (new ≡ set old s (get_or old s [] ++ a ∷ [])))) (sym is_question) (answer, good, refl) in
      both_reply front (Reply s ∷ []) w old old new (old, refl, silent_reads (length held_blocks) s _ old)
      (subst (λ v. AllReplies v (Reply s ∷ []) old new) (sym (done_is_run front w (at_read (length held_blocks)) all_read))
      (new, last, refl))
