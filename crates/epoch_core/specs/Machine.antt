-- The machine: what each event asks, and what it does.
use Rattle.std.specs.Prelude.{◌≡◌, ℕ, Bool, true, false, nat_le, List, [], ◌∷◌, ◌++◌, length, ◌+◌, if◌then◌else◌, slice_get}
use Rattle.std.specs.{Prelude.slice_set, Prelude.slice_index_or, Prelude.MatchOption, Option.option_and_then, Option.option_map}
use Rattle.std.specs.declared.option.Option.{Option, TheVariants.None, TheVariants.Some}
use Rattle.graph_types.specs.{Graph.{Graph, IsContent}, declared.{ids.Edge.Edge, requests.Request.Request}, Answer.IsAnswer}
use Rattle.block_reclamation.specs.{declared.status.BlockStatus.BlockStatus, Copies.floor_of}
use Rattle.epoch_core.specs.declared.{states.{Version.Version, Opening.Opening}, events.Event.{Event, TheVariants.Reply}}
use Rattle.epoch_core.specs.declared.events.Event.TheVariants.{Release, Take, Fill, Post, Floor, Recycle, Pin, Enter, Settle, Ask}
use Rattle.epoch_core.specs.declared.{events.Event.TheVariants.Read, session_states.{Hold.Hold, Inquiry.Inquiry}}
use Rattle.epoch_core.specs.declared.session_states.SessionState.{SessionState, TheVariants.{Idle, Pinned, Holding, Asking}}
use Rattle.epoch_core.specs.{Posting.can_post, Posts.posted, Blocks.{changed_at, status_taken, filled_heap, reclaimed}, Worlds.Answer}
use Rattle.epoch_core.specs.{Worlds.{World, last_number, graph_with, present_copy}, Versions.{version_at, blocks_at, edges_at}}
use Rattle.epoch_core.specs.Versions.{content_with}

-- Sessions

abbrev pub to_pin : ℕ → SessionState → Option SessionState
to_pin floor Idle = Some (Pinned floor)
to_pin floor _ = None

abbrev pub to_enter : ℕ → SessionState → Option SessionState
to_enter last (Pinned pin) = Some (Holding (record { pin = pin; settled = false; version = last }))
to_enter last _ = None

abbrev pub settled_at : Hold → Hold
settled_at hold = record { pin = hold.version; settled = true; version = hold.version }

abbrev pub to_settle : SessionState → Option SessionState
to_settle (Holding hold) = Some (Holding (settled_at hold))
to_settle (Asking hold inquiry) = Some (Asking (settled_at hold) inquiry)
to_settle _ = None

-- a request of which no block is read yet
abbrev pub new_inquiry : Request → Inquiry
new_inquiry request = record { request = request; next = 0; read = [] }

abbrev pub to_ask : Request → SessionState → Option SessionState
to_ask request (Holding hold) = Some (Asking hold (new_inquiry request))
to_ask request _ = None

-- the heap's present edges of the next block are added to what was read
abbrev pub read_on : List (List Edge) → Inquiry → ℕ → Inquiry
read_on heap inquiry b = record { request = inquiry.request; next = inquiry.next + 1; read = inquiry.read ++ edges_at heap b }

abbrev pub to_read : Opening → List (List Edge) → List Version → SessionState → Option SessionState
to_read opening heap versions (Asking hold inquiry) =
    option_map (λ b. Asking hold (read_on heap inquiry b)) (slice_get (blocks_at opening versions hold.version) inquiry.next)
to_read opening heap versions _ = None

abbrev pub is_all_read : Opening → List Version → Hold → Inquiry → Bool
is_all_read opening versions hold inquiry = nat_le (length (blocks_at opening versions hold.version)) inquiry.next

abbrev pub to_reply : Opening → List Version → SessionState → Option SessionState
to_reply opening versions (Asking hold inquiry) = if is_all_read opening versions hold inquiry then Some (Holding hold) else None
to_reply opening versions _ = None

abbrev pub to_release : SessionState → Option SessionState
to_release (Pinned pin) = Some Idle
to_release (Holding hold) = Some Idle
to_release _ = None

-- The events

abbrev pub with_status : World → List BlockStatus → World
with_status w status = record w { status = status }

abbrev pub with_heap : World → List (List Edge) → World
with_heap w heap = record w { heap = heap }

abbrev pub with_sessions : World → List SessionState → World
with_sessions w sessions = record w { sessions = sessions }

-- the world after a session's move; none where there is no such session, or it can't make the move
abbrev pub move : World → ℕ → (SessionState → Option SessionState) → Option World
move w s change = option_map (with_sessions w) (changed_at change w.sessions s)

-- the world after an event, and none where the event is skipped
abbrev pub step : World → Event → Option World
step w (Take b) = option_map (with_status w) (changed_at status_taken w.status b)
step w (Fill b edges) = option_map (with_heap w) (filled_heap w.status w.heap b edges)
step w (Post batch blocks) = if can_post w.opening w.heap w.status w.versions batch blocks then Some
    (posted w batch blocks) else None
step w Floor = Some (record w { floor = floor_of (present_copy w); copy = present_copy w })
step w (Recycle b) = option_map (with_status w) (changed_at (reclaimed w.copy) w.status b)
step w (Pin s) = move w s (to_pin w.floor)
step w (Enter s) = move w s (to_enter (last_number w))
step w (Settle s) = move w s to_settle
step w (Ask s request) = move w s (to_ask request)
step w (Read s) = move w s (to_read w.opening w.heap w.versions)
step w (Reply s) = move w s (to_reply w.opening w.versions)
step w (Release s) = move w s to_release

-- the events that may take memory
abbrev pub takes_memory : Event → Bool
takes_memory (Fill b edges) = true
takes_memory (Post batch blocks) = true
takes_memory (Ask s request) = true
takes_memory (Read s) = true
takes_memory (Reply s) = true
takes_memory _ = false

-- Replies

-- a request, and the graph over which it is answered
pub record Question : Type 0 where
  pub request : Request
  pub graph : Graph

-- what a session's Reply answers: its request, over the held version's names and kinds and the edges read;
-- none where the Reply can't be done
abbrev pub question_in : Opening → List Version → SessionState → Option Question
question_in opening versions (Asking hold inquiry) =
    if is_all_read opening versions hold inquiry
    then Some (record { request = inquiry.request; graph = graph_with (version_at opening versions hold.version) inquiry.read })
    else None
question_in opening versions _ = None

abbrev pub question_of : World → ℕ → Option Question
question_of w s = option_and_then (question_in w.opening w.versions) (slice_get w.sessions s)

-- the answer to a question, as graph_types has it
abbrev pub Answers : Question → Answer → Type 0
Answers q answer = IsAnswer q.request q.graph answer

-- session s gets one more reply, the answer to the question
abbrev pub IsAnswered : ℕ → Question → List (List Answer) → List (List Answer) → Type 0
IsAnswered s q old new = (answer : Answer) × Answers q answer × (new ≡ slice_set old s (slice_index_or old s [] ++ answer ∷ []))

-- what an event does to the replies: only a Reply that is done adds one
abbrev pub Replies : World → Event → List (List Answer) → List (List Answer) → Type 0
Replies w (Reply s) old new = MatchOption (question_of w s) (new ≡ old) (λ q. IsAnswered s q old new)
Replies w _ old new = new ≡ old

-- where a session has read all blocks of its version for a request, the version's names and kinds and the edges
-- read make a content
abbrev pub ReadsContent : Opening → List Version → SessionState → Type 0
ReadsContent opening versions (Asking hold inquiry) =
    is_all_read opening versions hold inquiry ≡ true → IsContent
    (content_with (version_at opening versions hold.version) inquiry.read)
ReadsContent opening versions _ = Unit {0}

-- the answer to the question that a session's Reply answers, if there is one
abbrev pub IsAnswerTo : Option Question → Option Answer → Type 0
IsAnswerTo None None = Unit {0}
IsAnswerTo (Some q) (Some answer) = Answers q answer
IsAnswerTo _ _ = ⊥
