-- What befalls a session in a list of events, and when two lists are the same to it.
use Rattle.std.specs.{Prelude.{ℕ, ◌==◌, List, [], ◌∷◌, ◌++◌, map, if◌then◌else◌}, List.flat_map}
use Rattle.graph_types.specs.{Graph.{Graph, unlimited}, declared.requests.Request.Request}
use Rattle.epoch_core.specs.declared.{session_states.SessionState.{SessionState, TheVariants.Asking}, events.Event.Event}
use Rattle.epoch_core.specs.{declared.events.Event.TheVariants.{Enter, Reply, Release}, Worlds.{World, last_graph, session_of}}
use Rattle.epoch_core.specs.{Machine.Question, Runs.{is_done, next_world}}

-- what may befall a session: it takes hold of a version of this graph, whatever the limits, it is replied to, it lets go
pub data Observation : Type 0 where
  Entered : (graph : Graph) → Observation
  Replied : (request : Request) → Observation
  Released : Observation

-- the request that a session has asked and not been replied to
abbrev pub request_in : SessionState → List Request
request_in (Asking hold inquiry) = inquiry.request ∷ []
request_in _ = []

-- what befalls session s in an event that is done
abbrev pub observed_at : ℕ → World → Event → List Observation
observed_at s w (Enter t) = if t == s then Entered (unlimited (last_graph w)) ∷ [] else []
observed_at s w (Reply t) = if t == s then map Replied (request_in (session_of w s)) else []
observed_at s w (Release t) = if t == s then Released ∷ [] else []
observed_at s w _ = []

-- all that befalls session s in a list of events, in order
abbrev pub observations : ℕ → World → List Event → List Observation
observations s w [] = []
observations s w (e ∷ es) = (if is_done w e then observed_at s w e else []) ++ observations s (next_world w e) es

-- a holding: the graph of the held version, and the requests that were replied to in it
pub record Holding : Type 0 where
  pub graph : Graph
  pub answered : List Request

-- the requests replied to before the session lets go or takes hold anew
abbrev pub answered_first : List Observation → List Request
answered_first (Replied request ∷ rest) = request ∷ answered_first rest
answered_first _ = []

-- a holding goes from an Enter to the next Release, or to the end
abbrev pub holdings_of : List Observation → List Holding
holdings_of [] = []
holdings_of (Entered graph ∷ rest) = record { graph = graph; answered = answered_first rest } ∷ holdings_of rest
holdings_of (Replied request ∷ rest) = holdings_of rest
holdings_of (Released ∷ rest) = holdings_of rest

-- the holdings of session s in a list of events that begin in this world, the first one first
abbrev pub holdings : ℕ → World → List Event → List Holding
holdings s w events = holdings_of (observations s w events)

-- the questions of holdings: the requests of each, over the graph of the held version
abbrev pub questions : List Holding → List Question
questions held = flat_map (λ h. map (λ request. record { request = request; graph = h.graph }) h.answered) held
