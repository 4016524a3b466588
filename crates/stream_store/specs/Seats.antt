-- Seats and sessions.
use Rattle.std.specs.Prelude.{◌≡◌, ℕ, Option, Some, None, Result}
use Rattle.logbook.specs.Pages.{Book}
use Rattle.graph_types.specs.{Graph.{Graph, unlimited}, Limits.{LimitsView, standard_limits}}
use Rattle.graph_types.specs.{Answer.IsAnswer, declared.requests.{Request.Request, Reply.Reply, AskError.AskError}}
use Rattle.graph_version.specs.Versions.{VersionView, content, empty_version_in}
use Rattle.version_shelf.specs.Shelves.{ToldView}

-- a seat: its number, and the newest version that its reader entered or learnt
pub record SeatView : Type 0 where
  pub number : ℕ
  pub seen : ToldView

-- a session: its seat's number and newest version, and the version that the desk lent, if it lent one
pub record SessionView : Type 0 where
  pub number : ℕ
  pub seen : ToldView
  pub lent : Option VersionView

abbrev pub lent_or_seen : Option VersionView → ToldView → VersionView
lent_or_seen None seen = seen.version
lent_or_seen (Some version) seen = version

-- the version that a session holds: the one lent, or else what its seat saw last
abbrev pub held_version : SessionView → VersionView
held_version s = lent_or_seen s.lent s.seen

-- the graph that a session shows
abbrev pub held_graph : SessionView → Graph
held_graph s = content (held_version s)

-- the session of a seat to which this version was lent
abbrev pub session_lent : SeatView → VersionView → SessionView
session_lent seat version = record { number = seat.number; seen = seat.seen; lent = Some version }

-- the seat of a session
abbrev pub seat_of : SessionView → SeatView
seat_of s = record { number = s.number; seen = s.seen }

-- a seat of the history of this book, which has seen this version alone
abbrev pub HasSeen : Book → VersionView → SeatView → Type 0
HasSeen book version s = s.seen ≡ record { book = book; version = version }

-- a seat of a store that opened without blocks, under these limits and under the standard ones
abbrev pub IsNewSeatIn : LimitsView → Book → SeatView → Type 0
IsNewSeatIn limits book s = HasSeen book (empty_version_in limits) s

abbrev pub IsNewSeat : Book → SeatView → Type 0
IsNewSeat book s = IsNewSeatIn standard_limits book s

-- two sessions, of whatever stores, under whatever limits and after whatever batches: where they hold versions of equal
-- content, equal requests have equal answers
abbrev pub AnswersByContent : Type 0
AnswersByContent =
    (here there : SessionView) (request : Request) (x y : Result Reply AskError) → unlimited (held_graph here) ≡ unlimited (held_graph there)
    → IsAnswer request (held_graph here) x → IsAnswer request (held_graph there) y → x ≡ y
