-- What a slot's session answers, from what the server's slots hold.
use Rattle.std.proofs.Common.{◌≡◌, ◌≢◌, ℕ, List, length, take, get_or, refl, sym, ap, subst, ◌∙◌}
use Rattle.std.proofs.lemmas.Option.{get_or_from_slice_get, slice_get_within}
use Rattle.std.specs.Prelude.{◌⊎◌, IfErr, Option, None, Some, Result, Ok, Err, slice_get}
use Rattle.graph_types.specs.{Graph.Graph, Step.left_by, declared.requests.{AskError.AskError, Request.Request}}
use Rattle.graph_types.specs.declared.requests.AskError.TheVariants as ask
use Rattle.graph_types.proofs.NamesApart.{AreApart}
use Rattle.graph_version.specs.Versions.{VersionView}
use Rattle.stream_store.specs.Seats.{SeatView, SessionView, held_graph, held_version}
use Rattle.version_answers.specs.{Numbered.IsNumberedAnswer, Numbered.named, declared.numbered.NumberedReply.NumberedReply}
use Rattle.script_lines.specs.{Lines.shown_lines, declared.words.Word.Word}
use Rattle.feed_csv.specs.declared.command.Command.TheVariants.{Rebase}
use Rattle.script_commands.specs.{Servers.{EndsAt, IsServer, LacksReader, ReopensIn, ShowsServer}, Slots.{IsEarlier, IsScriptSlot}}
use Rattle.script_commands.specs.{Slots.held_of, States.{IsReplied, ServerState, ask_word, version, version_in}}
use Rattle.script_commands.{specs.declared.server.{Server.Server, Stop.Stop}, proofs.Commands.held_there}
use Rattle.script_commands.proofs.Replies.{IsAsked, asked_version, replied_err, replied_ok}

earlier_in : (last : VersionView) (slot : ℕ) (seat : Option SeatView) (session : Option SessionView) (s : SessionView)
    → IsScriptSlot last slot seat session → session ≡ Some s → IsEarlier last (held_version s)
earlier_in last slot None (Some session) s is same =
    subst (λ (o : Option SessionView). HoldsEarlier o) same is.1 where
      HoldsEarlier : Option SessionView → Type 0
      HoldsEarlier None = ⊥
      HoldsEarlier (Some x) = IsEarlier last (held_version x)
earlier_in last slot (Some seat) (Some session) s is same = absurd is
earlier_in last slot seat None s is same = cc

pub held_earlier : (server : Server) (slot : ℕ) (s : SessionView) → IsServer server
    → slice_get server.slots.sessions.items slot ≡ Some (Some s) → IsEarlier server.desk.desk.last (held_version s)
held_earlier server slot s is there =
    let within = slice_get_within server.slots.sessions.items slot (Some s) there in
    earlier_in server.desk.desk.last slot (get_or server.slots.seats.items slot None)
    (get_or server.slots.sessions.items slot None) s
    (is.slots.each slot within) (get_or_from_slice_get server.slots.sessions.items slot (Some s) None there)

pub asked_there : (server : Server) (slot : ℕ) (s : SessionView) → IsServer server
    → slice_get server.slots.sessions.items slot ≡ Some (Some s) → IsAsked (held_graph s)
asked_there server slot s is there =
    let earlier = held_earlier server slot s is there in
    asked_version (held_version s) earlier.version (subst (λ (g : Graph). AreApart g.names) (sym earlier.opening) is.opening)

-- the graph is that of the version whose number the slot holds
pub graph_there : (server : Server) (state : ServerState) (slot : ℕ) (s : SessionView) → IsServer server → ShowsServer server state
    → slice_get server.slots.sessions.items slot ≡ Some (Some s)
    → held_graph s ≡ version (length (held_version s).batches) state
graph_there server state slot s is shows there =
    let earlier = held_earlier server slot s is there in
    let batches : (held_version s).batches ≡ take (length (held_version s).batches) state.batches =
    earlier.batches ∙ ap (take (length (held_version s).batches)) shows.desk.batches in
    let opening : (held_version s).opening ≡ state.opening = earlier.opening ∙ shows.desk.opening in
    λ i. left_by (batches i) (opening i)

pub version_there : (server : Server) (state : ServerState) (slot : ℕ) (s : SessionView) → ShowsServer server state
    → slice_get server.slots.sessions.items slot ≡ Some (Some s)
    → version_in (slice_get state.held slot) ≡ Ok (held_of (held_version s))
version_there server state slot s shows there =
    ap (λ held. version_in (slice_get held slot)) (sym shows.held)
    ∙ ap version_in (held_there server.slots.sessions.items slot s there)

pub replied_ok_at : (server : Server) (state : ServerState) (slot : ℕ) (request : Request) (s : SessionView) (reply : NumberedReply)
    (lines : List ℕ) → IsServer server → ShowsServer server state
    → slice_get server.slots.sessions.items slot ≡ Some (Some s)
    → ((let r : Result NumberedReply AskError = Ok reply in r ≡ Err ask.OutOfMemory)
    ⊎ IsNumberedAnswer request (held_graph s) (Ok reply))
    → lines ≡ shown_lines slot (named (held_graph s).names reply)
    → IsReplied slot request state (version_in (slice_get state.held slot)) (Ok lines)
replied_ok_at server state slot request s reply lines is shows there answer shown =
    replied_ok slot request state (held_graph s) (held_of (held_version s)) reply lines
    (version_there server state slot s shows there) (asked_there server slot s is there)
    (graph_there server state slot s is shows there) answer shown

pub replied_err_at : (server : Server) (state : ServerState) (slot : ℕ) (request : Request) (s : SessionView) (error : AskError)
    (word : Word) → IsServer server → ShowsServer server state → slice_get server.slots.sessions.items slot ≡ Some (Some s)
    → ((let r : Result NumberedReply AskError = Err error in r ≡ Err ask.OutOfMemory)
    ⊎ IsNumberedAnswer request (held_graph s) (Err error))
    → error ≢ ask.OutOfMemory → word ≡ ask_word error
    → IsReplied slot request state (version_in (slice_get state.held slot)) (Err word)
replied_err_at server state slot request s error word is shows there answer known is_word =
    replied_err slot request state (held_graph s) (held_of (held_version s)) error word
    (version_there server state slot s shows there) (graph_there server state slot s is shows there) answer known is_word

reopens_in : (server : Server) (slot : ℕ) (s : SessionView) → slice_get server.slots.sessions.items slot ≡ Some (Some s)
    → ReopensIn (Rebase slot) server
reopens_in server slot s there = λ state shows.
    (slot, held_of (held_version s), refl, version_there server state slot s shows there)

-- a rebase to what a slot holds may end a run, for want of a reader's place
pub stops_reopening : {T : Type 0} (server : Server) (slot : ℕ) (s : SessionView) (result : Result T Stop)
    → slice_get server.slots.sessions.items slot ≡ Some (Some s) → IfErr result LacksReader
    → IfErr result (EndsAt (Rebase slot) server)
stops_reopening server slot s (Ok value) there lacks = tt
stops_reopening server slot s (Err stop) there lacks = λ error start. (lacks error start, reopens_in server slot s there)
