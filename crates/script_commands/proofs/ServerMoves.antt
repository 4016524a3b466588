-- What a command of a server makes of the machine beside it.
use Rattle.std.proofs.Common.{◌≡◌, ℕ, List, [], ◌∷◌, ◌++◌, length, get_or, refl, ap, ◌∙◌, inr, sym, inl}
use Rattle.std.proofs.lemmas.List.{length-set, length-replicate, length-map}
use Rattle.std.specs.Prelude.{Result, Ok, Err, ◌⊎◌, slice_get}
use Rattle.graph_types.specs.declared.requests.Request.{Request}
use Rattle.epoch_core.specs.Worlds.{World, Answer, MachineState, IsStart}
use Rattle.epoch_core.specs.Versions.{graph_at}
use Rattle.feed_csv.specs.declared.command.Command.{Command}
use Rattle.feed_csv.specs.declared.command.Command.TheVariants.{Query, Op, Commit, OpenSlot, CloseSlot, Collect, Stat, Rebase}
use Rattle.script_lines.specs.declared.words.Word.{Word}
use Rattle.script_commands.specs.Machine.{IsReplyTo, AddsReplies, held_at, ShowsMachine, session_for, Restarts, ContinuesMachine}
use Rattle.script_commands.specs.{Servers.ShowsServer, Slots.held_slots, States.{Held, RecordResult, ServerState}}
use Rattle.script_commands.specs.declared.server.Server.{Server}
use Rattle.script_commands.specs.{Machine.Moves, Servers.result_of, States.{version, Reopens, IsRecordResult, version_in}}
use Rattle.script_commands.specs.declared.server.Response.{Response, TheVariants.{Lines, Refused}}
use Rattle.script_commands.proofs.{MachineMoves.graph_shown, SlotResults.{refused_there, no_rebase}}

replied_many : (slot : ℕ) (request : Request) (w : World) (r : Result Held Word) (outcome : RecordResult)
    (old new : List (List Answer)) → IsReplyTo slot request w r outcome old new → length new ≡ length old
replied_many slot request w (Ok held) outcome old new told =
    ap length told.1 ∙ length-set old slot (get_or old slot [] ++ told.0 ∷ [])
replied_many slot request w (Err word) outcome old new told = ap length told

pub replies_many : (command : Command) (server : Server) (outcome : RecordResult) (w : World) (old new : List (List Answer))
    → AddsReplies command server outcome w old new → length new ≡ length old
replies_many (Query slot request) server outcome w old new told =
    replied_many slot request w (held_at server slot) outcome old new told
replies_many (Op op) server outcome w old new told = ap length told
replies_many Commit server outcome w old new told = ap length told
replies_many (OpenSlot slot) server outcome w old new told = ap length told
replies_many (CloseSlot slot) server outcome w old new told = ap length told
replies_many Collect server outcome w old new told = ap length told
replies_many Stat server outcome w old new told = ap length told
replies_many (Rebase slot) server outcome w old new told = ap length told

-- as many replies lists as slots, where a store was just opened
pub start_many : (start : MachineState) (server : Server) (s : ServerState) → IsStart start → ShowsServer server s
    → ShowsMachine server start.world → length start.replies ≡ length s.held
start_many start server s is shows machine =
    ap length is.replies ∙ (length-replicate (length start.world.sessions) []
    ∙ (ap length machine.sessions ∙ (length-map (held_slots server.slots) session_for ∙ ap length shows.held)))

pub restarted : (old new : Server) (here : MachineState) (r : Result Held Word) → Restarts r new here.world
    → (held : Held) × (r ≡ Ok held) × ((start : MachineState) × IsStart start × ShowsMachine new start.world)
restarted old new here (Ok held) is = (held, refl, (is.0, is.1, is.3))
restarted old new here (Err word) is = absurd is

-- the graph of each version is what the first batches of the state leave
abbrev pub ShowsVersions : World → ServerState → Type 0
ShowsVersions w s = (n : ℕ) → graph_at w.opening w.versions n ≡ version n s

pub versions_shown : (server : Server) (w : World) (s : ServerState) → ShowsServer server s → ShowsMachine server w → ShowsVersions w s
versions_shown server w s shows machine n =
    graph_shown server w n machine.desk
    ∙ (λ i. version n (record s { opening = shows.desk.opening i; batches = shows.desk.batches i }))

-- what a record does, in a state that the old server shows
abbrev pub GoesOn : Command → Server → RecordResult → Server → MachineState → ServerState → Type 0
GoesOn command old outcome new here s = (Reopens (Ok command) s → ⊥) × ContinuesMachine command old outcome new here

abbrev pub OpensAnew : Command → Server → Server → MachineState → ServerState → Type 0
OpensAnew command old new here s =
    Reopens (Ok command) s × ((start : MachineState) × IsStart start × ShowsMachine new start.world)

pub moved : (command : Command) (old : Server) (response : Response) (lines : List ℕ) (new : Server) (here : MachineState)
    (s : ServerState) → ShowsServer old s → IsRecordResult (Ok command) s (result_of response lines)
    → Moves command old (result_of response lines) new here
    → GoesOn command old (result_of response lines) new here s ⊎ OpensAnew command old new here s
moved (Rebase slot) old Lines lines new here s shows is moves =
    let there = restarted old new here (held_at old slot) moves in
    inr ((slot, there.0, refl, ap (λ held. version_in (slice_get held slot)) (sym shows.held) ∙ there.1), there.2)
moved (Rebase slot) old (Refused word) lines new here s shows is moves =
    inl (
      λ reopens.
          let both : Ok (Rebase slot) ≡ Ok (Rebase reopens.0) = reopens.2 in
          let same : slot ≡ reopens.0 = cc in
          refused_there s (version_in (slice_get s.held slot)) word reopens.1 is
          (ap (λ k. version_in (slice_get s.held k)) same ∙ reopens.3),
      moves,
    )
moved (Op op) old response lines new here s shows is moves = inl (no_rebase (Op op) s (λ slot e. cc), moves)
moved Commit old response lines new here s shows is moves = inl (no_rebase Commit s (λ slot e. cc), moves)
moved (OpenSlot slot) old response lines new here s shows is moves =
    inl (no_rebase (OpenSlot slot) s (λ k e. cc), moves)
moved (CloseSlot slot) old response lines new here s shows is moves =
    inl (no_rebase (CloseSlot slot) s (λ k e. cc), moves)
moved (Query slot request) old response lines new here s shows is moves =
    inl (no_rebase (Query slot request) s (λ k e. cc), moves)
moved Collect old response lines new here s shows is moves = inl (no_rebase Collect s (λ slot e. cc), moves)
moved Stat old response lines new here s shows is moves = inl (no_rebase Stat s (λ slot e. cc), moves)
