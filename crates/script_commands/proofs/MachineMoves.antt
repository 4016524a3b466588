-- Each command of a server is a list of the machine's events.
use Rattle.std.proofs.Common.{◌≡◌, ℕ, zero, suc, ◌-◌, List, [], ◌∷◌, ◌++◌, length, map, take, get_or, set, replicate, refl, sym, ap}
use Rattle.std.proofs.{Common.{subst, ◌∙◌}, lemmas.{Option.{get_or_from_slice_get, slice_get-map}, List.{length-map, map-set, take-map}}}
use Rattle.std.specs.{Option.option_map, Prelude.{true, Option, None, Some, Result, Ok, Err, slice_get}}
use Rattle.block_reclamation.specs.{declared.copies.{PinCopy.PinCopy, TheConstants.SEATS}}
use Rattle.block_reclamation.specs.Copies.{copy_of, floor_of, pin_at}
use Rattle.epoch_core.specs.declared.events.Event.{Event, TheVariants.{Floor, Pin, Enter, Settle, Release}}
use Rattle.epoch_core.specs.declared.session_states.{Hold.Hold, SessionState.{TheVariants.{Idle, Holding}}}
use Rattle.epoch_core.specs.{Machine.with_sessions, Runs.{Runs}, Sound.{IsHeld, IsNamed, IsSessionSound, IsSound}}
use Rattle.epoch_core.specs.Worlds.{Answer, IsStart, MachineState, World, last_number, present_copy, seat_pin}
use Rattle.epoch_core.specs.Versions.{graph_at}
use Rattle.epoch_core.proofs.Moves.{floored}
use Rattle.feed_csv.specs.declared.command.Command.{Command, TheVariants.{Commit, OpenSlot, CloseSlot, Query, Collect}}
use Rattle.graph_types.specs.{Graph.Graph, Step.left_by, declared.{batches.NamedOp.NamedOp, requests.Request.Request}}
use Rattle.graph_types.specs.Answer.{IsAnswer}
use Rattle.script_lines.specs.declared.words.Word.{Word}
use Rattle.store_steps.specs.{Boards.ShowsBoard, Desks.DeskView, Shown.ShowsWorld}
use Rattle.store_steps.specs.{Acceptances.Accepts, Steps.{SimulatesIn, SimulatesAt, reclaimable_numbers, posting, recycling}}
use Rattle.store_steps.proofs.{BoardSteps.shows_floored, BoardSteps.shows_sessions, Reached.same_count}
use Rattle.store_steps.proofs.Questions.{question_done, question_replies, silent_posting, then_done}
use Rattle.stream_store.specs.{Kept.DeskState, Seats.{SessionView, held_graph, held_version}}
use Rattle.script_commands.specs.Machine.{AddsReplies, AreEventsOf, ContinuesMachine, IsReplyTo, ShowsMachine, asking, held_at, session_for}
use Rattle.script_commands.specs.{Servers.{IsServer, pending_of}, Slots.{IsPinnedBySlots, held_by, held_slots, held_of}}
use Rattle.script_commands.specs.States.{Held, IsReplied, RecordResult, ServerState, answer_result, holding, pins_of, version, version_in}
use Rattle.script_commands.specs.declared.{server.Server.Server, slots.Slots.Slots}
use Rattle.script_commands.proofs.{Asking.{asked_there, held_earlier}, Commands.held_there, Replies.{replied_err, replied_ok}}
use Rattle.graph_types.specs.declared.requests.AskError.{AskError}
use Rattle.graph_types.specs.declared.requests.AskError.TheVariants as ask
use Rattle.version_answers.specs.{Numbered.{IsNumberedAnswer, named}, declared.numbered.NumberedReply.NumberedReply}
use Rattle.script_lines.specs.Lines.{shown_lines}
use Rattle.std.specs.Prelude.{◌≢◌, ◌⊎◌}
use Rattle.epoch_core.proofs.RunsTogether.{world_sound, silent_opening, silent_closing, silent_recycling}
use Rattle.store_steps.proofs.SessionRuns.{opening_done, closing_done}
use Rattle.script_commands.specs.States.{ask_word}

-- The pins

pin_for : (held : Option Held) → seat_pin (session_for held) ≡ option_map holding held
pin_for None = refl
pin_for (Some held) = refl

pin_of_slot : (sessions : List (Option SessionView)) (slot : ℕ)
    → seat_pin (get_or (map session_for (map held_by sessions)) slot Idle)
    ≡ option_map holding (held_by (get_or sessions slot None))
pin_of_slot [] slot = refl
pin_of_slot (s ∷ sessions) zero = pin_for (held_by s)
pin_of_slot (s ∷ sessions) (suc slot) = pin_of_slot sessions slot

pub board_shown : (last : ℕ) (slots : Slots) (w : World) → IsPinnedBySlots last slots.board slots.sessions.items → w.floor ≡ slots.board.floor
    → w.sessions ≡ map session_for (held_slots slots) → ShowsBoard slots.board w
board_shown last slots w pinned floor sessions = record {
  floor = floor;
  pins = λ slot. ap (λ xs. seat_pin (get_or xs slot Idle)) sessions ∙ (pin_of_slot slots.sessions.items slot ∙ sym (pinned.pins slot));
}

-- the machine's copy of the pins is that of the held versions
pins_for : (held : List (Option Held)) → map seat_pin (map session_for held) ≡ map (option_map holding) held
pins_for [] = refl
pins_for (h ∷ held) = λ i. pin_for h i ∷ pins_for held i

pub copy_shown : (server : Server) (w : World) → ShowsMachine server w
    → present_copy w ≡ copy_of (length server.desk.desk.last.batches) (pins_of (held_slots server.slots))
copy_shown server w shows =
    let held = held_slots server.slots in
    let many : length w.sessions ≡ length held = ap length shows.sessions ∙ length-map held session_for in
    λ i. copy_of (same_count server.desk.desk w shows.desk i)
    ((ap (map seat_pin) shows.sessions ∙ pins_for held) i ++ replicate (SEATS - many i) None)

-- A command that does nothing

pub nothing_moves : (command : Command) (old new : Server) (outcome : RecordResult) (here : MachineState)
    → AreEventsOf command old outcome new here.world [] → AddsReplies command old outcome here.world here.replies here.replies
    → new.desk ≡ old.desk → new.slots ≡ old.slots → ShowsMachine old here.world → ContinuesMachine command old outcome new here
nothing_moves command old new outcome here none told desk slots shows = record {
  events = [];
  there = here;
  are = none;
  done = refl;
  replies = refl;
  told = told;
  shown = record {
    desk = subst (λ (d : DeskState). ShowsWorld d.desk here.world) (sym desk) shows.desk;
    board = subst (λ (s : Slots). ShowsBoard s.board here.world) (sym slots) shows.board;
    sessions = shows.sessions ∙ ap (λ s. map session_for (held_slots s)) (sym slots);
  };
}

-- A batch

pub commit_moves : (old new : Server) (batch : List NamedOp) (lines : List ℕ) (here : MachineState) → new.slots ≡ old.slots
    → batch ≡ pending_of old → Accepts old.desk.desk batch new.desk.desk → ShowsMachine old here.world
    → ContinuesMachine Commit old (Ok lines) new here
commit_moves old new batch lines here slots same accepts shows =
    let a : Accepts old.desk.desk (pending_of old) new.desk.desk =
    subst (λ ops. Accepts old.desk.desk ops new.desk.desk) same accepts in
    let events : List Event = posting new.desk.desk.last (pending_of old) a.taken in
    let t : SimulatesIn here.world events new.desk.desk = a.accepted.steps here.world shows.desk in
    let sessions : t.after.sessions ≡ map session_for (held_slots new.slots) =
    t.sessions ∙ (shows.sessions ∙ ap (λ s. map session_for (held_slots s)) (sym slots)) in
    record {
      events = events;
      there = record { world = t.after; replies = here.replies };
      are = (a.taken, refl);
      done = t.done;
      replies = silent_posting new.desk.desk.last (pending_of old) a.taken here.world here.replies;
      told = refl;
      shown = record {
        desk = t.shown;
        board = record {
          floor = t.floor ∙ (shows.board.floor ∙ ap (λ (s : Slots). s.board.floor) (sym slots));
          pins = λ slot. ap (λ xs. seat_pin (get_or xs slot Idle)) t.sessions
              ∙ (shows.board.pins slot ∙ ap (λ (s : Slots). pin_at s.board.pins slot) (sym slots));
        };
        sessions = sessions;
      };
    }

-- A slot that opens or closes

found : (old : Server) (w : World) (slot : ℕ) (held : Option Held) → ShowsMachine old w
    → slice_get (held_slots old.slots) slot ≡ Some held → slice_get w.sessions slot ≡ Some (session_for held)
found old w slot held shows is =
    ap (λ xs. slice_get xs slot) shows.sessions
    ∙ (slice_get-map session_for (held_slots old.slots) slot ∙ ap (option_map session_for) is)

-- the world with that slot's session changed is shown
slot_shown : (old new : Server) (w : World) (slot last : ℕ) (held : Option Held) → ShowsMachine old w → new.desk ≡ old.desk
    → IsPinnedBySlots last new.slots.board new.slots.sessions.items → new.slots.board.floor ≡ old.slots.board.floor
    → held_slots new.slots ≡ set (held_slots old.slots) slot held
    → ShowsMachine new (with_sessions w (set w.sessions slot (session_for held)))
slot_shown old new w slot last held shows desk pinned floor holds =
    let next : World = with_sessions w (set w.sessions slot (session_for held)) in
    let sessions : next.sessions ≡ map session_for (held_slots new.slots) =
    ap (λ xs. set xs slot (session_for held)) shows.sessions
    ∙ (sym (map-set session_for (held_slots old.slots) slot held) ∙ ap (map session_for) (sym holds)) in
    record {
      desk = subst (λ (d : DeskView). ShowsWorld d next) (ap (λ d. d.desk) (sym desk))
          (shows_sessions old.desk.desk w (set w.sessions slot (session_for held)) shows.desk);
      board = board_shown last new.slots next pinned (shows.board.floor ∙ sym floor) sessions;
      sessions = sessions;
    }

pub open_moves : (old new : Server) (slot last : ℕ) (held : Held) (lines : List ℕ) (here : MachineState) → new.desk ≡ old.desk
    → IsPinnedBySlots last new.slots.board new.slots.sessions.items → new.slots.board.floor ≡ old.slots.board.floor
    → held.number ≡ length old.desk.desk.last.batches → slice_get (held_slots old.slots) slot ≡ Some None
    → held_slots new.slots ≡ set (held_slots old.slots) slot (Some held) → ShowsMachine old here.world
    → ContinuesMachine (OpenSlot slot) old (Ok lines) new here
open_moves old new slot last held lines here desk pinned floor number free holds shows =
    let w = here.world in
    let is : last_number w ≡ held.number = same_count old.desk.desk w shows.desk ∙ sym number in
    record {
      events = Pin slot ∷ Enter slot ∷ Settle slot ∷ [];
      there = record {
        world = with_sessions w (set w.sessions slot (session_for (Some held)));
        replies = here.replies;
      };
      are = refl;
      done = opening_done w slot (found old w slot None shows free)
          ∙ ap (λ n. Some (with_sessions w (set w.sessions slot (Holding (record { pin = n; settled = true; version = n }))))) is;
      replies = silent_opening slot w here.replies;
      told = refl;
      shown = slot_shown old new w slot last (Some held) shows desk pinned floor holds;
    }

pub close_moves : (old new : Server) (slot last : ℕ) (held : Held) (lines : List ℕ) (here : MachineState) → new.desk ≡ old.desk
    → IsPinnedBySlots last new.slots.board new.slots.sessions.items → new.slots.board.floor ≡ old.slots.board.floor
    → slice_get (held_slots old.slots) slot ≡ Some (Some held) → held_slots new.slots ≡ set (held_slots old.slots) slot None
    → ShowsMachine old here.world → ContinuesMachine (CloseSlot slot) old (Ok lines) new here
close_moves old new slot last held lines here desk pinned floor there holds shows =
    let w = here.world in
    let hold : Hold = record { pin = held.number; settled = true; version = held.number } in
    record {
      events = Release slot ∷ [];
      there = record { world = with_sessions w (set w.sessions slot Idle); replies = here.replies };
      are = refl;
      done = closing_done w slot hold (found old w slot (Some held) shows there);
      replies = silent_closing slot w here.replies;
      told = refl;
      shown = slot_shown old new w slot last None shows desk pinned floor holds;
    }

-- A collection

pub collect_moves : (old new : Server) (copy : PinCopy) (last : ℕ) (lines : List ℕ) (here : MachineState)
    → IsPinnedBySlots last new.slots.board new.slots.sessions.items → new.slots.board.floor ≡ floor_of copy
    → held_slots new.slots ≡ held_slots old.slots
    → copy ≡ copy_of (length old.desk.desk.last.batches) (pins_of (held_slots old.slots))
    → SimulatesAt copy old.desk.desk (recycling copy old.desk.desk.pool) new.desk.desk → ShowsMachine old here.world
    → ContinuesMachine Collect old (Ok lines) new here
collect_moves old new copy last lines here pinned floor holds same simulates shows =
    let w = here.world in
    let made : present_copy w ≡ copy = copy_shown old w shows ∙ sym same in
    let events : List Event = recycling copy old.desk.desk.pool in
    let t : SimulatesIn (floored w) events new.desk.desk =
    (simulates (floored w) (shows_floored old.desk.desk w shows.desk) made).0 in
    let sessions : t.after.sessions ≡ map session_for (held_slots new.slots) =
    t.sessions ∙ (shows.sessions ∙ ap (map session_for) (sym holds)) in
    record {
      events = Floor ∷ events;
      there = record { world = t.after; replies = here.replies };
      are = ap (λ c. Floor ∷ recycling c old.desk.desk.pool) same;
      done = then_done Floor events w (floored w) t.after refl t.done;
      replies = (here.replies, refl, silent_recycling (reclaimable_numbers copy old.desk.desk.pool) (floored w) here.replies);
      told = refl;
      shown = record {
        desk = t.shown;
        board = board_shown last new.slots t.after pinned (t.floor ∙ (ap floor_of made ∙ sym floor)) sessions;
        sessions = sessions;
      };
    }

-- A question

-- what a state that the server shows has of the versions
abbrev pub versions_of : Server → ServerState
versions_of server = record {
  opening = server.desk.desk.last.opening;
  pending = [];
  batches = server.desk.desk.last.batches;
  held = held_slots server.slots;
  layout = λ source. [];
  births = λ source. [];
  blocks = 0;
  free = 0;
  retired = [];
}

pub graph_held : (server : Server) (slot : ℕ) (s : SessionView) → IsServer server
    → slice_get server.slots.sessions.items slot ≡ Some (Some s)
    → held_graph s ≡ version (length (held_version s).batches) (versions_of server)
graph_held server slot s is there =
    let earlier = held_earlier server slot s is there in
    λ i. left_by (earlier.batches i) (earlier.opening i)

-- the graph of the machine's version is what the first batches leave
pub graph_shown : (server : Server) (w : World) (n : ℕ) → ShowsWorld server.desk.desk w
    → graph_at w.opening w.versions n ≡ version n (versions_of server)
graph_shown server w n shows =
    λ i. left_by ((sym (take-map (λ v. v.batch) n w.versions) ∙ ap (take n) shows.batches) i) (shows.opening i)

pub question_moves : (server : Server) (slot : ℕ) (request : Request) (held : Held) (outcome : RecordResult)
    (start here : MachineState) (events : List Event) → slice_get (held_slots server.slots) slot ≡ Some (Some held)
    → IsReplied slot request (versions_of server) (Ok held) outcome → IsStart start → Runs start events here
    → ShowsMachine server here.world → ContinuesMachine (Query slot request) server outcome server here
question_moves server slot request held outcome start here events there is is_start runs shows =
    let w = here.world in
    let hold : Hold = record { pin = held.number; settled = true; version = held.number } in
    let at : slice_get w.sessions slot ≡ Some (Holding hold) = found server w slot (Some held) shows there in
    let sound : IsSound w = world_sound start here events is_start runs in
    let known : IsHeld w hold =
    subst (IsSessionSound w) (get_or_from_slice_get w.sessions slot (Holding hold) Idle at) (sound.sessions slot) in
    let named : IsNamed w held.number = sound.named held.number known.held_last in
    let graph : version held.number (versions_of server) ≡ graph_at w.opening w.versions held.number =
    sym (graph_shown server w held.number shows.desk) in
    let answer : IsAnswer request (graph_at w.opening w.versions held.number) is.0 =
    subst (λ (g : Graph). IsAnswer request g is.0) graph is.1 in
    let holds : held_at server slot ≡ Ok held = ap version_in there in
    let new : List (List Answer) = set here.replies slot (get_or here.replies slot [] ++ is.0 ∷ []) in
    record {
      events = asking w slot request (Ok held);
      there = record { world = w; replies = new };
      are = ap (asking w slot request) (sym holds);
      done = question_done w slot request hold at;
      replies = question_replies w slot request hold at here.replies is.0 known named answer;
      told = subst (λ o. IsReplyTo slot request w o outcome here.replies new) (sym holds)
          (is.0, refl, is.2 ∙ ap (λ g. answer_result slot request g is.0) graph);
      shown = shows;
    }

pub told_ok : (server : Server) (slot : ℕ) (request : Request) (s : SessionView) (reply : NumberedReply) (lines : List ℕ)
    → IsServer server → slice_get server.slots.sessions.items slot ≡ Some (Some s)
    → ((let r : Result NumberedReply AskError = Ok reply in r ≡ Err ask.OutOfMemory)
    ⊎ IsNumberedAnswer request (held_graph s) (Ok reply))
    → lines ≡ shown_lines slot (named (held_graph s).names reply)
    → IsReplied slot request (versions_of server) (Ok (held_of (held_version s))) (Ok lines)
told_ok server slot request s reply lines is there answer shown =
    let held : version_in (slice_get (held_slots server.slots) slot) ≡ Ok (held_of (held_version s)) =
    ap version_in (held_there server.slots.sessions.items slot s there) in
    subst (λ o. IsReplied slot request (versions_of server) o (Ok lines)) held
    (replied_ok slot request (versions_of server) (held_graph s) (held_of (held_version s)) reply lines held
    (asked_there server slot s is there) (graph_held server slot s is there) answer shown)

pub told_err : (server : Server) (slot : ℕ) (request : Request) (s : SessionView) (error : AskError) (word : Word)
    → IsServer server → slice_get server.slots.sessions.items slot ≡ Some (Some s)
    → ((let r : Result NumberedReply AskError = Err error in r ≡ Err ask.OutOfMemory)
    ⊎ IsNumberedAnswer request (held_graph s) (Err error))
    → error ≢ ask.OutOfMemory → word ≡ ask_word error
    → IsReplied slot request (versions_of server) (Ok (held_of (held_version s))) (Err word)
told_err server slot request s error word is there answer known is_word =
    let held : version_in (slice_get (held_slots server.slots) slot) ≡ Ok (held_of (held_version s)) =
    ap version_in (held_there server.slots.sessions.items slot s there) in
    subst (λ o. IsReplied slot request (versions_of server) o (Err word)) held
    (replied_err slot request (versions_of server) (held_graph s) (held_of (held_version s)) error word held
    (graph_held server slot s is there) answer known is_word)

-- a question to a slot that holds nothing
pub unheld_moves : (server : Server) (slot : ℕ) (request : Request) (word : Word) (here : MachineState)
    → held_at server slot ≡ Err word → ShowsMachine server here.world
    → ContinuesMachine (Query slot request) server (Err word) server here
unheld_moves server slot request word here none shows =
    nothing_moves (Query slot request) server server (Err word) here (ap (asking here.world slot request) (sym none))
    (subst (λ o. IsReplyTo slot request here.world o (Err word) here.replies here.replies) (sym none) refl) refl refl shows
