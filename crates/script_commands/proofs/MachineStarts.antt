-- A server that has just opened shows a start of the machine.
use Rattle.std.proofs.Common.{◌≡◌, ℕ, zero, suc, ◌∷◌, length, map, replicate, refl, sym, ap, subst, ◌∙◌}
use Rattle.std.specs.Prelude.{Option, None, Ok}
use Rattle.graph_types.specs.Graph.{graph_in}
use Rattle.graph_version.specs.{Rebased.IsRebased, Versions.empty_version_in}
use Rattle.epoch_core.specs.declared.session_states.SessionState.{TheVariants.Idle}
use Rattle.epoch_core.specs.{Versions.{graph_at, graph_of_opening}, Worlds.{MachineState, World, start_world_in}}
use Rattle.epoch_core.proofs.Steps.{start_is_start}
use Rattle.store_steps.specs.{Desks.DeskView, Opening.{IsVersionZero, OpensAsMachine, opened_desk, opened_start}, Shown.ShowsWorld}
use Rattle.store_steps.proofs.OpeningShown.{content_in, content_opens, opens_as_machine}
use Rattle.stream_store.specs.{Configs.ConfigView, Seats.{SessionView, held_version}}
use Rattle.script_commands.specs.Machine.{Restarts, ShowsMachine, StartsMachine, held_at, session_for}
use Rattle.script_commands.specs.{Servers.IsServer, Slots.{IsPinnedBySlots, held_slots, held_of}, States.{Held, version_in}}
use Rattle.script_commands.specs.declared.{server.Server.Server}
use Rattle.script_commands.proofs.{Commands.held_there, MachineMoves.{board_shown, graph_held, graph_shown}}
use Rattle.std.specs.Prelude.{slice_get, Some}
use Rattle.store_steps.proofs.Reopening.{blank_shown}

idle_sessions : (n : ℕ) → replicate n Idle ≡ map session_for (replicate n (let none : Option Held = None in none))
idle_sessions zero = refl
idle_sessions (suc n) = ap (λ xs. Idle ∷ xs) (idle_sessions n)

-- a world that the desk shows, of floor 0 and idle sessions, is shown where no slot holds a version
start_shown : (server : Server) (w : World) (last n : ℕ) → ShowsWorld server.desk.desk w → w.floor ≡ 0 → w.sessions ≡ replicate n Idle
    → IsPinnedBySlots last server.slots.board server.slots.sessions.items → server.slots.board.floor ≡ 0
    → held_slots server.slots ≡ replicate n None → ShowsMachine server w
start_shown server w last n desk low idle pinned floor none =
    let sessions : w.sessions ≡ map session_for (held_slots server.slots) =
    idle ∙ (idle_sessions n ∙ ap (map session_for) (sym none)) in
    record {
      desk = desk;
      board = board_shown last server.slots w pinned (low ∙ sym floor) sessions;
      sessions = sessions;
    }

pub starts : (config : ConfigView) (server : Server) (last : ℕ)
    → server.desk.desk ≡ opened_desk config.blocks (empty_version_in config.limits)
    → IsPinnedBySlots last server.slots.board server.slots.sessions.items → server.slots.board.floor ≡ 0
    → held_slots server.slots ≡ replicate config.seats None → StartsMachine config server
starts config server last desk pinned floor none =
    let w : World = start_world_in config.limits config.seats config.blocks in (
      start_is_start config.limits config.seats config.blocks,
      start_shown server w last config.seats
          (subst (λ (d : DeskView). ShowsWorld d w) (sym desk) (blank_shown config.limits config.seats config.blocks))
          refl refl pinned floor none,
    )

-- A rebase

pub restarts : (old new : Server) (slot blocks n : ℕ) (s : SessionView) (here : MachineState) → IsServer old
    → slice_get old.slots.sessions.items slot ≡ Some (Some s) → IsRebased (held_version s) new.desk.desk.last
    → IsVersionZero blocks new.desk.desk.last → new.desk.desk ≡ opened_desk blocks new.desk.desk.last
    → IsPinnedBySlots (length new.desk.desk.last.batches) new.slots.board new.slots.sessions.items → new.slots.board.floor ≡ 0
    → held_slots new.slots ≡ replicate n None → ShowsMachine old here.world → Restarts (held_at old slot) new here.world
restarts old new slot blocks n s here is there rebased zero_is desk pinned floor none shows =
    let v = held_version s in
    let last = new.desk.desk.last in
    let same : graph_in last.opening.limits (content_in last) ≡ last.opening = content_opens blocks last zero_is in
    let opens : OpensAsMachine n blocks last (content_in last) = opens_as_machine n blocks last (content_in last) zero_is same in
    let start : MachineState = opened_start n blocks (content_in last) last in
    let held : held_at old slot ≡ Ok (held_of v) = ap version_in (held_there old.slots.sessions.items slot s there) in
    let graph : graph_of_opening start.world.opening ≡ graph_at here.world.opening here.world.versions (length v.batches) =
    same ∙ (rebased.opening ∙ (graph_held old slot s is there ∙ sym (graph_shown old here.world (length v.batches) shows.desk))) in
    let shown : ShowsMachine new start.world =
    start_shown new start.world (length last.batches) n
    (subst (λ (d : DeskView). ShowsWorld d start.world) (sym desk) opens.shown) refl refl pinned floor none in
    subst (λ o. Restarts o new here.world) (sym held) (start, opens.start, graph, shown)
