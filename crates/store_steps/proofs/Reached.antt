-- The desk and the board beside a run of the machine.
use Rattle.std.proofs.Common.{◌≡◌, ℕ, ◌<◌, true, List, [], ◌∷◌, ◌++◌, length, get_or, refl, sym, ap, subst, ◌∙◌}
use Rattle.std.proofs.{Common.arith, lemmas.Grind.common_steps, lemmas.List.length-map, lemmas.Option.slice_get-get_or}
use Rattle.std.specs.Option.{unwrap_or, option_map}
use Rattle.std.specs.declared.option.Option.TheVariants.{None, Some}
use Rattle.graph_types.specs.Limits.{LimitsView, AreLimits}
use Rattle.epoch_core.specs.Worlds.{seat_pin, World, MachineState, IsStart, start_world_in, last_number, session_of, held_in}
use Rattle.epoch_core.specs.declared.events.Event.{Event, TheVariants.{Floor, Pin, Enter, Settle, Ask, Read, Reply, Release}}
use Rattle.epoch_core.specs.declared.session_states.SessionState.TheVariants.{Idle, Pinned}
use Rattle.epoch_core.specs.{Epochs.PinsInOrder, Runs.{run, is_done}, Machine.{step, to_pin}}
use Rattle.epoch_core.{specs.Machine.to_enter, proofs.Moves.{Moved, moved, floored, session_after}}
use Rattle.epoch_core.proofs.{Steps.{always_sound, idle_at}, Sizes.size_run, Epochs.pins_in_order}
use Rattle.graph_version.specs.Versions.{empty_version_in}
use Rattle.block_reclamation.specs.{declared.copies.PinCopy.PinCopy, Board.BoardState, Board.with_pin}
use Rattle.block_reclamation.specs.Copies.{pin_at, unsettled, settled, copy_of}
use Rattle.block_reclamation.proofs.SeatPins.{no_pin}
use Rattle.epoch_core.proofs.RunsTogether.{run_more, run_next, some_step}
use Rattle.epoch_core.proofs.SessionSteps.{idle_if, move_done, held_entered, settle_done}
use Rattle.store_steps.specs.{Desks.DeskView, Shown.ShowsWorld, Histories.IsUnseen, Steps.SimulatesIn, Opening.opened_desk}
use Rattle.store_steps.specs.Boards.{ShowsBoard, ShowsIfDone, raised_board}
use Rattle.store_steps.specs.Reached.{Store, opened_store, IsReached, Leads, IsReaders, StaysReached}
use Rattle.store_steps.proofs.BoardSteps.{pins_as_machine, settles_as_machine, unpins_as_machine, raises_as_machine}
use Rattle.store_steps.proofs.{Histories.{done_is_run, readers_are_unseen}, OpeningShown.opens_blank}

-- what the simulating events leave is reached, and the board shows it as before
pub simulated_reached : (start : World) (s : Store) (new : DeskView) (events more : List Event)
    → SimulatesIn (run events start) more new
    → Leads start events (record { old = s; events = more; new = record s { desk = new } })
simulated_reached start s new events more t r =
    let there : t.after ≡ run (events ++ more) start =
    sym (run_more events more start ∙ done_is_run more (run events start) t.after t.done)
    in
    let board : ShowsBoard s.board t.after = record {
      floor = t.floor ∙ r.board.floor;
      pins = λ seat. ap (λ ps. seat_pin (get_or ps seat Idle)) t.sessions ∙ r.board.pins seat;
    } in
    record {
      desk = subst (ShowsWorld new) there t.shown;
      board = subst (ShowsBoard s.board) there board;
      copied_is = ap (λ w. w.copy) (sym there) ∙ t.copy ∙ r.copied_is;
    }

-- a step of the board's that is done
board_reached : (start : World) (s : Store) (new : BoardState) (copy : PinCopy) (events : List Event) (event : Event)
    (after : World) → step (run events start) event ≡ Some after → ShowsIfDone (run events start) event new copy
    → Leads start events (record {
      old = s;
      events = event ∷ [];
      new = record { desk = s.desk; board = new; copy = copy };
    })
board_reached start s new copy events event after is shows r =
    let there : after ≡ run (events ++ event ∷ []) start =
    run_next events event start after is in
    let all = shows after is in
    record {
      desk = subst (ShowsWorld s.desk) there (all.1 s.desk r.desk);
      board = subst (ShowsBoard new) there all.0;
      copied_is = ap (λ w. w.copy) (sym there) ∙ all.2;
    }

-- one that keeps the copy
board_kept : (start : World) (s : Store) (new : BoardState) (events : List Event) (event : Event) (after : World)
    → step (run events start) event ≡ Some after → ShowsIfDone (run events start) event new (run events start).copy
    → Leads start events (record { old = s; events = event ∷ []; new = record s { board = new } })
board_kept start s new events event after is shows r =
    subst (λ copy. IsReached start (events ++ event ∷ []) (record { desk = s.desk; board = new; copy = copy })) r.copied_is
    (board_reached start s new (run events start).copy events event after is shows r)

-- a reader's step, done or skipped
reader_reached : (start : World) (event : Event) → IsUnseen event → IsReaders start event
reader_reached start event hidden s events r =
    elim (step (run events start) event) as (λ o. step (run events start) event ≡ o
    → IsReached start (events ++ event ∷ []) s) [
      | None ↦ λ is.
          (let there : run events start ≡ run (events ++ event ∷ []) start =
          sym (run_more events (event ∷ []) start ∙ ap (λ o. unwrap_or o (run events start)) is) in
          record {
            desk = subst (ShowsWorld s.desk) there r.desk;
            board = subst (ShowsBoard s.board) there r.board;
            copied_is = ap (λ w. w.copy) (sym there) ∙ r.copied_is;
          })
      | Some after ↦ λ is.
          (let there : after ≡ run (events ++ event ∷ []) start =
          run_next events event start after is in
          let both = hidden s.desk s.board (run events start) after is r.desk r.board in
          record {
            desk = subst (ShowsWorld s.desk) there both.0;
            board = subst (ShowsBoard s.board) there both.1;
            copied_is = ap (λ w. w.copy) (sym there) ∙ both.2 ∙ r.copied_is;
          })
    ] refl

-- Steps that are done

pin_done : (start : World) (s : Store) (seat : ℕ) (events : List Event) → IsReached start events s
    → seat < length start.sessions → pin_at s.board.pins seat ≡ None
    → (after : World) × (step (run events start) (Pin seat) ≡ Some after)
pin_done start s seat events r low none =
    let w : World = run events start in
    let few : length w.sessions ≡ length start.sessions = (size_run events start).sessions in
    let idle : session_of w seat ≡ Idle = idle_if (session_of w seat) (r.board.pins seat ∙ none) in
    move_done w seat (to_pin w.floor) Idle (Pinned w.floor) (slice_get-get_or w.sessions seat Idle (omega arith) ∙ ap Some idle)
    refl

pub same_count : (d : DeskView) (w : World) → ShowsWorld d w → last_number w ≡ length d.last.batches
same_count d w shows = sym (length-map w.versions (λ v. v.batch)) ∙ ap length shows.batches

entered_holds : (start : World) (s : Store) (seat : ℕ) (events : List Event) → IsReached start events s
    → is_done (run events start) (Enter seat) ≡ true
    → held_in (session_of (run (events ++ Enter seat ∷ []) start) seat) ≡ Some (length s.desk.last.batches)
entered_holds start s seat events r done =
    let w : World = run events start in
    let there = some_step (step w (Enter seat)) done in
    let m : Moved w seat (to_enter (last_number w)) there.0 = moved w seat (to_enter (last_number w)) there.0 there.1 in
    ap (λ v. held_in (session_of v seat)) (sym (run_next events (Enter seat) start there.0 there.1) ∙ m.result)
    ∙ ap held_in (session_after w seat m.session m.next m.found)
    ∙ held_entered (last_number w) m.session m.next m.changed ∙ ap Some (same_count s.desk w r.desk)

-- a store whose desk shows a start is reached
start_reached : (start : MachineState) → IsStart start → (d : DeskView) → ShowsWorld d start.world
    → IsReached start.world [] (opened_store d)
start_reached start is d shows = grind (arith, common_steps, idle_at, no_pin)

pub stays_reached : (start : MachineState) → IsStart start → StaysReached start.world
stays_reached start is_start = record {
  opening = start_reached start is_start;
  applied = λ s next events more simulates r.
      simulated_reached start.world s next events more (simulates (run events start.world) r.desk) r;
  collected = λ s next events more simulates r.
      simulated_reached start.world s next events more (simulates (run events start.world) r.desk r.copied_is).0 r;
  raised = λ s events is_board few_sessions r.
      let w : World = run events start.world in
      let few : length w.sessions ≡ length start.world.sessions = (size_run events start.world).sessions in
      subst (λ n. IsReached start.world (events ++ Floor ∷ [])
      (record { desk = s.desk; board = raised_board n s.board; copy = copy_of n s.board.pins })) (same_count s.desk w r.desk)
      (board_reached start.world s (raised_board (last_number w) s.board) (copy_of (last_number w) s.board.pins) events Floor
      (floored w) refl (raises_as_machine s.board w is_board (omega (arith, few, few_sessions)) r.board) r);
  pinned = λ s seat events board low few none r.
      let done = pin_done start.world s seat events r few none in
      board_kept start.world s (with_pin s.board seat (Some (unsettled s.board.floor))) events (Pin seat) done.0 done.1
      (pins_as_machine s.board (run events start.world) seat board low r.board) r;
  settled = λ s seat n events board low held r.
      let w : World = run events start.world in
      let done = settle_done w seat n held in
      let order : PinsInOrder w = pins_in_order w (always_sound start events is_start) in
      board_kept start.world s (with_pin s.board seat (option_map (settled n) (pin_at s.board.pins seat))) events (Settle seat)
      done.0 done.1
      (settles_as_machine s.board w seat n board low r.board held (λ pin is. order.pin_held seat pin n is held)) r;
  unpinned = λ s seat events board low done r.
      let there = some_step (step (run events start.world) (Release seat)) done in
      board_kept start.world s (with_pin s.board seat None) events (Release seat) there.0 there.1
      (unpins_as_machine s.board (run events start.world) seat board low r.board) r;
  enter = λ seat. reader_reached start.world (Enter seat) (readers_are_unseen.enter seat);
  ask = λ seat request. reader_reached start.world (Ask seat request) (readers_are_unseen.ask seat request);
  read = λ seat. reader_reached start.world (Read seat) (readers_are_unseen.read seat);
  reply = λ seat. reader_reached start.world (Reply seat) (readers_are_unseen.reply seat);
  entered = entered_holds start.world;
}

pub blank_reached : (limits : LimitsView) → AreLimits limits → (sessions blocks : ℕ)
    → IsReached (start_world_in limits sessions blocks) [] (opened_store (opened_desk blocks (empty_version_in limits)))
blank_reached limits are sessions blocks = record {
  desk = (opens_blank limits are sessions blocks).shown;
  board = (opens_blank limits are sessions blocks).board;
  copied_is = refl;
}
