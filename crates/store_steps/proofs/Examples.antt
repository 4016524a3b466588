-- Small stores, computed.
use Rattle.std.proofs.Common.{◌≡◌, ℕ, zero, suc, true, false, List, [], ◌∷◌, refl, sym, ap, subst, arith}
use Rattle.std.proofs.{lemmas.Grind.common_steps, lemmas.Bool.{true≢false, ne_eqb}}
use Rattle.std.specs.Prelude.{filter, ◌==◌, All, slice_get}
use Rattle.graph_types.specs.{declared.batches.NamedOp.NamedOp, Limits.standard_limits}
use Rattle.graph_version.specs.{Edges.edges_in_block, Versions.empty_version}
use Rattle.block_reclamation.specs.Copies.{pin_at}
use Rattle.block_reclamation.specs.Status.{is_at, is_granted}
use Rattle.block_reclamation.proofs.SeatPins.{is_told}
use Rattle.graph_types.proofs.ChangedContents.{standard_are_limits}
use Rattle.graph_version.proofs.Empty.{blank_is_version}
use Rattle.epoch_core.specs.Worlds.{seat_pin, start_world, session_of, World}
use Rattle.epoch_core.specs.{declared.events.Event.TheVariants.{Post, Enter, Settle, Floor}, Versions.edges_at}
use Rattle.epoch_core.specs.{declared.events.Event.Event, declared.session_states.SessionState.TheVariants.{Pinned, Holding}}
use Rattle.epoch_core.specs.{Posting.can_post, Posts.posted}
use Rattle.epoch_core.proofs.Examples.{pin_shown, shows_none}
use Rattle.store_steps.specs.{Desks.{birth_at, IsDesk}, Steps.all_done, Acceptances.{Acceptance, IsAccepted, KeepsUntaken}}
use Rattle.store_steps.specs.Opening.{opened_desk}
use Rattle.store_steps.specs.Examples.{blank_desk, crossed_copy, crossed_desk, crossed_board, AreExamples, block_one}
use Rattle.store_steps.specs.Examples.{world_of_edge, board_of_two, world_of_two}
use Rattle.store_steps.specs.Merges.{AreLocked, EntersInOrder, Raises, is_of}
use Rattle.store_steps.proofs.{BatchLaws.accepted_steps, StatusCounts.accepted_counts, OpeningShown.opens_blank}

edges_shown : All (λ b. edges_at world_of_edge.heap b.number ≡ edges_in_block b) (block_one ∷ [])
edges_shown = grind (arith, common_steps)

pins_shown : (s : ℕ) → seat_pin (session_of world_of_two s) ≡ pin_at board_of_two.pins s
pins_shown s = grind (arith, common_steps)

-- a Post that is done, and those after it
posts : (w : World) (batch : List NamedOp) (blocks : List ℕ) (rest : List Event)
    → can_post w.opening w.heap w.status w.versions batch blocks ≡ true
    → all_done (Post batch blocks ∷ rest) w ≡ all_done rest (posted w batch blocks)
posts w batch blocks rest can = grind (arith, common_steps)

-- seat 1 has entered, and seat 0 is pinned
abbrev before_post : World
before_post = record (start_world 2 3) {
  sessions = Pinned 0 ∷ Holding (record { pin = 0; settled = true; version = 0 }) ∷ [];
}

-- The batch without operations

blank_is_desk : IsDesk blank_desk
blank_is_desk = record { version = blank_is_version; replays = refl; listed = (opens_blank standard_limits standard_are_limits 0 3).desk.listed }

abbrev blank : Acceptance
blank = record { old = opened_desk 3 empty_version; batch = []; taken = []; dropped = []; new = blank_desk }

blank_keeps : KeepsUntaken blank
blank_keeps = λ k d h. absurd (omega arith)

blank_accepted : IsAccepted blank
blank_accepted = record {
  opened = refl;
  opening = refl;
  journal = refl;
  legal = refl;
  ledger = refl;
  kept = blank_keeps;
  layout = λ source. refl;
  taken_are = refl;
  dropped_are = refl;
  births = λ source. refl;
  dropped_births = λ q. refl;
  counts = accepted_counts blank refl refl;
  steps = accepted_steps blank (opens_blank standard_limits standard_are_limits 0 3).desk blank_is_desk refl refl refl refl
      blank_keeps;
}

-- other seats have only the raise
only_raise : (seat : ℕ) → (0 == seat) ≡ false → (1 == seat) ≡ false
    → filter (is_of seat) crossed_board ≡ Raises crossed_copy ∷ []
only_raise seat first second = rw (first, second)

-- each seat enters in order
crossed_entries : (seat : ℕ) → EntersInOrder 1 0 0 (filter (is_of seat) crossed_board)
crossed_entries zero = (omega arith, omega arith, tt)
crossed_entries (suc zero) = (omega arith, omega arith, tt)
crossed_entries (suc (suc seat)) =
    let first : (0 == suc (suc seat)) ≡ false = ne_eqb 0 (suc (suc seat)) (λ e. absurd (omega arith)) in
    let second : (1 == suc (suc seat)) ≡ false = ne_eqb 1 (suc (suc seat)) (λ e. absurd (omega arith)) in
    subst (EntersInOrder 1 0 0) (sym (only_raise (suc (suc seat)) first second)) tt

crossed_locks : AreLocked 2 (opened_desk 3 empty_version) crossed_desk crossed_board
crossed_locks = record {
  desk_calls = (([], blank_accepted), (refl, tt));
  board_calls = ((omega arith, refl), ((0, refl), ((omega arith, refl), ((0, refl), ((refl, refl), (refl, tt))))));
  raises = refl;
  entries = crossed_entries;
}

pub are_examples : AreExamples
are_examples = record {
  batches = refl;
  collection = refl;
  taken_used = refl;
  taken_past = refl;
  taken_twice = refl;
  dropped_retired = refl;
  collected_early = refl;
  collected_settled = refl;
  collected_unsettled = refl;
  collected_late = refl;
  collected_nothing = refl;
  desk = record {
    opening = refl;
    opened = refl;
    batches = refl;
    blocks = refl;
    edges = edges_shown;
    status = refl;
    sizes = refl;
  };
  later = λ w shows. let no : 2 ≡ 1 = ap (λ pool. birth_at pool 1) shows.status in absurd (omega arith);
  granted = λ w shows. true≢false (ap (λ pool. is_at is_granted (slice_get pool 1)) shows.status);
  posted = refl;
  filled = refl;
  kept = refl;
  recycled = refl;
  recycled_behind = refl;
  none_recycled = refl;
  freed = refl;
  needed = refl;
  accepted = refl;
  entry = refl;
  no_entry = refl;
  opened = refl;
  opened_edges = refl;
  opened_status = refl;
  opened_dropped = refl;
  opened_taken = refl;
  touched = record { births_are = refl; dropped_are = refl };
  appended = record { births_are = refl; dropped_are = refl };
  emptied = record { births_are = refl; dropped_are = refl };
  untouched = record { births_are = refl; dropped_are = refl };
  pinned = record { floor = refl; pins = pin_shown };
  entered = refl;
  board = record { floor = refl; pins = pins_shown };
  settled = λ w shows. true≢false (sym (ap is_told (shows.pins 1)));
  crossed = crossed_locks;
  crossed_desks = refl;
  crossed_seats = (refl, refl);
  crossed_done = posts before_post [] [] (Enter 0 ∷ Settle 0 ∷ Floor ∷ []) shows_none;
  entered_below = λ are. absurd (omega (arith, are.0));
  entered_back = λ are. absurd (omega (arith, are.2.0));
  entered_early = λ are. absurd (omega (arith, are.1));
}
