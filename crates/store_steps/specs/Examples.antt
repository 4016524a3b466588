-- Small stores worked out by hand: journals that replay and journals that don't, a desk and a world that it shows, the
-- events of a batch and of a collection, a board beside sessions, and the calls of a store that threads share.
use Rattle.std.specs.{Prelude.{◌≡◌, pos, ℕ, List, [], ◌∷◌, ◌++◌, map, filter, replicate, true, false}, List.range_with_len}
use Rattle.std.specs.Prelude.{Some, None, Err}
use Rattle.graph_types.specs.{Graph.graph_of, Graph.content_of, Step.empty_graph, declared.contents.Content.Content}
use Rattle.graph_types.specs.declared.requests.AskError.TheVariants.{NoKind}
use Rattle.edge_block.specs.{Slots.BlockView, Slots.edge_slot, Rows.OpenBlock, Rows.Shape, Rows.row_end}
use Rattle.edge_block.specs.Examples.{insert_at, remove_at, row_by, many}
use Rattle.graph_version.specs.Versions.{VersionView, empty_version}
use Rattle.batch_shards.specs.Births.{births_end, births_dropped}
use Rattle.block_reclamation.specs.{declared.status.BlockStatus.BlockStatus, Board.BoardState, Board.no_pins, Board.with_pin}
use Rattle.block_reclamation.specs.declared.status.BlockStatus.TheVariants.{Free, Used, Retired, Granted}
use Rattle.block_reclamation.specs.{declared.copies.PinCopy.PinCopy, Copies.no_copy, Copies.unsettled}
use Rattle.epoch_core.specs.declared.session_states.SessionState.TheVariants.{Idle, Pinned, Holding}
use Rattle.epoch_core.specs.declared.events.Event.{Event, TheVariants.{Take, Fill, Post, Recycle, Pin, Enter}}
use Rattle.epoch_core.specs.Examples.{name_a, name_b, kind_k, one_insertion, example_edge, ask_edge}
use Rattle.epoch_core.specs.{Runs.run, Worlds.{World, empty_opening, start_world, session_of, held_in}}
use Rattle.store_steps.specs.Journal.{Entry, Applied, Collected, Ledger, opened_ledger, replay}
use Rattle.store_steps.specs.{Desks.{DeskView, collections}, Acceptances.{Application, desk_after}}
use Rattle.store_steps.specs.Steps.{all_done, posting, recycling}
use Rattle.store_steps.specs.{Shown.ShowsWorld, Boards.ShowsBoard, Opening.opened_desk, Opening.opened_start}
use Rattle.store_steps.specs.Reached.{Store, opened_store}
use Rattle.store_steps.specs.Merges.{Call, Asks, Applies, Raises, Pins, Settles, Unpins, Enters, is_desks, is_of, next_store, events_of}
use Rattle.store_steps.specs.Merges.{AreLocked, EntersInOrder}

-- a copy without pins
abbrev pub unpinned : ℕ → PinCopy
unpinned last = record no_copy { last = last }

-- a copy with one settled pin, and one with an unsettled pin
abbrev pub copy_settled_at : ℕ → ℕ → PinCopy
copy_settled_at last pin = record no_copy { last = last; settled = Some pin ∷ replicate 15 None }

abbrev pub unsettled_at : ℕ → ℕ → PinCopy
unsettled_at last pin = record no_copy { last = last; unsettled = Some pin ∷ replicate 15 None }

-- Journals, over four blocks, all of them free at first

abbrev pub four_free : Ledger
four_free = opened_ledger 4 []

-- the first batch takes blocks 0 and 1; the second takes 2 and drops 0, which version 2 so retires
abbrev pub two_batches : List Entry
two_batches = Applied (one_insertion (pos 1) 1) (0 ∷ 1 ∷ []) [] ∷ Applied (one_insertion (pos 2) 2) (2 ∷ []) (0 ∷ []) ∷ []

-- Desks

-- the edge from a to b, in block 1
abbrev pub block_one : BlockView
block_one = record { number = 1; source = 0; kind = 0; slots = Some (edge_slot 1 (pos 1) 1 1) ∷ replicate 31 None }

-- a desk of three blocks that has accepted the edge, in block 1
abbrev pub desk_of_edge : DeskView
desk_of_edge = record {
  opened = [];
  last = record { opening = empty_graph; batches = one_insertion (pos 1) 1 ∷ []; rows = (block_one ∷ []) ∷ [] };
  journal = Applied (one_insertion (pos 1) 1) (1 ∷ []) [] ∷ [];
  pool = Free ∷ Used 1 ∷ Free ∷ [];
}

-- the machine's world after the edge was posted; block 1 was born with version 1
abbrev pub world_of_edge : World
world_of_edge = record {
  opening = empty_opening;
  heap = [] ∷ example_edge (pos 1) 1 ∷ [] ∷ [];
  status = Free ∷ Used 1 ∷ Free ∷ [];
  versions = record { batch = one_insertion (pos 1) 1; blocks = 1 ∷ []; names = name_a ∷ name_b ∷ []; kinds = kind_k ∷ [] } ∷ [];
  floor = 0;
  copy = no_copy;
  sessions = Idle ∷ [];
}

-- the edge was applied to the opening with blocks 1 and 2, and took block 1
abbrev pub applied_edge : Application
applied_edge = record {
  batch = one_insertion (pos 1) 1;
  granted = 1 ∷ 2 ∷ [];
  version = desk_of_edge.last;
  taken = 1 ∷ [];
  dropped = [];
  unused = 2 ∷ [];
}

-- Openings

-- the edge from a to b as a content, and a version that begins with it, in block 1
abbrev pub content_of_edge : Content
content_of_edge = content_of (name_a ∷ name_b ∷ []) (kind_k ∷ []) (example_edge (pos 1) 1)

abbrev pub begins_with_edge : VersionView
begins_with_edge = record { opening = graph_of content_of_edge; batches = []; rows = (block_one ∷ []) ∷ [] }

-- Births, of the rows that batches leave; each of them is version 7's

-- a row of one full block
abbrev pub full : List Shape
full = row_end (row_by (map insert_at (range_with_len 0 32)) [])

-- the births that operations leave of a row, and those of the blocks that they drop
pub record Bears (row : List OpenBlock) (births after dropped : List ℕ) : Type 0 where
  pub births_are : births_end 7 row births ≡ after
  pub dropped_are : births_dropped row births ≡ dropped

-- Collections

-- a pool in which version 2 retired block 0, and version 3 block 2, which was born with it
abbrev pub retired_pool : List BlockStatus
retired_pool = Retired 1 2 ∷ Used 1 ∷ Retired 2 3 ∷ Free ∷ []

abbrev pub retired_world : World
retired_world = record (start_world 0 0) {
  status = Retired 1 2 ∷ Used 1 ∷ Retired 2 3 ∷ Free ∷ [];
  copy = copy_settled_at 3 1;
}

-- Boards

-- seat 0 is pinned at floor 1, and seat 1 settled at 2
abbrev pub board_of_two : BoardState
board_of_two = record {
  floor = 1;
  pins = Some (record { number = 1; is_settled = false }) ∷ Some (record { number = 2; is_settled = true }) ∷ replicate 14 None;
}

abbrev pub world_of_two : World
world_of_two = record (start_world 0 0) {
  floor = 1;
  sessions = Pinned 1 ∷ Holding (record { pin = 2; settled = true; version = 2 }) ∷ Idle ∷ [];
}

-- Two locks

-- what the board's lock saw, and a question: seat 0 enters version 1, and then seat 1, which is pinned later, enters version 0 and
-- is told that there is no such kind
abbrev pub crossed_copy : PinCopy
crossed_copy = record no_copy { last = 1; settled = Some 1 ∷ Some 0 ∷ replicate 14 None }

abbrev pub crossed_board : List Call
crossed_board = Pins 0 ∷ Settles 0 1 ∷ Pins 1 ∷ Settles 1 0 ∷ Asks 1 0 ask_edge (Err NoKind) ∷ Raises crossed_copy ∷ []

-- what the desk's lock saw: a batch without operations, which is version 1
abbrev pub blank_desk : DeskView
blank_desk = desk_after (opened_desk 3 empty_version) (record {
  batch = [];
  granted = [];
  version = record empty_version { batches = [] ∷ [] };
  taken = [];
  dropped = [];
  unused = [];
})

abbrev pub crossed_desk : List Call
crossed_desk = Applies [] [] blank_desk ∷ Raises crossed_copy ∷ []

-- one order of both: seat 1 comes first
abbrev pub crossed_order : List Call
crossed_order =
    Pins 1 ∷ Enters 1 ∷ Settles 1 0 ∷ Asks 1 0 ask_edge (Err NoKind) ∷ Pins 0 ∷ Applies [] [] blank_desk ∷ Enters 0 ∷ Settles 0 1
    ∷ Raises crossed_copy ∷ []

-- the events of calls from a world and a store on
abbrev pub events_by : World → Store → List Call → List Event
events_by w s [] = []
events_by w s (c ∷ cs) = events_of w s c ++ events_by (run (events_of w s c) w) (next_store s c) cs

pub record AreExamples : Type 0 where
  -- two batches leave block 0 retired with number 2; a collection without pins frees it
  pub batches : replay two_batches four_free
      ≡ Some (record {
        batches = one_insertion (pos 1) 1 ∷ one_insertion (pos 2) 2 ∷ [];
        pool = Retired 1 2 ∷ Used 1 ∷ Used 2 ∷ Free ∷ [];
      })
  pub collection : replay (two_batches ++ Collected (unpinned 2) 1 ∷ []) four_free
      ≡ Some (record {
        batches = one_insertion (pos 1) 1 ∷ one_insertion (pos 2) 2 ∷ [];
        pool = Free ∷ Used 1 ∷ Used 2 ∷ Free ∷ [];
      })
  -- no journal: a block taken that is used, or past the last; one taken twice; one dropped that isn't the last version's
  pub taken_used : replay (two_batches ++ Applied [] (1 ∷ []) [] ∷ []) four_free ≡ None
  pub taken_past : replay (two_batches ++ Applied [] (4 ∷ []) [] ∷ []) four_free ≡ None
  pub taken_twice : replay (two_batches ++ Applied [] (3 ∷ 3 ∷ []) [] ∷ []) four_free ≡ None
  pub dropped_retired : replay (two_batches ++ Applied [] [] (0 ∷ []) ∷ []) four_free ≡ None
  -- nor: a collection by a copy made before the block was retired, or with a pin that needs it, one past the last version, one
  -- that recycles nothing
  pub collected_early : replay (two_batches ++ Collected (unpinned 1) 1 ∷ []) four_free ≡ None
  pub collected_settled : replay (two_batches ++ Collected (copy_settled_at 2 1) 1 ∷ []) four_free ≡ None
  pub collected_unsettled : replay (two_batches ++ Collected (unsettled_at 2 0) 1 ∷ []) four_free ≡ None
  pub collected_late : replay (two_batches ++ Collected (unpinned 3) 1 ∷ []) four_free ≡ None
  pub collected_nothing : replay (two_batches ++ Collected (unpinned 1) 0 ∷ []) four_free ≡ None
  -- the desk shows the world after the edge; not one in which block 1 is granted, or was born later
  pub desk : ShowsWorld desk_of_edge world_of_edge
  pub later : (w : World) → ShowsWorld desk_of_edge (record w { status = Free ∷ Used 2 ∷ Free ∷ [] }) → ⊥
  pub granted : (w : World) → ShowsWorld desk_of_edge (record w { status = Free ∷ Granted ∷ Free ∷ [] }) → ⊥
  -- the events of the batch, of which Take and Fill are done from the start
  pub posted : posting desk_of_edge.last (one_insertion (pos 1) 1) (1 ∷ [])
      ≡ Take 1 ∷ Fill 1 (example_edge (pos 1) 1) ∷ Post (one_insertion (pos 1) 1) (1 ∷ []) ∷ []
  pub filled : all_done (Take 1 ∷ Fill 1 (example_edge (pos 1) 1) ∷ []) (start_world 1 3)
      ≡ Some (record (start_world 1 3) { heap = [] ∷ example_edge (pos 1) 1 ∷ [] ∷ []; status = Free ∷ Granted ∷ Free ∷ [] })
  -- a block that was kept is neither taken nor filled again
  pub kept : posting desk_of_edge.last [] [] ≡ Post [] (1 ∷ []) ∷ []
  -- under a pin settled at 1 block 2 alone goes, which was born later; under one settled at 2 block 0 alone, which was retired
  -- by then; under one unsettled at 1 none
  pub recycled : recycling (copy_settled_at 3 1) retired_pool ≡ Recycle 2 ∷ []
  pub recycled_behind : recycling (copy_settled_at 3 2) retired_pool ≡ Recycle 0 ∷ []
  pub none_recycled : recycling (unsettled_at 3 1) retired_pool ≡ []
  pub freed : all_done (recycling (copy_settled_at 3 1) retired_pool) retired_world
      ≡ Some (record retired_world { status = Retired 1 2 ∷ Used 1 ∷ Free ∷ Free ∷ [] })
  pub needed : all_done (recycling (copy_settled_at 3 2) retired_pool) retired_world ≡ None
  -- the batch, applied to the opening, leaves that desk; a collection that recycles nothing has no entry
  pub accepted : desk_after (opened_desk 3 empty_version) applied_edge ≡ desk_of_edge
  pub entry : collections (unpinned 2) 1 ≡ Collected (unpinned 2) 1 ∷ []
  pub no_entry : collections (unpinned 2) 0 ≡ []
  -- a store that opens with the edge: its block is there with birth 0, and a batch that drops it retires it so
  pub opened : (opened_desk 3 begins_with_edge).pool ≡ Free ∷ Used 0 ∷ Free ∷ []
  pub opened_edges : (opened_start 1 3 content_of_edge begins_with_edge).world.heap ≡ [] ∷ example_edge (pos 1) 1 ∷ [] ∷ []
  pub opened_status : (opened_start 1 3 content_of_edge begins_with_edge).world.status ≡ Free ∷ Used 0 ∷ Free ∷ []
  pub opened_dropped : replay (Applied [] (2 ∷ []) (1 ∷ []) ∷ []) (opened_ledger 3 (1 ∷ []))
      ≡ Some (record { batches = [] ∷ []; pool = Free ∷ Retired 0 1 ∷ Used 1 ∷ [] })
  -- its block is not free, and an entry that takes it is not legal
  pub opened_taken : replay (Applied [] (1 ∷ []) [] ∷ []) (opened_ledger 3 (1 ∷ [])) ≡ None
  -- a touched block is dropped and born anew, and the one behind it keeps its birth
  pub touched : Bears (row_by (remove_at 0 ∷ insert_at 33 ∷ []) (row_end many)) (3 ∷ 5 ∷ []) (7 ∷ 5 ∷ []) (3 ∷ [])
  -- a block that is appended is born, and none is dropped
  pub appended : Bears (row_by (insert_at 32 ∷ []) full) (3 ∷ []) (3 ∷ 7 ∷ []) []
  -- a block that is emptied is dropped, and the one behind it comes first
  pub emptied : Bears (row_by (map remove_at (range_with_len 0 32)) (row_end many)) (3 ∷ 5 ∷ []) (5 ∷ []) (3 ∷ [])
  -- an operation without effect drops nothing
  pub untouched : Bears (row_by (remove_at 40 ∷ []) (row_end many)) (3 ∷ 5 ∷ []) (3 ∷ 5 ∷ []) []
  -- Pin is what pinning a seat of the opening leaves; Enter then takes hold of version 0
  pub pinned : ShowsBoard (with_pin no_pins 0 (Some (unsettled 0))) (run (Pin 0 ∷ []) (start_world 1 3))
  pub entered : held_in (session_of (run (Pin 0 ∷ Enter 0 ∷ []) (start_world 1 3)) 0) ≡ Some 0
  -- the board shows the sessions' pins, settled and unsettled
  pub board : ShowsBoard board_of_two world_of_two
  pub settled : (w : World) → ShowsBoard board_of_two (record w { sessions = Pinned 1 ∷ Pinned 2 ∷ [] }) → ⊥
  -- what two locks saw: each call meets its contract, though seat 1 is pinned after seat 0 and enters an older version
  pub crossed : AreLocked 2 (opened_desk 3 empty_version) crossed_desk crossed_board
  -- the order keeps the desk's calls and each seat's
  pub crossed_desks : filter is_desks crossed_order ≡ crossed_desk
  pub crossed_seats : (filter (is_of 0) crossed_order ≡ filter (is_of 0) crossed_board)
      × (filter (is_of 1) crossed_order ≡ filter (is_of 1) crossed_board)
  -- its events are all done, and leave each seat with its version, and this copy
  pub crossed_done : all_done (events_by (start_world 2 3) (opened_store (opened_desk 3 empty_version)) crossed_order) (start_world 2 3)
      ≡ Some (record (start_world 2 3) {
        versions = record { batch = []; blocks = []; names = []; kinds = [] } ∷ [];
        copy = crossed_copy;
        sessions = Holding (record { pin = 1; settled = true; version = 1 })
            ∷ Holding (record { pin = 0; settled = true; version = 0 }) ∷ [];
      })
  -- not in order: an entry below what the raise before its pin saw, one below what the seat entered before, one that isn't posted
  pub entered_below : EntersInOrder 1 0 0 (Raises (unpinned 1) ∷ Pins 0 ∷ Settles 0 0 ∷ []) → ⊥
  pub entered_back : EntersInOrder 1 0 0 (Pins 0 ∷ Settles 0 1 ∷ Unpins 0 ∷ Pins 0 ∷ Settles 0 0 ∷ []) → ⊥
  pub entered_early : EntersInOrder 1 0 0 (Pins 0 ∷ Settles 0 1 ∷ Raises (unpinned 0) ∷ []) → ⊥
