-- The machine's start over an opening content, whose edges stand in blocks.
use Rattle.std.specs.{Prelude.{◌≢◌, ℕ, ◌<◌, List, [], ◌∷◌, map, replicate, slice_set, All, AllPairs}, List.flat_map}
use Rattle.graph_types.specs.{Graph.{graph_in, IsContentIn}, Limits.{LimitsView, standard_limits}}
use Rattle.graph_types.specs.{declared.ids.Edge.Edge, declared.contents.Content.Content}
use Rattle.block_reclamation.specs.declared.status.BlockStatus.{BlockStatus, TheVariants.Free, TheVariants.Used}
use Rattle.epoch_core.specs.{Versions.AreEdgesOf, Worlds.MachineState, Worlds.start_world_in}

-- block numbers, each with the edges in its block
abbrev pub BlockLists : Type 0
BlockLists = List (ℕ × List Edge)

abbrev pub numbers_in : BlockLists → List ℕ
numbers_in lists = map (λ l. l.0) lists

-- the heap with these edges, and the blocks that version 0 lists, with birth 0
abbrev pub heap_with : BlockLists → List (List Edge) → List (List Edge)
heap_with [] heap = heap
heap_with (l ∷ lists) heap = heap_with lists (slice_set heap l.0 l.1)

abbrev pub status_with : BlockLists → List BlockStatus → List BlockStatus
status_with [] status = status
status_with (l ∷ lists) status = status_with lists (slice_set status l.0 (Used 0))

abbrev pub opened_state_in : LimitsView → ℕ → ℕ → Content → BlockLists → MachineState
opened_state_in limits sessions blocks content lists = record {
  world = record (start_world_in limits sessions blocks) {
    opening = record { content = content; blocks = numbers_in lists; limits = limits };
    heap = heap_with lists (replicate blocks []);
    status = status_with lists (replicate blocks Free);
  };
  replies = replicate sessions [];
}

abbrev pub opened_state : ℕ → ℕ → Content → BlockLists → MachineState
opened_state sessions blocks content lists = opened_state_in standard_limits sessions blocks content lists

-- the same from a state without versions, under its limits
abbrev pub opened_over : MachineState → Content → BlockLists → MachineState
opened_over state content lists = record {
  world = record state.world {
    opening = record { content = content; blocks = numbers_in lists; limits = state.world.opening.limits };
    heap = heap_with lists state.world.heap;
    status = status_with lists state.world.status;
  };
  replies = state.replies;
}

-- a content within these limits, and different blocks whose edges taken together are each once the content's
pub record IsOpeningIn (limits : LimitsView) (blocks : ℕ) (content : Content) (lists : BlockLists) : Type 0 where
  pub content_is : IsContentIn limits content
  pub within : All (λ l. l.0 < blocks) lists
  pub different : AllPairs ◌≢◌ (numbers_in lists)
  pub shown : AreEdgesOf (flat_map (λ l. l.1) lists) (graph_in limits content)

abbrev pub IsOpening : ℕ → Content → BlockLists → Type 0
IsOpening blocks content lists = IsOpeningIn standard_limits blocks content lists
