-- Edges in runs, one for each block.
use Rattle.std.specs.Prelude.{◌≡◌, ◌≤◌, ◌<◌, ◌-◌, ◌++◌, ℕ, List, map, length, replicate, All, AllPairs, slice_index_or, flat_map}
use Rattle.std.specs.List.{AllZip}
use Rattle.std.specs.declared.option.Option.{Option, TheVariants.{None, Some}}
use Rattle.graph_types.specs.{Graph.stamp_of, declared.ids.Edge.Edge}
use Rattle.edge_block.specs.Slots.{BlockView, Slot}

-- two edges of one source and kind
abbrev pub AreAlike : Edge → Edge → Type 0
AreAlike a b = (a.source.0 ≡ b.source.0) × (a.kind.0 ≡ b.kind.0)

-- the edges of one block: some of one source and kind, at most 32
pub record IsRun (run : List Edge) : Type 0 where
  pub some : 0 < length run
  pub few : length run ≤ 32
  pub alike : (i j : ℕ) (d : Edge) → i < length run → j < length run → AreAlike (slice_index_or run i d) (slice_index_or run j d)

-- two runs of one source and kind, of which the first has 32 edges
abbrev pub IsFullBefore : List Edge → List Edge → Type 0
IsFullBefore a b = (d : Edge) → AreAlike (slice_index_or a 0 d) (slice_index_or b 0 d) → length a ≡ 32

-- edges in runs, of those of one source and kind all but the last with 32
pub record AreRuns (edges : List Edge) (runs : List (List Edge)) : Type 0 where
  pub all : flat_map (λ run. run) runs ≡ edges
  pub each : All IsRun runs
  pub packed : AllPairs IsFullBefore runs

-- an edge in a slot, and 32 slots of which the first have these edges
abbrev pub slot_with : Edge → Slot
slot_with e = record { target = e.target.0; stamp = stamp_of e }

abbrev pub slots_of_run : List Edge → List (Option Slot)
slots_of_run run = map (λ e. Some (slot_with e)) run ++ replicate (32 - length run) None

-- a block that has a run's edges, in order
pub record IsFilled (run : List Edge) (b : BlockView) : Type 0 where
  pub source : All (λ e. e.source.0 ≡ b.source) run
  pub kind : All (λ e. e.kind.0 ≡ b.kind) run
  pub slots : b.slots ≡ slots_of_run run

abbrev pub AreFilled : List (List Edge) → List BlockView → Type 0
AreFilled runs blocks = AllZip IsFilled runs blocks
