-- Scripts worked out by hand: which blocks a collection frees, by what the slots hold.
use Rattle.std.specs.Prelude.{◌≡◌, pos, ℕ, List, [], ◌∷◌, Option, Some, None}
use Rattle.graph_types.specs.{Step.empty_graph, declared.batches.NamedOp.{NamedOp, TheVariants.Insert}}
use Rattle.script_commands.specs.States.{Dates, Held, ServerState, after_collect, after_commit, after_rebase, beginning, dates}
use Rattle.script_commands.specs.States.{floor_in, last_held, recycled_blocks, used}

-- the edge from a to b, of kind k
abbrev pub inserted_edge : ℕ → List NamedOp
inserted_edge weight = Insert (107 ∷ []) (97 ∷ []) (98 ∷ []) (pos weight) 1 ∷ []

-- eight blocks and two slots
abbrev pub opened : ServerState
opened = (beginning (record { opening = empty_graph; blocks = 8; seats = 2 })).state

-- a state after one more batch that puts the edge
abbrev pub put : ℕ → ServerState → ServerState
put weight s = after_commit (record s { pending = inserted_edge weight })

-- three versions of the edge, each of which took one block and dropped the one before
abbrev pub once : ServerState
once = put 1 opened

abbrev pub twice : ServerState
twice = put 2 once

abbrev pub thrice : ServerState
thrice = put 3 twice

-- the third state, with these versions in its slots
abbrev pub thrice_holding : List (Option Held) → ServerState
thrice_holding held = record thrice { held = held }

-- a slot that was opened in that state
abbrev pub last_slot : ServerState → Option Held
last_slot s = Some (last_held s)

-- the third state, opened anew with the first of the versions
abbrev pub once_rebased : ServerState
once_rebased = after_rebase (last_held once) (thrice_holding (last_slot once ∷ last_slot thrice ∷ []))

-- what a collection frees and leaves, with its floor
pub record CollectsAs (s : ServerState) (floor freed : ℕ) (left : List Dates) : Type 0 where
  pub floor_are : floor_in s ≡ floor
  pub freed_are : recycled_blocks s ≡ freed
  pub left_are : (after_collect s).retired ≡ left

pub record AreExamples : Type 0 where
  pub births : thrice.births 0 ≡ 3 ∷ []
  pub free : thrice.free ≡ 5
  pub retired : thrice.retired ≡ dates 1 2 ∷ dates 2 3 ∷ []
  -- a held version keeps the block that it has, and no other; the last version keeps none that is retired
  pub first_held : CollectsAs (thrice_holding (last_slot once ∷ None ∷ [])) 1 1 (dates 1 2 ∷ [])
  pub second_held : CollectsAs (thrice_holding (None ∷ last_slot twice ∷ [])) 2 1 (dates 2 3 ∷ [])
  pub both_held : CollectsAs (thrice_holding (last_slot once ∷ last_slot twice ∷ [])) 1 0 (dates 1 2 ∷ dates 2 3 ∷ [])
  pub last_held : CollectsAs (thrice_holding (last_slot thrice ∷ None ∷ [])) 3 2 []
  pub none_held : CollectsAs (thrice_holding (None ∷ None ∷ [])) 3 2 []
  -- version 0 has no block
  pub empty_held : CollectsAs (thrice_holding (last_slot opened ∷ None ∷ [])) 0 2 []
  -- the graph and the layout are those of the version held, whose one block is born anew; all other blocks are free again
  pub rebased_batches : once_rebased.batches ≡ []
  pub rebased_held : once_rebased.held ≡ None ∷ None ∷ []
  pub rebased_layout : once_rebased.layout 0 ≡ once.layout 0
  pub rebased_births : once_rebased.births 0 ≡ 0 ∷ []
  pub rebased_free : once_rebased.free ≡ 7
  pub rebased_used : used once_rebased ≡ 1
  pub rebased_retired : once_rebased.retired ≡ []
  -- the next batch retires the block that was copied
  pub after_rebased : (put 4 once_rebased).retired ≡ dates 0 1 ∷ []
