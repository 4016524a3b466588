-- What becomes of blocks, and a change of one element of a list.
use Rattle.std.specs.Prelude.{◌≡◌, ℕ, Bool, true, false, not, ◌&&◌, List, [], ◌∷◌, map, if◌then◌else◌, slice_get, slice_set}
use Rattle.std.specs.{List.enumerate_from, Option.option_and_then, declared.option.Option.{Option, TheVariants.{None, Some}}}
use Rattle.graph_types.specs.declared.ids.Edge.{Edge}
use Rattle.block_reclamation.specs.declared.status.BlockStatus.{BlockStatus, TheVariants.{Free, Granted, Used, Retired}}
use Rattle.block_reclamation.specs.{declared.copies.PinCopy.PinCopy, Status.{is_granted, is_among, is_reclaimable}}
use Rattle.epoch_core.specs.declared.step.Step.{Step, TheVariants.Done, TheVariants.Skipped}

-- no number stands twice
abbrev pub all_differ : List ℕ → Bool
all_differ [] = true
all_differ (b ∷ bs) = not (is_among b bs) && all_differ bs

-- the list with what a change makes of the element at i; none where there is no such element, or the change fails
abbrev pub put_if_some : {A : Type 0} → List A → ℕ → Option A → Option (List A)
put_if_some xs i None = None
put_if_some xs i (Some x) = Some (slice_set xs i x)

abbrev pub changed_at : {A : Type 0} → (A → Option A) → List A → ℕ → Option (List A)
changed_at change xs i = put_if_some xs i (option_and_then change (slice_get xs i))

-- a change that is done, or skipped with nothing changed
abbrev pub Stepped : {A : Type 0} → Option A → Step → A → A → Type 0
Stepped None step old new = (step ≡ Skipped) × (new ≡ old)
Stepped (Some after) step old new = (step ≡ Done) × (new ≡ after)

-- a free block is granted once it is taken
abbrev pub status_taken : BlockStatus → Option BlockStatus
status_taken Free = Some Granted
status_taken Granted = None
status_taken (Used birth) = None
status_taken (Retired birth retirement) = None

-- a retired block that the copy of the pins doesn't need is free once it is recycled
abbrev pub reclaimed : PinCopy → BlockStatus → Option BlockStatus
reclaimed copy status = if is_reclaimable copy status then Some Free else None

-- the heap with these edges in a granted block
abbrev pub filled_heap : List BlockStatus → List (List Edge) → ℕ → List Edge → Option (List (List Edge))
filled_heap status heap b edges = option_and_then (λ s. if is_granted s then Some (slice_set heap b edges) else None)
    (slice_get status b)

-- what a block is once version n is posted: a granted block that it lists is born then, and one of the version
-- before that it doesn't list is retired
abbrev pub after_post : ℕ → Bool → BlockStatus → BlockStatus
after_post n is_in Free = Free
after_post n true Granted = Used n
after_post n false Granted = Granted
after_post n true (Used birth) = Used birth
after_post n false (Used birth) = Retired birth n
after_post n is_in (Retired birth retirement) = Retired birth retirement

abbrev pub status_after : ℕ → List ℕ → List BlockStatus → List BlockStatus
status_after n blocks status = map (λ p. after_post n (is_among p.0 blocks) p.1) (enumerate_from 0 status)
