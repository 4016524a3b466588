-- A pool: what each of its block numbers is by now. Free, in use and retired part the numbers, since each number has one status.
use Rattle.std.specs.Prelude.{◌≡◌, ◌≢◌, ℕ, List, [], ◌∷◌, slice_get, slice_index_or, slice_set, All, AllPairs, Bool, true, ◌<◌}
use Rattle.std.specs.{Prelude.{length, Option, None, IfSome}, Arc.arc_value, declared.{sync.Arc.Arc, alloc.Global.Global}}
use Rattle.block_reclamation.specs.declared.status.BlockStatus.{BlockStatus, TheVariants.{Granted, Used, Retired}}
use Rattle.block_reclamation.specs.Status.{is_at, is_free, is_in_use, is_used}
use Rattle.edge_block.specs.declared.blocks.Block.{Block}

abbrev pub is_free_at : List BlockStatus → ℕ → Bool
is_free_at pool number = is_at is_free (slice_get pool number)

abbrev pub is_in_use_at : List BlockStatus → ℕ → Bool
is_in_use_at pool number = is_at is_in_use (slice_get pool number)

-- what a number must be to be retired
abbrev pub is_used_at : List BlockStatus → ℕ → Bool
is_used_at pool number = is_at is_used (slice_get pool number)

-- what retiring with a version's number makes of a status
abbrev pub retired : ℕ → BlockStatus → BlockStatus
retired version (Used birth) = Retired birth version
retired version status = status

-- the list with that element at each of these places
abbrev pub marked : {A : Type 0} → List ℕ → A → List A → List A
marked [] x xs = xs
marked (place ∷ places) x xs = marked places x (slice_set xs place x)

-- the pool with the status at each of these numbers changed
abbrev pub changed_numbers : (BlockStatus → BlockStatus) → List ℕ → List BlockStatus → List BlockStatus
changed_numbers change [] pool = pool
changed_numbers change (number ∷ numbers) pool = changed_numbers change numbers (slice_set pool number (change (slice_index_or pool number Granted)))

-- distinct numbers that are free
pub record AreFree (pool : List BlockStatus) (numbers : List ℕ) : Type 0 where
  pub free : All (λ n. is_free_at pool n ≡ true) numbers
  pub distinct : AllPairs ◌≢◌ numbers

-- there is a place for each number, and a body that is kept has its place's number
pub record AreBodies (count : ℕ) (bodies : List (Option (Arc Block Global))) : Type 0 where
  pub same_length : length bodies ≡ count
  pub numbers : (n : ℕ) → n < count → IfSome (slice_index_or bodies n None) (λ b. (arc_value {X = Block} b).number ≡ n)
