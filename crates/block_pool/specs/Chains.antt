-- How stacks are linked.
use Rattle.std.specs.Prelude.{◌<◌, ℕ, zero, suc, List, [], ◌∷◌, length, slice_index_or, ◌≡◌, false}
use Rattle.block_pool.specs.declared.stacks.Stack.{Stack}
use Rattle.block_reclamation.specs.Status.{is_among}

-- each list is a stack, its top first; the rooms say which numbers have memory for a link
pub record Stacks : Type 0 where
  pub bound : ℕ
  pub lists : List (List ℕ)
  pub rooms : List ℕ

abbrev pub stack_of : List (List ℕ) → ℕ → List ℕ
stack_of lists stack = slice_index_or lists stack []

abbrev pub below_top : List ℕ → List ℕ
below_top [] = []
below_top (top ∷ numbers) = numbers

-- the number stands in no stack
abbrev pub AreAbsent : ℕ → List (List ℕ) → Type 0
AreAbsent number lists = (stack : ℕ) → is_among number (stack_of lists stack) ≡ false

-- so many numbers from a top down
abbrev pub chain : List ℕ → ℕ → ℕ → List ℕ
chain below top zero = []
chain below top (suc height) = top ∷ chain below (slice_index_or below top 0) height

abbrev pub chain_of : List ℕ → Stack → List ℕ
chain_of below stack = chain below stack.top stack.height

-- each of these numbers has a link
abbrev pub AreBelow : ℕ → List ℕ → Type 0
AreBelow bound [] = Unit {0}
AreBelow bound (n ∷ ns) = (n < bound) × AreBelow bound ns

pub record AreStacksWithin (below : List ℕ) (stacks : List Stack) : Type 0 where
  pub few : length below < 4294967296
  pub each : (k : ℕ) (d : Stack) → k < length stacks → AreBelow (length below) (chain_of below (slice_index_or stacks k d))
