-- Slots of a block: each is empty or has an edge of the block's source and kind.
use Rattle.std.specs.Prelude.{◌≡◌, ℕ, ℤ, ◌==◌, List, [], ◌∷◌, length, map, replicate, count_by, Bool, true, false, ◌||◌}
use Rattle.std.specs.{Prelude.{if◌then◌else◌, All}, List.list_any, Option.{is_some, option_or}, declared.option.Option.Option}
use Rattle.std.specs.declared.option.Option.TheVariants.{None, Some}
use Rattle.graph_types.specs.{Graph.{Key, Stamp, IsWeight, IsTime}, Step.is_before}

-- what the first element has that has something
abbrev pub first_some : {A B : Type 0} → (A → Option B) → List A → Option B
first_some f [] = None
first_some f (x ∷ xs) = option_or (f x) (first_some f xs)

-- no two elements have something at one key
abbrev pub NoKeyTwice : {A K B : Type 0} → (A → K → Option B) → List A → Type 0
NoKeyTwice at [] = Unit {0}
NoKeyTwice {K = K} at (x ∷ xs) = ((key : K) → is_some (at x key) ≡ true → first_some (λ y. at y key) xs ≡ None) × NoKeyTwice at xs

-- the list with f of its first element that passes the test
abbrev pub at_first : {A : Type 0} → (A → Bool) → (A → A) → List A → List A
at_first p f [] = []
at_first p f (x ∷ xs) = if p x then f x ∷ xs else x ∷ at_first p f xs

-- the edge in a slot: its target, and what it bears
pub record Slot : Type 0 where
  pub target : ℕ
  pub stamp : Stamp

-- an edge of a target, with its weight, first time and recent time
abbrev pub edge_stamp : ℤ → ℕ → ℕ → Stamp
edge_stamp weight first recent = record { weight = weight; first = first; recent = recent }

abbrev pub edge_slot : ℕ → ℤ → ℕ → ℕ → Slot
edge_slot target weight first recent = record { target = target; stamp = edge_stamp weight first recent }

abbrev pub is_free_slot : Option Slot → Bool
is_free_slot None = true
is_free_slot (Some e) = false

-- the edges of slots, in slot order
abbrev pub edges_in : List (Option Slot) → List Slot
edges_in [] = []
edges_in (None ∷ slots) = edges_in slots
edges_in (Some e ∷ slots) = e ∷ edges_in slots

-- what a slot's edge bears, where it is one to the target
abbrev pub stamp_in_slot : Option Slot → ℕ → Option Stamp
stamp_in_slot None target = None
stamp_in_slot (Some e) target = if target == e.target then Some e.stamp else None

-- whether a slot's edge is one to the target
abbrev pub holds : ℕ → Option Slot → Bool
holds target s = is_some (stamp_in_slot s target)

-- what the edge to a target bears, where there is one
abbrev pub stamp_at : List (Option Slot) → ℕ → Option Stamp
stamp_at slots target = first_some (λ s. stamp_in_slot s target) slots

-- no two slots have edges to one target
abbrev pub AreDistinct : List (Option Slot) → Type 0
AreDistinct slots = NoKeyTwice stamp_in_slot slots

-- an edge written over the slot of its target, or into the lowest free slot
abbrev pub put_slot : Slot → List (Option Slot) → List (Option Slot)
put_slot e slots =
    if list_any (holds e.target) slots then at_first (holds e.target) (λ _. Some e) slots
    else at_first is_free_slot (λ _. Some e) slots

-- whether an edge to the target can be put: the target is there, or a slot is free
abbrev pub has_room_for : ℕ → List (Option Slot) → Bool
has_room_for target slots = list_any (holds target) slots || list_any is_free_slot slots

-- without the edge to the target
abbrev pub take_slot : ℕ → List (Option Slot) → List (Option Slot)
take_slot target slots = at_first (holds target) (λ _. None) slots

-- Expiry

-- slots without the edges that were last touched before a time, how many these are, and whether there is one
abbrev pub slot_since : ℕ → Option Slot → Option Slot
slot_since time None = None
slot_since time (Some e) = if is_before time e.stamp then None else Some e

abbrev pub slots_since : ℕ → List (Option Slot) → List (Option Slot)
slots_since time slots = map (slot_since time) slots

abbrev pub old_in : ℕ → List (Option Slot) → ℕ
old_in time slots = count_by (λ e. is_before time e.stamp) (edges_in slots)

abbrev pub has_before : ℕ → List (Option Slot) → Bool
has_before time slots = list_any (λ e. is_before time e.stamp) (edges_in slots)

-- the target of an edge that was last touched before a time, none where there is no such edge
abbrev pub IsOld : ℕ → List (Option Slot) → Option ℕ → Type 0
IsOld time slots None = old_in time slots ≡ 0
IsOld time slots (Some target) = (s : Stamp) × (stamp_at slots target ≡ Some s) × (is_before time s ≡ true)

-- the target of a slot's edge
abbrev pub slot_target : Option Slot → Option ℕ
slot_target None = None
slot_target (Some e) = Some e.target

-- the targets of slots, each at its place
abbrev pub targets_in : List (Option Slot) → List (Option ℕ)
targets_in slots = map slot_target slots

-- a weight and times in range
abbrev pub IsStamp : Stamp → Type 0
IsStamp stamp = IsWeight stamp.weight × IsTime stamp.first × IsTime stamp.recent

-- the weight and the times of a slot's edge are in range
abbrev pub IsSlot : Option Slot → Type 0
IsSlot None = Unit {0}
IsSlot (Some e) = IsStamp e.stamp

-- a block as callers see it: its number, its source and kind, and its slots
pub record BlockView : Type 0 where
  pub number : ℕ
  pub source : ℕ
  pub kind : ℕ
  pub slots : List (Option Slot)

-- a block without edges: 32 empty slots
abbrev pub empty_block : ℕ → ℕ → ℕ → BlockView
empty_block number source kind = record { number = number; source = source; kind = kind; slots = replicate 32 None }

-- a block with its slots changed
abbrev pub with_slots : BlockView → List (Option Slot) → BlockView
with_slots b slots = record { number = b.number; source = b.source; kind = b.kind; slots = slots }

-- a block has 32 slots, whose edges have different targets, and weights and times in range
pub record IsBlock (b : BlockView) : Type 0 where
  pub places : length b.slots ≡ 32
  pub distinct : AreDistinct b.slots
  pub stamped : All IsSlot b.slots

-- an edge's key and stamp, in a block of this source and kind
abbrev pub entry_in : BlockView → Slot → Key × Stamp
entry_in b e = (record { kind = b.kind; source = b.source; target = e.target }, e.stamp)

-- the edges of a block, in slot order
abbrev pub entries_of : BlockView → List (Key × Stamp)
entries_of b = map (entry_in b) (edges_in b.slots)
