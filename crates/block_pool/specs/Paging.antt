-- Lists whose elements take memory a page at a time.
use Rattle.std.specs.declared.{vec.Vec.Vec, alloc.Global.Global}
use Rattle.std.specs.{Prelude.{◌<◌, ◌/◌, ◌%◌, ℕ, List, [], map, length, slice_index_or}, List.range_with_len}

-- a list, and of each page for how many elements there is memory
pub record Paged (A : Type 0) : Type 0 where
  pub items : List A
  pub rooms : List ℕ

-- there is memory for the element at that place
abbrev pub HasRoom : List ℕ → ℕ → Type 0
HasRoom rooms place = place % 4096 < slice_index_or rooms (place / 4096) 0

-- so many elements, which are what a function gives for their places
abbrev pub by_place : {A : Type 0} → (ℕ → A) → ℕ → List A
by_place f count = map f (range_with_len 0 count)

-- the element at a place: what its page has there, and a blank one where it has nothing
abbrev pub item_in_pages : {A : Type 0} → (ℕ → A) → List (List A) → ℕ → A
item_in_pages blank pages place = slice_index_or (slice_index_or pages (place / 4096) []) (place % 4096) (blank place)

abbrev pub items_of : {A : Type 0} → Vec A Global → List A
items_of page = page.items

-- what such pages show as a list of so many elements
abbrev pub paged : {A : Type 0} → (ℕ → A) → List (List A) → ℕ → Paged A
paged blank pages count = record { items = by_place (item_in_pages blank pages) count; rooms = map length pages }
