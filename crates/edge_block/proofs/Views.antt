-- The edges of a view, one after another.
use Rattle.std.proofs.Common.{◌≡◌, ℕ, suc, ◌+◌, ◌*◌, ◌%◌, ◌^◌, ◌<◌, ◌≤◌, ℤ, Bool, true, false, List, [], ◌∷◌, length}
use Rattle.std.proofs.Common.{get_or, map, refl, sym, ap, ◌∙◌, arith, cond}
use Rattle.std.proofs.lemmas.Grind.{common_steps}
use Rattle.std.proofs.lemmas.Nat.Bits.{bit_at-zero, bit_at-lt, bit_at_and, bit_at-trailing_zeros, bit_at_clear_same}
use Rattle.std.proofs.lemmas.{Nat.Bits.bit_at_clear_other, List.length-map, List.Sums.length-filter, List.Sums.count_by-le-length}
use Rattle.std.specs.{Prelude.{◌==◌, if◌then◌else◌, filter, ◌↔◌}, Int.{bit_at, w32, bit_not}}
use Rattle.std.specs.{Int.{trailing_zeros, RustNames.bit_and}, declared.option.Option.{Option, TheVariants.{None, Some}}}
use Rattle.graph_types.specs.{Graph.Key, Graph.Stamp, View.in_view, View.takes_kind, declared.ids.Filter.Filter}
use Rattle.lane_scan.specs.Masks.{InMask, IsPlaceWithin, selected_from, selected}
use Rattle.lane_scan.proofs.{MaskPlaces.{lives_or_not, in_window}, Selected.{selected_none, selected_next}}
use Rattle.edge_block.specs.{Slots.{Slot, BlockView, edges_in, entry_in, entries_of}, Columns.{slots_of, column_slot}}
use Rattle.edge_block.{specs.Lending.{LentEdge, lent_of, lent_in}, proofs.Places.{length-slots_of, slot_live, slot_dead}}
use Rattle.edge_block.proofs.Selections.{edges_filtered, edges_few}

-- masks that agree at the slots with an edge
edges_after : (b b' : Bool) (s : Option Slot) (xs ys : List (Option Slot)) → ((e : Slot) → s ≡ Some e → b ≡ b')
    → edges_in xs ≡ edges_in ys →
    edges_in (if b then s ∷ xs else xs) ≡ edges_in (if b' then s ∷ ys else ys)
edges_after h0 h1 h2 xs ys same rest = grind (arith, common_steps)

edges_agree : (mask mask' place : ℕ) (slots : List (Option Slot)) →
    ((k n : ℕ) (e : Slot) → k < length slots → place + k ≡ n → get_or slots k None ≡ Some e → bit_at mask n ≡ bit_at mask' n) →
    edges_in (selected_from mask place slots) ≡ edges_in (selected_from mask' place slots)
edges_agree mask mask' place [] same = refl
edges_agree mask mask' place (s ∷ slots) same =
    edges_after (bit_at mask place == 1) (bit_at mask' place == 1) s (selected_from mask (place + 1) slots)
    (selected_from mask' (place + 1) slots)
    (λ e is. ap (λ bit. bit == 1) (same 0 place e (omega arith) (omega arith) is))
    (edges_agree mask mask' (place + 1) slots (λ k n e within at is. same (suc k) n e (omega arith) (omega arith) is))

-- a slot with an edge is that of a live place
edge_lives : (live : ℕ) (ts : List ℕ) (ws : List ℤ) (fs rs : List ℕ) (i : ℕ) (e : Slot) → i < 32
    → get_or (slots_of live ts ws fs rs) i None ≡ Some e →
    InMask live i × (e ≡ column_slot ts ws fs rs i)
edge_lives live ts ws fs rs i e few is = grind (arith, common_steps, lives_or_not, slot_live, slot_dead)

-- of the places in a mask the live ones alone count
pub edges_due : (mask live : ℕ) (ts : List ℕ) (ws : List ℤ) (fs rs : List ℕ) →
    edges_in (selected mask (slots_of live ts ws fs rs)) ≡ edges_in (selected (bit_and mask live) (slots_of live ts ws fs rs))
edges_due mask live ts ws fs rs =
    edges_agree mask (bit_and mask live) 0 (slots_of live ts ws fs rs)
    (λ k n e within at is.
    let lives = edge_lives live ts ws fs rs k e (omega (arith, length-slots_of live ts ws fs rs)) is in
    let same : k ≡ n = omega arith in
    let set : bit_at live n ≡ 1 = rw same at lives.0 in
    omega (arith, bit_at_and mask live n, bit_at-lt mask n))

-- no place is due
pub edges_none : (mask live : ℕ) (ts : List ℕ) (ws : List ℤ) (fs rs : List ℕ) → bit_and mask live ≡ 0
    → edges_in (selected mask (slots_of live ts ws fs rs)) ≡ []
edges_none mask live ts ws fs rs none = edges_due mask live ts ws fs rs
    ∙ rw none (ap edges_in (selected_none 0 (slots_of live ts ws fs rs)))

-- the edge at the lowest place that is due, and those that are left
pub edges_next : (mask live : ℕ) (ts : List ℕ) (ws : List ℤ) (fs rs : List ℕ) (i : ℕ) (e : Slot) → bit_and mask live < 2 ^ 32
    → 0 < bit_and mask live →
    i ≡ trailing_zeros w32 (bit_and mask live) → get_or (slots_of live ts ws fs rs) i None ≡ Some e →
    edges_in (selected mask (slots_of live ts ws fs rs))
    ≡ e ∷ edges_in (selected (bit_and (bit_and mask live) (bit_not w32 (1 * 2 ^ i % 2 ^ 32))) (slots_of live ts ws fs rs))
edges_next mask live ts ws fs rs i e fits some at is =
    let low : (i < 32) × (bit_at (bit_and mask live) i ≡ 1) × ((k : ℕ) → k < i → bit_at (bit_and mask live) k ≡ 0) =
    rw at (bit_at-trailing_zeros w32 (bit_and mask live) some fits) in
    edges_due mask live ts ws fs rs
    ∙ ap edges_in (selected_next (bit_and mask live) (bit_and (bit_and mask live) (bit_not w32 (1 * 2 ^ i % 2 ^ 32))) 0
    (slots_of live ts ws fs rs) i i None
    (omega (arith, length-slots_of live ts ws fs rs)) (omega arith) low.1
    (λ k below set. omega (arith, low.2 k below))
    (λ set. omega (arith, bit_at_clear_same w32 (bit_and mask live) i low.0))
    (λ k m within here ne. sym (bit_at_clear_other w32 (bit_and mask live) i low.0 m
    (omega (arith, length-slots_of live ts ws fs rs)) ne)))
    ∙ ap
    (λ s. edges_in (s ∷ selected (bit_and (bit_and mask live) (bit_not w32 (1 * 2 ^ i % 2 ^ 32))) (slots_of live ts ws fs rs))) is

-- the view's edges as entries and as lent edges
lent_one : (b : BlockView) (e : Slot) (passes : Bool) (es : List Slot) (entries : List (Key × Stamp))
    → map (lent_in b) es ≡ map lent_of entries →
    map (lent_in b) (cond passes (e ∷ es) es) ≡ map lent_of (cond passes (entry_in b e ∷ entries) entries)
lent_one b e h2 es entries rest = grind (arith, common_steps)

lent_view : (b : BlockView) (f : Filter) (es : List Slot) →
    map (lent_in b) (filter (λ e. in_view f (entry_in b e)) es) ≡ map lent_of (filter (in_view f) (map (entry_in b) es))
lent_view b f [] = refl
lent_view b f (e ∷ es) =
    lent_one b e (in_view f (entry_in b e)) (filter (λ x. in_view f (entry_in b x)) es) (filter (in_view f) (map (entry_in b) es))
    (lent_view b f es)

-- a view lends no more edges than there are slots
pub lent_few : (b : BlockView) (f : Filter) → length b.slots ≡ 32 → length (map lent_of (filter (in_view f) (entries_of b))) ≤ 32
lent_few b f places = grind (arith, common_steps, edges_few, length-map, length-filter, count_by-le-length)

-- what is lent by the mask of a window, of a kind that the filter takes
pub lent_within : (number source kind live : ℕ) (ts : List ℕ) (ws : List ℤ) (fs rs : List ℕ) (f : Filter) (mask : ℕ)
    → length rs ≡ 32 → takes_kind f.kind kind ≡ true →
    ((place : ℕ) → (InMask mask place ↔ IsPlaceWithin rs live f.lo f.hi place)) →
    (let b : BlockView = record { number = number; source = source; kind = kind; slots = slots_of live ts ws fs rs } in
    map (lent_in b) (edges_in (selected mask b.slots)) ≡ map lent_of (filter (in_view f) (entries_of b)))
lent_within number source kind live ts ws fs rs f mask long takes says =
    let b : BlockView = record { number = number; source = source; kind = kind; slots = slots_of live ts ws fs rs } in
    ap (map (lent_in b)) (edges_filtered (λ e. in_view f (entry_in b e)) mask 0 b.slots
    (λ k n e within at is.
    let few : k < 32 = omega (arith, length-slots_of live ts ws fs rs) in
    let lives = edge_lives live ts ws fs rs k e few is in
    let same : k ≡ n = omega arith in
    let lives' = rw same at lives in
    rw takes (in_window mask live f.lo f.hi n e.stamp.recent rs (says n) (omega arith) lives'.0
    (ap (λ x. x.stamp.recent) lives'.1))))
    ∙ lent_view b f (edges_in b.slots)

-- nothing is lent of a kind that the filter does not take
pub lent_none : (number source kind live : ℕ) (ts : List ℕ) (ws : List ℤ) (fs rs : List ℕ) (f : Filter)
    → takes_kind f.kind kind ≡ false →
    (let b : BlockView = record { number = number; source = source; kind = kind; slots = slots_of live ts ws fs rs } in
    map (lent_in b) (edges_in (selected 0 b.slots)) ≡ map lent_of (filter (in_view f) (entries_of b)))
lent_none number source kind live ts ws fs rs f takes =
    let b : BlockView = record { number = number; source = source; kind = kind; slots = slots_of live ts ws fs rs } in
    ap (map (lent_in b)) (edges_filtered (λ e. in_view f (entry_in b e)) 0 0 b.slots
    (λ k n e within at is. rw (takes, bit_at-zero n)))
    ∙ lent_view b f (edges_in b.slots)

-- the first edge lent, and the rest
pub lent_next : (b : BlockView) (kind : ℕ) (e : Slot) (xs ys : List Slot) → kind ≡ b.kind → xs ≡ e ∷ ys →
    map (lent_in b) xs ≡ (let first : LentEdge = record { kind = kind; target = e.target; stamp = e.stamp } in first)
    ∷ map (lent_in b) ys
lent_next b kind e xs ys k h = rw (k, h) refl
