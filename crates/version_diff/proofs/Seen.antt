-- The edges of blocks that a filter lets through, and which of them is one of a kind to a target.
use Rattle.std.proofs.Common.{◌≡◌, ℕ, ◌+◌, ◌<◌, ◌==◌, List, [], ◌∷◌, ◌++◌, map, length, get_or, drop, cond, Bool, true, false}
use Rattle.std.proofs.Common.{Option, None, Some, refl, sym, ap, ◌∙◌, arith, add-one}
use Rattle.std.proofs.Common.{inl, inr}
use Rattle.std.proofs.{Math.Seq.drop-cons, lemmas.{Grind.common_steps, Bool.{eq-eqb, Decides.eqb_tells}}}
use Rattle.std.specs.{Prelude.{filter, if◌then◌else◌}, declared.{sync.Arc.Arc, alloc.Global.Global}, Option.{option_or, is_some}}
use Rattle.graph_types.specs.{Graph.{Key, Stamp}, View.in_view, declared.ids.Filter.Filter}
use Rattle.edge_block.specs.{Slots.{AreDistinct, BlockView, IsBlock, Slot, entry_in, edges_in, stamp_at, stamp_in_slot}, Lending.{LentEdge, lent_of}, declared.blocks.Block.Block}
use Rattle.graph_version.specs.Sharing.{block_value, block_values}
use Rattle.version_diff.specs.Differences.{seen_in_block, seen_in, is_to, edge_to, sees}

-- an entry that isn't one of the kind to the target changes nothing, be it let through or not
passed : (seen : Bool) (x : Key × Stamp) (rest : List (Key × Stamp)) (kind target : ℕ) → is_to kind target (lent_of x) ≡ false
    → edge_to (map lent_of (cond seen (x ∷ rest) rest)) kind target ≡ edge_to (map lent_of rest) kind target
passed true x rest kind target apart = rw apart refl
passed false x rest kind target apart = refl

abbrev pub seen_slots : Filter → BlockView → List (Option Slot) → List LentEdge
seen_slots f b slots = map lent_of (filter (in_view f) (map (entry_in b) (edges_in slots)))

other_kind_slots : (f : Filter) (b : BlockView) (kind target : ℕ) (slots : List (Option Slot)) → (b.kind == kind) ≡ false
    → edge_to (seen_slots f b slots) kind target ≡ None
other_kind_slots f b kind target [] other = refl
other_kind_slots f b kind target (None ∷ slots) other = other_kind_slots f b kind target slots other
other_kind_slots f b kind target (Some e ∷ slots) other =
    passed (in_view f (entry_in b e)) (entry_in b e) (filter (in_view f) (map (entry_in b) (edges_in slots))) kind target (rw other refl)
    ∙ other_kind_slots f b kind target slots other

-- a block of another kind has none
pub other_kind : (f : Filter) (b : BlockView) (kind target : ℕ) → (b.kind == kind) ≡ false
    → edge_to (seen_in_block f b) kind target ≡ None
other_kind f b kind target other = other_kind_slots f b kind target b.slots other

not_to : (kind target : ℕ) (b : BlockView) (e : Slot) (rest : Option Stamp)
    → option_or (cond (target == e.target) (Some e.stamp) None) rest ≡ None → is_to kind target (lent_of (entry_in b e)) ≡ false
not_to kind target b e rest none = grind (arith, common_steps)

rest_none : (target : ℕ) (e : Slot) (rest : Option Stamp)
    → option_or (cond (target == e.target) (Some e.stamp) None) rest ≡ None → rest ≡ None
rest_none target e rest none = grind (arith, common_steps)

pub absent_slots : (f : Filter) (b : BlockView) (kind target : ℕ) (slots : List (Option Slot)) → stamp_at slots target ≡ None
    → edge_to (seen_slots f b slots) kind target ≡ None
absent_slots f b kind target [] none = refl
absent_slots f b kind target (None ∷ slots) none = absent_slots f b kind target slots none
absent_slots f b kind target (Some e ∷ slots) none =
    passed (in_view f (entry_in b e)) (entry_in b e) (filter (in_view f) (map (entry_in b) (edges_in slots))) kind target
    (not_to kind target b e (stamp_at slots target) none)
    ∙ absent_slots f b kind target slots (rest_none target e (stamp_at slots target) none)

-- nor has one with no edge to the target
pub absent : (f : Filter) (b : BlockView) (kind target : ℕ) → stamp_at b.slots target ≡ None
    → edge_to (seen_in_block f b) kind target ≡ None
absent f b kind target none = absent_slots f b kind target b.slots none

-- one that has the edge shows it, where the filter lets it through

first_seen : (seen : Bool) (x : Key × Stamp) (rest : List (Key × Stamp)) (kind target : ℕ) → is_to kind target (lent_of x) ≡ true
    → edge_to (map lent_of rest) kind target ≡ None
    → edge_to (map lent_of (cond seen (x ∷ rest) rest)) kind target ≡ (if seen then Some (lent_of x) else None)
first_seen true x rest kind target is none = rw is refl
first_seen false x rest kind target is none = none

-- an edge of a block's kind
abbrev pub edge_from : BlockView → ℕ → Stamp → LentEdge
edge_from b target stamp = record { kind = b.kind; target = target; stamp = stamp }

shown_here : (f : Filter) (b : BlockView) (e : Slot) (target : ℕ) (slots : List (Option Slot)) → target ≡ e.target
    → stamp_at slots target ≡ None
    → edge_to (seen_slots f b (Some e ∷ slots)) b.kind target
    ≡ (if sees f (edge_from b target e.stamp) then Some (edge_from b target e.stamp) else None)
shown_here f b e target slots same none =
    let kind : (b.kind == b.kind) ≡ true = eq-eqb b.kind b.kind refl in
    let to : (e.target == target) ≡ true = eq-eqb e.target target (sym same) in
    let is : is_to b.kind target (lent_of (entry_in b e)) ≡ true = rw (kind, to) refl in
    first_seen (in_view f (entry_in b e)) (entry_in b e) (filter (in_view f) (map (entry_in b) (edges_in slots))) b.kind target is
    (absent_slots f b b.kind target slots none)
    ∙ ap (λ t. if in_view f (entry_in b e) then Some (edge_from b t e.stamp) else None) (sym same)

not_here : (b : BlockView) (e : Slot) (target : ℕ) → (target == e.target) ≡ false → is_to b.kind target (lent_of (entry_in b e)) ≡ false
not_here b e target other = grind (arith, common_steps)

same_stamp : (e s : Stamp) → Some e ≡ Some s → e ≡ s
same_stamp e s same = cc

shown_slots : (f : Filter) (b : BlockView) (target : ℕ) (stamp : Stamp) (slots : List (Option Slot)) → AreDistinct slots
    → stamp_at slots target ≡ Some stamp
    → edge_to (seen_slots f b slots) b.kind target
    ≡ (if sees f (edge_from b target stamp) then Some (edge_from b target stamp) else None)
shown_slots f b target stamp [] distinct at = absurd (cc)
shown_slots f b target stamp (None ∷ slots) distinct at = shown_slots f b target stamp slots distinct.1 at
shown_slots f b target stamp (Some e ∷ slots) distinct at = elim (eqb_tells target e.target) [
  | inl same ↦
      (let here : Some e.stamp ≡ Some stamp = rw same.0 at at in
      let some : is_some (stamp_in_slot (Some e) target) ≡ true = rw same.0 refl in
      shown_here f b e target slots same.1 (distinct.0 target some)
      ∙ ap (λ st. if sees f (edge_from b target st) then Some (edge_from b target st) else None) (same_stamp e.stamp stamp here))
  | inr differs ↦
      (let there : stamp_at slots target ≡ Some stamp = rw differs.0 at at in
      passed (in_view f (entry_in b e)) (entry_in b e) (filter (in_view f) (map (entry_in b) (edges_in slots))) b.kind target
      (not_here b e target differs.0)
      ∙ shown_slots f b target stamp slots distinct.1 there)
]

pub shown_to : (f : Filter) (b : BlockView) (target : ℕ) (edge : LentEdge) → IsBlock b → edge.kind ≡ b.kind → edge.target ≡ target
    → stamp_at b.slots target ≡ Some edge.stamp
    → edge_to (seen_in_block f b) b.kind target ≡ (if sees f edge then Some edge else None)
shown_to f b target edge is kind to at =
    let same : edge_from b target edge.stamp ≡ edge = λ i. record { kind = sym kind i; target = sym to i; stamp = edge.stamp } in
    shown_slots f b target edge.stamp b.slots is.distinct at ∙ ap (λ (e : LentEdge). if sees f e then Some e else None) same

-- of edges before others
pub edge_to-append : (xs ys : List LentEdge) (kind target : ℕ)
    → edge_to (xs ++ ys) kind target ≡ option_or (edge_to xs kind target) (edge_to ys kind target)
edge_to-append [] ys kind target = refl
edge_to-append (x ∷ xs) ys kind target = step (is_to kind target x) (edge_to-append xs ys kind target)
  where
    step : (is : Bool) → edge_to (xs ++ ys) kind target ≡ option_or (edge_to xs kind target) (edge_to ys kind target)
        → cond is (Some x) (edge_to (xs ++ ys) kind target)
        ≡ option_or (cond is (Some x) (edge_to xs kind target)) (edge_to ys kind target)
    step true same = refl
    step false same = same

-- the blocks that are left begin with the next one
pub next_seen : (f : Filter) (blocks : List (Arc Block Global)) (i : ℕ) (d : Arc Block Global) → i < length blocks
    → seen_in f (block_values (drop i blocks)) ≡ seen_in_block f (block_value (get_or blocks i d))
    ++ seen_in f (block_values (drop (i + 1) blocks))
next_seen f blocks i d within =
    ap (λ (bs : List (Arc Block Global)). seen_in f (block_values bs)) (drop-cons blocks i d within)
    ∙ ap (λ n. seen_in_block f (block_value (get_or blocks i d)) ++ seen_in f (block_values (drop n blocks))) (sym (add-one i))
