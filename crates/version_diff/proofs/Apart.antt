-- Edges of a row: no two have one kind and one target.
use Rattle.std.proofs.Common.{◌≡◌, ℕ, ◌==◌, List, [], ◌∷◌, ◌++◌, map, cond, Bool, true, false, Option, None, Some}
use Rattle.std.proofs.Common.{refl, sym, ap, ◌∙◌, arith, inl, inr}
use Rattle.std.proofs.lemmas.{Grind.common_steps, Bool.{false≢true, eq-eqb, Decides.eqb_tells}, List.Elements.{All-head, All-tail}}
use Rattle.std.specs.{Prelude.filter, Option.{option_or, is_some}}
use Rattle.graph_types.specs.{Graph.{Key, Stamp}, View.in_view, declared.ids.Filter.Filter}
use Rattle.edge_block.specs.{Slots.{BlockView, Slot, AreDistinct, entry_in, edges_in, stamp_at, stamp_in_slot}, Lending.{LentEdge, lent_of}}
use Rattle.edge_block.specs.Rows.{Shape, shape_of, block_at, row_at, IsRow}
use Rattle.graph_version.specs.{Rows.row_of, Versions.{VersionView, IsVersion}}
use Rattle.version_diff.specs.Differences.{seen_in_block, seen_in, seen_from, is_to, edge_to, AreApart}
use Rattle.version_diff.proofs.Seen.{seen_slots, absent_slots, absent, other_kind, edge_to-append}

-- an edge is one of its own kind to its own target
pub is_own : (e : LentEdge) → is_to e.kind e.target e ≡ true
is_own e = grind (arith, common_steps, eq-eqb)

some_more : (is : Bool) (x : LentEdge) (o : Option LentEdge) → is_some o ≡ true → is_some (cond is (Some x) o) ≡ true
some_more true x o some = refl
some_more false x o some = some

-- edges before others that have none of their kinds and targets
apart-append : (xs ys : List LentEdge) → AreApart xs → AreApart ys
    → ((kind target : ℕ) → is_some (edge_to xs kind target) ≡ true → edge_to ys kind target ≡ None) → AreApart (xs ++ ys)
apart-append [] ys left right between = right
apart-append (x ∷ xs) ys left right between =
    let here : is_some (edge_to (x ∷ xs) x.kind x.target) ≡ true = rw (is_own x) refl in (
      edge_to-append xs ys x.kind x.target
          ∙ ap (λ o. option_or o (edge_to ys x.kind x.target)) left.0 ∙ between x.kind x.target here,
      apart-append xs ys left.1 right
          (λ kind target some. between kind target (some_more (is_to kind target x) x (edge_to xs kind target) some)),
    )

let_through : (seen : Bool) (x : Key × Stamp) (rest : List (Key × Stamp))
    → edge_to (map lent_of rest) x.0.kind x.0.target ≡ None → AreApart (map lent_of rest)
    → AreApart (map lent_of (cond seen (x ∷ rest) rest))
let_through true x rest none apart = (none, apart)
let_through false x rest none apart = apart

apart_slots : (f : Filter) (b : BlockView) (slots : List (Option Slot)) → AreDistinct slots → AreApart (seen_slots f b slots)
apart_slots f b [] distinct = tt
apart_slots f b (None ∷ slots) distinct = apart_slots f b slots distinct.1
apart_slots f b (Some e ∷ slots) distinct =
    let tested : (e.target == e.target) ≡ true = eq-eqb e.target e.target refl in
    let found : is_some (stamp_in_slot (Some e) e.target) ≡ true = rw tested refl in
    let_through (in_view f (entry_in b e)) (entry_in b e) (filter (in_view f) (map (entry_in b) (edges_in slots)))
    (absent_slots f b b.kind e.target slots (distinct.0 e.target found)) (apart_slots f b slots distinct.1)

-- a block has no edge where its shape has none
absent_block : (f : Filter) (b : BlockView) (kind target : ℕ) → block_at (shape_of b) (kind, target) ≡ None
    → edge_to (seen_in_block f b) kind target ≡ None
absent_block f b kind target none = elim (eqb_tells kind b.kind) [
  | inl same ↦ let here : cond true (stamp_at b.slots target) None ≡ None = rw same.0 at none in absent f b kind target here
  | inr differs ↦ other_kind f b kind target (other differs.0)
] where
  other : (kind == b.kind) ≡ false → (b.kind == kind) ≡ false
  other apart = grind (arith, common_steps)

first_none : (x y : Option Stamp) → option_or x y ≡ None → x ≡ None
first_none None y none = refl
first_none (Some x) y none = none

second_none : (x y : Option Stamp) → option_or x y ≡ None → y ≡ None
second_none None y none = none
second_none (Some x) y none = absurd (cc)

absent_row : (f : Filter) (row : List BlockView) (kind target : ℕ) → row_at (map shape_of row) (kind, target) ≡ None
    → edge_to (seen_in f row) kind target ≡ None
absent_row f [] kind target none = refl
absent_row f (b ∷ row) kind target none =
    let here = block_at (shape_of b) (kind, target) in
    let later = row_at (map shape_of row) (kind, target) in
    edge_to-append (seen_in_block f b) (seen_in f row) kind target
    ∙ ap (λ o. option_or o (edge_to (seen_in f row) kind target)) (absent_block f b kind target (first_none here later none))
    ∙ absent_row f row kind target (second_none here later none)

-- where a block lends an edge, its shape has one
there : (f : Filter) (b : BlockView) (kind target : ℕ) → is_some (edge_to (seen_in_block f b) kind target) ≡ true
    → is_some (block_at (shape_of b) (kind, target)) ≡ true
there f b kind target some = cases (block_at (shape_of b) (kind, target)) (absent_block f b kind target)
  where
    cases : (o : Option Stamp) → (o ≡ None → edge_to (seen_in_block f b) kind target ≡ None) → is_some o ≡ true
    cases None none = absurd (false≢true (sym (ap is_some (none refl)) ∙ some))
    cases (Some s) none = refl

-- the edges of a row of which no two slots have edges of one kind to one target
pub apart_row : (f : Filter) (row : List BlockView) → IsRow (map shape_of row) → AreApart (seen_in f row)
apart_row f [] is = tt
apart_row f (b ∷ row) is =
    let shapes : List Shape = map shape_of row in
    apart-append (seen_in_block f b) (seen_in f row)
    (apart_slots f b b.slots (All-head (λ (x : Shape). AreDistinct x.slots) (shape_of b) shapes is.within))
    (apart_row f row (record { within = All-tail (λ (x : Shape). AreDistinct x.slots) (shape_of b) shapes is.within; between = is.between.1 }))
    (λ kind target some. absent_row f row kind target (is.between.0 (kind, target) (there f b kind target some)))

-- those of a version's row
pub apart_from : (f : Filter) (v : VersionView) (source : ℕ) → IsVersion v → AreApart (seen_from f v source)
apart_from f v source is = apart_row f (row_of v.rows source) (is.rows.layout.distinct source)
