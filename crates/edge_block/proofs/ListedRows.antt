-- Rows that have a map's edges by look-up list each of them once, and so as many old ones as the map has.
use Rattle.std.proofs.Common.{◌≡◌, ◌⊎◌, inl, inr, ℕ, zero, suc, ◌+◌, ◌<◌, ◌≤◌, ◌==◌, true, cond, List, []}
use Rattle.std.proofs.Common.{◌∷◌, ◌++◌, map, refl, sym, ap, ◌∙◌, subst, arith, All, Option, None, Some}
use Rattle.std.proofs.lemmas.Bool.{eq-eqb, Decides.{eqb_tells, leb_tells}}
use Rattle.std.proofs.lemmas.List.{Elements.{All-head, All-tail}, Sums.{sum_by-cons, sum_by-append}}
use Rattle.std.specs.{Prelude.count_by, List.{sum_by, range_with_len}, Option.{is_some, option_or}}
use Rattle.std.specs.FinMap.{FinMap, get, same_map, get-empty}
use Rattle.std.proofs.lemmas.Grind.{common_steps}
use Rattle.graph_types.specs.{Graph.{Key, Stamp, key_cmp, key_of, map_of}, Step.{is_before, was_before, count_before}}
use Rattle.graph_types.{specs.declared.ids.Edge.Edge, proofs.Keys.{keys_total, exact_keys, HasKeysOnce}}
use Rattle.graph_types.proofs.{Keys.{once_none, once_cons, get_cons}, Expiry.count_before-map_of}
use Rattle.graph_types.proofs.{Cases.{option_or_none, none_by_test}, EdgeMaps.not_there}
use Rattle.graph_types.proofs.PickedStamps.{nothing, pick, none_here, join, more_some, later_some, apart_here, stands, tied}
use Rattle.graph_types.proofs.Sums.{sum_map}
use Rattle.graph_types.proofs.PickedStamps.{tests_of_key, stands_at_itself, source_if, one_if}
use Rattle.edge_block.specs.{Slots.{Slot, stamp_in_slot, stamp_at, edges_in, old_in, AreDistinct, NoKeyTwice}, Rows.{Shape, OpenBlock}}
use Rattle.edge_block.specs.{Rows.{block_at, row_at, row_entries, shapes, old_in_row, IsRow}, Batches.IsLayoutOf}
use Rattle.edge_block.specs.Listed.{edge_from, edges_in_row, edges_in_rows, edges_below, AreListedOnce}

-- Look-up

-- what slots of this kind have at a key
abbrev in_slots : ℕ → List (Option Slot) → Key → Option Stamp
in_slots kind slots k = cond (k.kind == kind) (stamp_at slots k.target) None

abbrev pub in_row : List Shape → Key → Option Stamp
in_row row k = row_at row (k.kind, k.target)

abbrev pub slot_entry : ℕ → ℕ → Slot → Key × Stamp
slot_entry source kind e = (record { kind = kind; source = source; target = e.target }, e.stamp)

abbrev slot_edges : ℕ → ℕ → List (Option Slot) → List Edge
slot_edges source kind slots = map edge_from (map (slot_entry source kind) (edges_in slots))

-- the map of some slots' edges and more
get_slots : (source kind : ℕ) (slots : List (Option Slot)) (rest : List Edge) (k : Key)
    → get (map_of (slot_edges source kind slots ++ rest)) k
    ≡ option_or (stands source k.source (in_slots kind slots k)) (get (map_of rest) k)
get_slots source kind [] rest k = nothing (k.source == source) (k.kind == kind) (get (map_of rest) k)
get_slots source kind (None ∷ slots) rest k = get_slots source kind slots rest k
get_slots source kind (Some e ∷ slots) rest k =
    let edge : Edge = edge_from (slot_entry source kind e) in
    let others : List Edge = slot_edges source kind slots ++ rest in
    get_cons edge others k
    ∙ ap (λ t. cond t (Some e.stamp) (get (map_of others) k)) (tied k (key_of edge))
    ∙ ap (cond (tests_of_key k (key_of edge) (k.source == source)) (Some e.stamp)) (get_slots source kind slots rest k)
    ∙ pick (k.kind == kind) (k.source == source) (k.target == e.target) e.stamp (stamp_at slots k.target) (get (map_of rest) k)

-- a row's edges are those of its first block's slots, and the others
block_first : (source : ℕ) (b : Shape) (row : List Shape) (rest : List Edge)
    → edges_in_row source (b ∷ row) ++ rest ≡ slot_edges source b.kind b.slots ++ (edges_in_row source row ++ rest)
block_first source b row rest = grind (arith, common_steps)

-- the map of a row's edges and more
get_row : (source : ℕ) (row : List Shape) (rest : List Edge) (k : Key)
    → get (map_of (edges_in_row source row ++ rest)) k ≡ option_or (stands source k.source (in_row row k)) (get (map_of rest) k)
get_row source [] rest k = none_here (k.source == source) (get (map_of rest) k)
get_row source (b ∷ row) rest k =
    ap (λ es. get (map_of es) k) (block_first source b row rest)
    ∙ get_slots source b.kind b.slots (edges_in_row source row ++ rest) k
    ∙ ap (option_or (stands source k.source (in_slots b.kind b.slots k))) (get_row source row rest k)
    ∙ join (k.source == source) (in_slots b.kind b.slots k) (in_row row k) (get (map_of rest) k)

module _ (layout : ℕ → List Shape) where
  -- a source that is none of the rows' has nothing
  rows_out : (first count : ℕ) (k : Key) → (k.source < first) ⊎ (first + count ≤ k.source)
      → get (map_of (edges_in_rows first count layout)) k ≡ None
  rows_out first zero k out = get-empty key_cmp k
  rows_out first (suc count) k out =
      let rest : List Edge = edges_in_rows (first + 1) count layout in
      get_row first (layout first) rest k ∙ elim (eqb_tells k.source first) [
        | inl e ↦ absurd (here e.1 out)
        | inr e ↦ ap (λ t. option_or (cond t (in_row (layout first) k) None) (get (map_of rest) k)) e.0
            ∙ rows_out (first + 1) count k (further out)
      ] where
        here : k.source ≡ first → (k.source < first) ⊎ (first + suc count ≤ k.source) → ⊥
        here same (inl lt) = omega arith
        here same (inr past) = omega arith

        further : (k.source < first) ⊎ (first + suc count ≤ k.source) → (k.source < first + 1) ⊎ (first + 1 + count ≤ k.source)
        further (inl lt) = inl (omega arith)
        further (inr past) = inr (omega arith)

  -- one of the rows' has what stands in its row
  rows_in : (first count : ℕ) (k : Key) → first ≤ k.source → k.source < first + count
      → get (map_of (edges_in_rows first count layout)) k ≡ in_row (layout k.source) k
  rows_in first zero k from to = absurd (omega arith)
  rows_in first (suc count) k from to =
      let rest : List Edge = edges_in_rows (first + 1) count layout in
      get_row first (layout first) rest k ∙ elim (eqb_tells k.source first) [
        | inl e ↦
            ap (λ t. option_or (cond t (in_row (layout first) k) None) (get (map_of rest) k)) e.0
            ∙ ap (option_or (in_row (layout first) k)) (rows_out (first + 1) count k (inl (let same = e.1 in omega arith)))
            ∙ option_or_none (in_row (layout first) k) ∙ ap (λ s. in_row (layout s) k) (sym e.1)
        | inr e ↦
            ap (λ t. option_or (cond t (in_row (layout first) k) None) (get (map_of rest) k)) e.0
            ∙ rows_in (first + 1) count k (let apart = e.1 in omega arith) (omega arith)
      ]

-- Each key once

-- slots with different targets, before edges that have none of their keys
once_slots : (source kind : ℕ) (slots : List (Option Slot)) (rest : List Edge) → AreDistinct slots → HasKeysOnce rest
    → ((k : Key) → is_some (stands source k.source (in_slots kind slots k)) ≡ true → get (map_of rest) k ≡ None)
    → HasKeysOnce (slot_edges source kind slots ++ rest)
once_slots source kind [] rest distinct once apart = once
once_slots source kind (None ∷ slots) rest distinct once apart = once_slots source kind slots rest distinct.1 once apart
once_slots source kind (Some e ∷ slots) rest distinct once apart =
    let edge : Edge = edge_from (slot_entry source kind e) in
    let key : Key = key_of edge in
    let tested : (e.target == e.target) ≡ true = eq-eqb e.target e.target refl in
    let found : stamp_in_slot (Some e) e.target ≡ Some e.stamp = rw tested refl in
    let unique : stamp_at slots e.target ≡ None = distinct.0 e.target (ap is_some found) in
    let here : stands source key.source (in_slots kind (Some e ∷ slots) key) ≡ Some e.stamp =
    stands_at_itself source kind (stamp_at (Some e ∷ slots) e.target) ∙ ap (λ o. option_or o (stamp_at slots e.target)) found in
    let others : stands source key.source (in_slots kind slots key) ≡ None =
    stands_at_itself source kind (stamp_at slots e.target) ∙ unique in
    let more : get (map_of rest) key ≡ None = apart key (ap is_some here) in
    once_cons edge (slot_edges source kind slots ++ rest)
    (not_there (slot_edges source kind slots ++ rest) key
    (get_slots source kind slots rest key ∙ ap (λ o. option_or o (get (map_of rest) key)) others ∙ more))
    (once_slots source kind slots rest distinct.1 once
    (λ k is. apart k (more_some (k.source == source) (k.kind == kind) (stamp_in_slot (Some e) k.target) (stamp_at slots k.target) is)))

-- a row of which no two slots have edges of one key, before edges that have none of its keys
once_row : (source : ℕ) (row : List Shape) (rest : List Edge) → All (λ b. AreDistinct b.slots) row → NoKeyTwice block_at row
    → HasKeysOnce rest
    → ((k : Key) → is_some (stands source k.source (in_row row k)) ≡ true → get (map_of rest) k ≡ None)
    → HasKeysOnce (edges_in_row source row ++ rest)
once_row source [] rest within between once apart = once
once_row source (b ∷ row) rest within between once apart =
    let all : List Edge = edges_in_row source row ++ rest in
    let tail : HasKeysOnce all =
    once_row source row rest (All-tail (λ (x : Shape). AreDistinct x.slots) b row within) between.1 once
    (λ k is. apart k (later_some (k.source == source) (block_at b (k.kind, k.target)) (in_row row k) is)) in
    subst HasKeysOnce (sym (block_first source b row rest))
    (once_slots source b.kind b.slots all (All-head (λ (x : Shape). AreDistinct x.slots) b row within) tail
    (λ k is. get_row source row rest k
    ∙ apart_here (k.source == source) (block_at b (k.kind, k.target)) (in_row row k) (get (map_of rest) k) is
    (between.0 (k.kind, k.target)) (apart k)))

once_rows : (layout : ℕ → List Shape) (first count : ℕ) → ((source : ℕ) → IsRow (layout source))
    → HasKeysOnce (edges_in_rows first count layout)
once_rows layout first zero rows = once_none
once_rows layout first (suc count) rows =
    once_row first (layout first) (edges_in_rows (first + 1) count layout) (rows first).within (rows first).between
    (once_rows layout (first + 1) count rows)
    (λ k is. let here = source_if first k.source (in_row (layout first) k) is in
    rows_out layout (first + 1) count k (inl (omega arith)))

-- rows that have a map's edges by look-up, all of sources below n, list each of them once
pub listed_once : (layout : ℕ → List Shape) (edges : FinMap key_cmp Stamp) (n : ℕ) → IsLayoutOf layout edges
    → ((k : Key) → is_some (get edges k) ≡ true → k.source < n) → AreListedOnce (edges_below n layout) edges
listed_once layout edges n is below = record {
  once = once_rows layout 0 n is.distinct;
  same = same_map keys_total exact_keys (map_of (edges_below n layout)) edges at;
} where
  at : (k : Key) → get (map_of (edges_below n layout)) k ≡ get edges k
  at k = elim (leb_tells n k.source) [
    | inl past ↦ rows_out layout 0 n k (inr (let le = past.1 in omega arith))
        ∙ sym (none_by_test (get edges k) (λ some. let lt = below k some in let le = past.1 in omega arith))
    | inr lt ↦ rows_in layout 0 n k (omega arith) (let to = lt.1 in omega arith) ∙ is.shows k
  ]

-- Counts

count_entries : (time source : ℕ) (row : List Shape)
    → count_by (λ e. is_before time e.1) (row_entries source row) ≡ sum_by (λ b. old_in time b.slots) row
count_entries time source [] = refl
count_entries time source (b ∷ row) =
    let entry : Slot → Key × Stamp = slot_entry source b.kind in
    sum_by-append (λ (e : Key × Stamp). one_if (is_before time e.1)) (map entry (edges_in b.slots)) (row_entries source row)
    ∙ (λ i. sum_map (λ (e : Key × Stamp). one_if (is_before time e.1)) entry (edges_in b.slots) i
    + count_entries time source row i)
    ∙ sym (sum_by-cons (λ (x : Shape). old_in time x.slots) b row)

count_row : (time source : ℕ) (row : List OpenBlock)
    → count_by (was_before time) (edges_in_row source (shapes row)) ≡ old_in_row time row
count_row time source row =
    sum_map (λ e. one_if (was_before time e)) edge_from (row_entries source (shapes row))
    ∙ count_entries time source (shapes row) ∙ sum_map (λ (x : Shape). old_in time x.slots) (λ (b : OpenBlock). b.shape) row

count_rows : (time first count : ℕ) (rows : ℕ → List OpenBlock)
    → count_by (was_before time) (edges_in_rows first count (λ s. shapes (rows s)))
    ≡ sum_by (λ s. old_in_row time (rows s)) (range_with_len first count)
count_rows time first zero rows = refl
count_rows time first (suc count) rows =
    sum_by-append (λ e. one_if (was_before time e)) (edges_in_row first (shapes (rows first)))
    (edges_in_rows (first + 1) count (λ s. shapes (rows s)))
    ∙ (λ i. count_row time first (rows first) i + count_rows time (first + 1) count rows i)
    ∙ sym (sum_by-cons (λ s. old_in_row time (rows s)) first (range_with_len (first + 1) count))

-- rows that have a map's edges by look-up, all of sources below n, have as many old ones as the map
pub count_shown : (time : ℕ) (edges : FinMap key_cmp Stamp) (rows : ℕ → List OpenBlock) (n : ℕ)
    → IsLayoutOf (λ s. shapes (rows s)) edges → ((k : Key) → is_some (get edges k) ≡ true → k.source < n)
    → sum_by (λ s. old_in_row time (rows s)) (range_with_len 0 n) ≡ count_before time edges
count_shown time edges rows n is below =
    let listed = listed_once (λ s. shapes (rows s)) edges n is below in
    sym (count_rows time 0 n rows)
    ∙ sym (count_before-map_of time (edges_below n (λ s. shapes (rows s))) listed.once)
    ∙ ap (count_before time) listed.same
