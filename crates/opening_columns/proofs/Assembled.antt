-- A version over blocks that were filled with runs of edges.
use Rattle.std.proofs.Common.{◌≡◌, ◌≢◌, ℕ, zero, suc, ◌+◌, ◌-◌, ◌<◌, ◌≤◌, ◌==◌, true, false, cond, List, [], ◌∷◌, ◌++◌, map, length, get_or, filter, replicate, refl, sym, ap, subst, ◌∙◌, arith, All, AllPairs, Option, Some, None, is_some, inl, inr, true≢false}
use Rattle.std.specs.{Prelude.flat_map, List.{list_any, list_all}, Option.option_or, FinMap.{FinMap, get, get-empty}}
use Rattle.std.proofs.lemmas.{Bool.{eq-eqb, Decides.eqb_tells}, List.{append-nil, Elements.{All-head, All-tail, All-cons, All-filter, All-map}, Kept.AllPairs-cons}}
use Rattle.graph_types.specs.{Graph.{Graph, Key, Stamp, key_cmp, key_of, map_of}, declared.ids.Edge.Edge}
use Rattle.graph_types.proofs.{Keys.{HasKeysOnce, get_cons, once_head, once_tail, get_is, find_absent}, PickedStamps.{nothing, pick, stands, stands_at_itself, tests_of_key, tied}, Elements.AllPairs-left}
use Rattle.edge_block.specs.Slots.{BlockView, Slot, edges_in, entry_in, is_free_slot, stamp_at, AreDistinct, NoKeyTwice}
use Rattle.edge_block.{specs.Rows.{Shape, IsRow, shape_of, row_at, block_at}, proofs.ListedRows.slot_entry}
use Rattle.edge_block.specs.Listed.{edge_from}
use Rattle.graph_version.specs.{Edges.{edges_in_block, edges_in_blocks}, Rows.{blocks_of, numbers_of, row_of}, Versions.{AreRowsOf, IsBlockOf, layout_of}}
use Rattle.opening_columns.specs.{Puts.{key_number, IsWithinWalls}, Edges.{AreRising, IsWithinBounds}}
use Rattle.std.proofs.lemmas.List.{length-append, get_or-append-add}
use Rattle.opening_columns.proofs.RowLists.{is_of}
use Rattle.opening_columns.specs.Runs.{AreAlike, AreFilled, IsFullBefore, IsFilled, IsRun, slot_with}

-- The edges of blocks

no_edges : (n : ℕ) → edges_in (replicate n None) ≡ []
no_edges zero = refl
no_edges (suc n) = no_edges n

run_edges : (run : List Edge) (n : ℕ) → edges_in (map (λ e. Some (slot_with e)) run ++ replicate n None) ≡ map slot_with run
run_edges [] n = no_edges n
run_edges (e ∷ run) n = ap (λ (l : List Slot). slot_with e ∷ l) (run_edges run n)

same_edges : (run : List Edge) (b : BlockView) → All (λ e. e.source.0 ≡ b.source) run → All (λ e. e.kind.0 ≡ b.kind) run
    → map edge_from (map (entry_in b) (map slot_with run)) ≡ run
same_edges [] b source kind = refl
same_edges (e ∷ run) b source kind =
    let here : edge_from (entry_in b (slot_with e)) ≡ e = (λ i. record {
      kind = record { 0 = sym (kind 0 e (omega arith)) i };
      source = record { 0 = sym (source 0 e (omega arith)) i };
      target = e.target;
      weight = e.weight;
      first = e.first;
      recent = e.recent;
    }) in
    (λ i. here i ∷ same_edges run b (All-tail (λ (x : Edge). x.source.0 ≡ b.source) e run source)
    (All-tail (λ (x : Edge). x.kind.0 ≡ b.kind) e run kind) i)

pub filled_edges : (run : List Edge) (b : BlockView) → IsFilled run b → edges_in_block b ≡ run
filled_edges run b is =
    ap (λ (slots : List (Option Slot)). map edge_from (map (entry_in b) (edges_in slots))) is.slots
    ∙ ap (λ (es : List Slot). map edge_from (map (entry_in b) es)) (run_edges run (32 - length run))
    ∙ same_edges run b is.source is.kind

pub all_edges : (runs : List (List Edge)) (bs : List BlockView) → AreFilled runs bs → edges_in_blocks bs ≡ flat_map (λ run. run) runs
all_edges [] [] all = refl
all_edges [] (b ∷ bs) all = absurd all
all_edges (run ∷ runs) [] all = absurd all
all_edges (run ∷ runs) (b ∷ bs) all =
    (λ i. filled_edges run b all.0 i ++ all_edges runs bs all.1 i)

-- Their sources rise

source_le : (a b : Key) → IsWithinWalls a → IsWithinWalls b → key_number a ≤ key_number b → a.source ≤ b.source
source_le a b wa wb le = omega arith

not_below : (n : ℕ) (runs : List (List Edge)) (bs : List BlockView) → All IsRun runs → AreFilled runs bs
    → All (λ e. n ≤ e.source.0) (flat_map (λ run. run) runs) → All (λ b. n ≤ b.source) bs
not_below n [] [] each all le = λ k d lt. absurd (omega arith)
not_below n [] (b ∷ bs) each all le = absurd all
not_below n (run ∷ runs) [] each all le = absurd all
not_below n (run ∷ runs) (b ∷ bs) each all le =
    let front = All-front n run (flat_map (λ (r : List Edge). r) runs) le in
    let some = (All-head IsRun run runs each).some in
    All-cons (λ (x : BlockView). n ≤ x.source) b bs
    (first n run b some all.0 front)
    (not_below n runs bs (All-tail IsRun run runs each) all.1 (All-back n run (flat_map (λ (r : List Edge). r) runs) le))
  where
    All-front : (n : ℕ) (xs ys : List Edge) → All (λ e. n ≤ e.source.0) (xs ++ ys) → All (λ e. n ≤ e.source.0) xs
    All-front n [] ys le = λ k d lt. absurd (omega arith)
    All-front n (x ∷ xs) ys le = All-cons (λ (e : Edge). n ≤ e.source.0) x xs (All-head (λ (e : Edge). n ≤ e.source.0) x (xs ++ ys) le)
        (All-front n xs ys (All-tail (λ (e : Edge). n ≤ e.source.0) x (xs ++ ys) le))

    All-back : (n : ℕ) (xs ys : List Edge) → All (λ e. n ≤ e.source.0) (xs ++ ys) → All (λ e. n ≤ e.source.0) ys
    All-back n [] ys le = le
    All-back n (x ∷ xs) ys le = All-back n xs ys (All-tail (λ (e : Edge). n ≤ e.source.0) x (xs ++ ys) le)

    first : (n : ℕ) (run : List Edge) (b : BlockView) → 0 < length run → IsFilled run b → All (λ e. n ≤ e.source.0) run → n ≤ b.source
    first n [] b some is le = absurd (omega arith)
    first n (e ∷ run) b some is le = let at = is.source 0 e (omega arith) in let here = le 0 e (omega arith) in omega arith

-- What stands at a key

differs : (a b : ℕ) → (a ≡ b → ⊥) → (a == b) ≡ false
differs a b ne = elim (eqb_tells a b) [
  | inl same ↦ absurd (ne same.1)
  | inr other ↦ other.0
]

abbrev shown_in : List (Option Slot) → ℕ → Key → Option Stamp
shown_in slots kind k = cond (k.kind == kind) (stamp_at slots k.target) None

abbrev edges_of_slots : List (Option Slot) → ℕ → ℕ → List Edge
edges_of_slots slots source kind = map edge_from (map (slot_entry source kind) (edges_in slots))

get_slots : (source kind : ℕ) (slots : List (Option Slot)) (rest : List Edge) (k : Key)
    → get (map_of (edges_of_slots slots source kind ++ rest)) k
    ≡ option_or (stands source k.source (shown_in slots kind k)) (get (map_of rest) k)
get_slots source kind [] rest k = nothing (k.source == source) (k.kind == kind) (get (map_of rest) k)
get_slots source kind (None ∷ slots) rest k = get_slots source kind slots rest k
get_slots source kind (Some e ∷ slots) rest k =
    let edge : Edge = edge_from (slot_entry source kind e) in
    let others : List Edge = edges_of_slots slots source kind ++ rest in
    get_cons edge others k
    ∙ ap (λ t. cond t (Some e.stamp) (get (map_of others) k)) (tied k (key_of edge))
    ∙ ap (cond (tests_of_key k (key_of edge) (k.source == source)) (Some e.stamp)) (get_slots source kind slots rest k)
    ∙ pick (k.kind == kind) (k.source == source) (k.target == e.target) e.stamp (stamp_at slots k.target) (get (map_of rest) k)

abbrev row_in : ℕ → List BlockView → List Shape
row_in s bs = map shape_of (filter (is_of s) bs)

pub shows_at : (bs : List BlockView) (k : Key) → get (map_of (edges_in_blocks bs)) k ≡ row_at (row_in k.source bs) (k.kind, k.target)
shows_at [] k = get-empty key_cmp k
shows_at (b ∷ bs) k =
    get_slots b.source b.kind b.slots (edges_in_blocks bs) k
    ∙ ap (option_or (stands b.source k.source (shown_in b.slots b.kind k))) (shows_at bs k)
    ∙ elim (eqb_tells k.source b.source) [
      | inl same ↦
          ap (λ t. option_or (cond t (shown_in b.slots b.kind k) None) (row_at (row_in k.source bs) (k.kind, k.target))) same.0
          ∙ ap (λ t. row_at (map shape_of (cond t (b ∷ filter (is_of k.source) bs) (filter (is_of k.source) bs))) (k.kind, k.target))
          (sym (eq-eqb b.source k.source (sym same.1)))
      | inr apart ↦
          ap (λ t. option_or (cond t (shown_in b.slots b.kind k) None) (row_at (row_in k.source bs) (k.kind, k.target))) apart.0
          ∙ ap (λ t. row_at (map shape_of (cond t (b ∷ filter (is_of k.source) bs) (filter (is_of k.source) bs))) (k.kind, k.target))
          (sym (differs b.source k.source (λ same. apart.1 (sym same))))
    ]

-- Each key once

abbrev key_at : ℕ → ℕ → ℕ → Key
key_at source kind target = record { kind = kind; source = source; target = target }

gone : (o r : Option Stamp) → option_or o r ≡ None → (o ≡ None) × (r ≡ None)
gone None r is = (refl, is)
gone (Some s) r is = absurd (true≢false (ap is_some is))

-- what stands in slots isn't listed behind them
apart_slots : (source kind : ℕ) (slots : List (Option Slot)) (rest : List Edge) (t : ℕ)
    → HasKeysOnce (edges_of_slots slots source kind ++ rest) → is_some (stamp_at slots t) ≡ true
    → get (map_of rest) (key_at source kind t) ≡ None
apart_slots source kind [] rest t once is = absurd (true≢false (sym is))
apart_slots source kind (None ∷ slots) rest t once is = apart_slots source kind slots rest t once is
apart_slots source kind (Some e ∷ slots) rest t once is =
    let edge : Edge = edge_from (slot_entry source kind e) in
    let others : List Edge = edges_of_slots slots source kind ++ rest in
    elim (eqb_tells t e.target) [
      | inl same ↦
          let none : get (map_of others) (key_of edge) ≡ None =
          get_is (key_of edge) others ∙ find_absent (key_of edge) others (once_head edge others once) in
          let both = gone _ _ (sym (get_slots source kind slots rest (key_of edge)) ∙ none) in
          ap (λ (n : ℕ). get (map_of rest) (key_at source kind n)) same.1 ∙ both.1
      | inr other ↦
          apart_slots source kind slots rest t (once_tail edge others once)
          (sym (ap (λ b. is_some (option_or (cond b (Some e.stamp) None) (stamp_at slots t))) other.0) ∙ is)
    ]

none_if : (o : Option Stamp) → (is_some o ≡ true → ⊥) → o ≡ None
none_if None no_stamp = refl
none_if (Some s) no_stamp = absurd (no_stamp refl)

-- and no target stands twice
distinct_slots : (source kind : ℕ) (slots : List (Option Slot)) → HasKeysOnce (edges_of_slots slots source kind) → AreDistinct slots
distinct_slots source kind [] once = tt
distinct_slots source kind (None ∷ slots) once = (λ key is. absurd (true≢false (sym is)), distinct_slots source kind slots once)
distinct_slots source kind (Some e ∷ slots) once =
    let edge : Edge = edge_from (slot_entry source kind e) in
    let others : List Edge = edges_of_slots slots source kind in
    let none : get (map_of others) (key_of edge) ≡ None =
    get_is (key_of edge) others ∙ find_absent (key_of edge) others (once_head edge others once) in
    let behind : get (map_of (others ++ [])) (key_of edge) ≡ None =
    ap (λ (es : List Edge). get (map_of es) (key_of edge)) (append-nil others) ∙ none in
    let both = gone _ _ (sym (get_slots source kind slots [] (key_of edge)) ∙ behind) in
    let here : stamp_at slots e.target ≡ None =
    sym (stands_at_itself source kind (stamp_at slots e.target)) ∙ both.0 in (
      λ key is. elim (eqb_tells key e.target) [
        | inl same ↦ ap (stamp_at slots) same.1 ∙ here
        | inr other ↦ absurd (true≢false (sym is ∙ ap (λ b. is_some (cond b (Some e.stamp) None)) other.0))
      ],
      distinct_slots source kind slots (once_tail edge others once),
    )

once_front : (xs ys : List Edge) → HasKeysOnce (xs ++ ys) → HasKeysOnce xs
once_front xs ys once = AllPairs-left (λ a b. key_of a ≢ key_of b) xs ys once

once_back : (xs ys : List Edge) → HasKeysOnce (xs ++ ys) → HasKeysOnce ys
once_back [] ys once = once
once_back (x ∷ xs) ys once = once_back xs ys (once_tail x (xs ++ ys) once)

pub distinct_blocks : (bs : List BlockView) → HasKeysOnce (edges_in_blocks bs) → All (λ b. AreDistinct b.slots) bs
distinct_blocks [] once = λ k d lt. absurd (omega arith)
distinct_blocks (b ∷ bs) once =
    All-cons (λ (x : BlockView). AreDistinct x.slots) b bs
    (distinct_slots b.source b.kind b.slots (once_front (edges_in_block b) (edges_in_blocks bs) once))
    (distinct_blocks bs (once_back (edges_in_block b) (edges_in_blocks bs) once))

-- nor in two blocks of a source
pub between_blocks : (s : ℕ) (bs : List BlockView) → HasKeysOnce (edges_in_blocks bs) → NoKeyTwice block_at (row_in s bs)
between_blocks s [] once = tt
between_blocks s (b ∷ bs) once =
    let rest = between_blocks s bs (once_back (edges_in_block b) (edges_in_blocks bs) once) in
    elim (eqb_tells b.source s) [
      | inl same ↦
          subst (λ t. NoKeyTwice block_at (map shape_of (cond t (b ∷ filter (is_of s) bs) (filter (is_of s) bs)))) (sym same.0)
          (λ place is. between_one s b bs once same.1 place is, rest)
      | inr other ↦
          subst (λ t. NoKeyTwice block_at (map shape_of (cond t (b ∷ filter (is_of s) bs) (filter (is_of s) bs)))) (sym other.0) rest
    ]
  where
    between_one : (s : ℕ) (b : BlockView) (bs : List BlockView) → HasKeysOnce (edges_in_blocks (b ∷ bs)) → b.source ≡ s → (place : ℕ × ℕ)
        → is_some (block_at (shape_of b) place) ≡ true → row_at (row_in s bs) place ≡ None
    between_one s b bs once same place is =
        elim (eqb_tells place.0 b.kind) [
          | inl kind ↦
              let stands : is_some (stamp_at b.slots place.1) ≡ true =
              sym (ap (λ t. is_some (cond t (stamp_at b.slots place.1) None)) kind.0) ∙ is in
              let none = apart_slots b.source b.kind b.slots (edges_in_blocks bs) place.1 once stands in
              ap (λ (n : ℕ). row_at (row_in n bs) place) (sym same)
              ∙ ap (λ (n : ℕ). row_at (row_in b.source bs) (n, place.1)) kind.1
              ∙ sym (shows_at bs (key_at b.source b.kind place.1)) ∙ none
          | inr other ↦ absurd (true≢false (sym is ∙ ap (λ t. is_some (cond t (stamp_at b.slots place.1) None)) other.0))
        ]

-- Blocks of runs

each_filled : (runs : List (List Edge)) (bs : List BlockView) (P : BlockView → Type 0) → All IsRun runs → AreFilled runs bs
    → ((run : List Edge) (b : BlockView) → IsRun run → IsFilled run b → P b) → All P bs
each_filled [] [] P each all from = λ k d lt. absurd (omega arith)
each_filled [] (b ∷ bs) P each all from = absurd all
each_filled (run ∷ runs) [] P each all from = absurd all
each_filled (run ∷ runs) (b ∷ bs) P each all from =
    All-cons P b bs (from run b (All-head IsRun run runs each) all.0)
    (each_filled runs bs P (All-tail IsRun run runs each) all.1 from)

-- each has an edge
some_edge : (run : List Edge) (b : BlockView) → IsRun run → IsFilled run b → list_all is_free_slot b.slots ≡ false
some_edge [] b is filled = let none = is.some in absurd (omega arith)
some_edge (e ∷ run) b is filled = ap (list_all is_free_slot) filled.slots

pub none_blank : (runs : List (List Edge)) (bs : List BlockView) → All IsRun runs → AreFilled runs bs
    → All (λ b. list_all is_free_slot b.slots ≡ false) bs
none_blank runs bs each all = each_filled runs bs (λ b. list_all is_free_slot b.slots ≡ false) each all some_edge

-- one of 32 edges is full
no_free : (run : List Edge) → list_any is_free_slot (map (λ e. Some (slot_with e)) run) ≡ false
no_free [] = refl
no_free (e ∷ run) = no_free run

full_run : (run : List Edge) (b : BlockView) → IsFilled run b → length run ≡ 32 → list_any is_free_slot b.slots ≡ false
full_run run b is long =
    ap (list_any is_free_slot) is.slots
    ∙ ap (λ n. list_any is_free_slot (map (λ (e : Edge). Some (slot_with e)) run ++ replicate (32 - n) None)) long
    ∙ ap (list_any is_free_slot) (append-nil (map (λ (e : Edge). Some (slot_with e)) run)) ∙ no_free run

-- so all but the last of a source and kind are full
abbrev pub IsFullPair : BlockView → BlockView → Type 0
IsFullPair a b = a.source ≡ b.source → a.kind ≡ b.kind → list_any is_free_slot a.slots ≡ false

first_alike : (a b : List Edge) (x y : BlockView) → IsRun a → IsRun b → IsFilled a x → IsFilled b y → x.source ≡ y.source
    → x.kind ≡ y.kind → (d : Edge) → AreAlike (get_or a 0 d) (get_or b 0 d)
first_alike a b x y is_a is_b of_a of_b source kind d = (
  of_a.source 0 d is_a.some ∙ source ∙ sym (of_b.source 0 d is_b.some),
  of_a.kind 0 d is_a.some ∙ kind ∙ sym (of_b.kind 0 d is_b.some),
)

head_packed : (run : List Edge) (runs : List (List Edge)) (b : BlockView) (bs : List BlockView) → IsRun run → All IsRun runs
    → IsFilled run b → AreFilled runs bs → All (IsFullBefore run) runs → All (IsFullPair b) bs
head_packed run [] b [] is each of all full = λ k d lt. absurd (omega arith)
head_packed run [] b (x ∷ bs) is each of all full = absurd all
head_packed run (next ∷ runs) b [] is each of all full = absurd all
head_packed run (next ∷ runs) b (x ∷ bs) is each of all full =
    All-cons (IsFullPair b) x bs
    (λ source kind. some_full run next b x is (All-head IsRun next runs each) of all.0 (All-head (IsFullBefore run) next runs full) source kind)
    (head_packed run runs b bs is (All-tail IsRun next runs each) of all.1 (All-tail (IsFullBefore run) next runs full))
  where
    some_full : (run next : List Edge) (b x : BlockView) → IsRun run → IsRun next → IsFilled run b → IsFilled next x
        → IsFullBefore run next → IsFullPair b x
    some_full [] next b x is is' of of' full source kind = let none = is.some in absurd (omega arith)
    some_full (e ∷ run) next b x is is' of of' full source kind =
        full_run (e ∷ run) b of (full e (first_alike (e ∷ run) next b x is is' of of' source kind e))

pub blocks_packed : (runs : List (List Edge)) (bs : List BlockView) → All IsRun runs → AreFilled runs bs → AllPairs IsFullBefore runs
    → AllPairs IsFullPair bs
blocks_packed [] [] each all packed = λ i j d lt within. absurd (omega arith)
blocks_packed [] (b ∷ bs) each all packed = absurd all
blocks_packed (run ∷ runs) [] each all packed = absurd all
blocks_packed (run ∷ runs) (b ∷ bs) each all packed =
    AllPairs-cons IsFullPair b bs
    (head_packed run runs b bs (All-head IsRun run runs each) (All-tail IsRun run runs each) all.0 all.1
    (λ k d lt. packed 0 (suc k) d (omega arith) (omega arith)))
    (blocks_packed runs bs (All-tail IsRun run runs each) all.1
    (λ i j d lt within. packed (suc i) (suc j) d (omega arith) (omega arith)))

-- their sources rise
pub sources_rise : (runs : List (List Edge)) (bs : List BlockView) → All IsRun runs → AreFilled runs bs
    → AreRising (flat_map (λ run. run) runs) → All IsWithinBounds (flat_map (λ run. run) runs) → AllPairs (λ a b. a.source ≤ b.source) bs
sources_rise [] [] each all up range = λ i j d lt within. absurd (omega arith)
sources_rise [] (b ∷ bs) each all up range = absurd all
sources_rise (run ∷ runs) [] each all up range = absurd all
sources_rise (run ∷ runs) (b ∷ bs) each all up range =
    AllPairs-cons (λ (x y : BlockView). x.source ≤ y.source) b bs
    (not_below b.source runs bs (All-tail IsRun run runs each) all.1
    (behind run (flat_map (λ (r : List Edge). r) runs) b (All-head IsRun run runs each) all.0 up range))
    (sources_rise runs bs (All-tail IsRun run runs each) all.1
    (rising_behind run (flat_map (λ (r : List Edge). r) runs) up) (range_behind run (flat_map (λ (r : List Edge). r) runs) range))
  where
    rising_behind : (xs ys : List Edge) → AreRising (xs ++ ys) → AreRising ys
    rising_behind [] ys up = up
    rising_behind (x ∷ xs) ys up =
        rising_behind xs ys (λ i j d lt within. up (suc i) (suc j) d (omega arith) (omega arith))

    range_behind : (xs ys : List Edge) → All IsWithinBounds (xs ++ ys) → All IsWithinBounds ys
    range_behind [] ys range = range
    range_behind (x ∷ xs) ys range = range_behind xs ys (All-tail IsWithinBounds x (xs ++ ys) range)

    behind : (run rest : List Edge) (b : BlockView) → IsRun run → IsFilled run b → AreRising (run ++ rest) → All IsWithinBounds (run ++ rest)
        → All (λ e. b.source ≤ e.source.0) rest
    behind [] rest b is of up range k d lt = let none = is.some in absurd (omega arith)
    behind (x ∷ run) rest b is of up range k d lt =
        let long = length-append (x ∷ run) rest in
        let at = get_or-append-add (x ∷ run) rest k d in
        let less = up 0 (length (x ∷ run) + k) d (omega arith) (omega arith) in
        let first = (range 0 d (omega arith)).walls in
        let last = (range (length (x ∷ run) + k) d (omega arith)).walls in
        let le = source_le (key_of x) (key_of (get_or ((x ∷ run) ++ rest) (length (x ∷ run) + k) d)) first last (omega arith) in
        let here = of.source 0 x (omega arith) in
        let same = ap (λ (e : Edge). e.source.0) at in
        omega arith

-- a source's own blocks
pub own_source : (s : ℕ) (xs : List BlockView) → All (λ b. b.source ≡ s) (filter (is_of s) xs)
own_source s [] = λ k d lt. absurd (omega arith)
own_source s (b ∷ xs) = elim (eqb_tells b.source s) [
  | inl same ↦
      subst (λ t. All (λ (x : BlockView). x.source ≡ s) (cond t (b ∷ filter (is_of s) xs) (filter (is_of s) xs))) (sym same.0)
      (All-cons (λ (x : BlockView). x.source ≡ s) b (filter (is_of s) xs) same.1 (own_source s xs))
  | inr other ↦
      subst (λ t. All (λ (x : BlockView). x.source ≡ s) (cond t (b ∷ filter (is_of s) xs) (filter (is_of s) xs))) (sym other.0)
      (own_source s xs)
]

-- Rows over such blocks

module _ (rows : List (List BlockView)) (bs : List BlockView) (g : Graph) (made : (s : ℕ) → row_of rows s ≡ filter (is_of s) bs)
    (whole : blocks_of rows ≡ bs) (once : HasKeysOnce (edges_in_blocks bs)) (edges : map_of (edges_in_blocks bs) ≡ g.edges)
    (blank : All (λ b. list_all is_free_slot b.slots ≡ false) bs) (numbers : AllPairs ◌≢◌ (numbers_of bs)) where
  row_shapes : (s : ℕ) → layout_of rows s ≡ row_in s bs
  row_shapes s = ap (map shape_of) (made s)

  within_row : (s : ℕ) → All (λ b. AreDistinct b.slots) (row_in s bs)
  within_row s =
      All-map (λ (b : Shape). AreDistinct b.slots) shape_of (filter (is_of s) bs)
      (All-filter (is_of s) (λ (b : BlockView). AreDistinct b.slots) bs (distinct_blocks bs once))

  pub rows_are : AreRowsOf g rows
  rows_are = record {
    layout = record {
      distinct = λ s. subst IsRow (sym (row_shapes s)) (record { within = within_row s; between = between_blocks s bs once });
      shows = λ k. ap (λ (row : List Shape). row_at row (k.kind, k.target)) (row_shapes k.source) ∙ sym (shows_at bs k)
          ∙ ap (λ (m : FinMap key_cmp Stamp). get m k) edges;
    };
    blocks = λ s. subst (All (IsBlockOf s)) (sym (made s)) (λ k d lt. record {
      source_is = own_source s bs k d lt;
      has_edges = All-filter (is_of s) (λ (b : BlockView). list_all is_free_slot b.slots ≡ false) bs blank k d lt;
    });
    numbers = subst (λ (xs : List BlockView). AllPairs ◌≢◌ (numbers_of xs)) (sym whole) numbers;
  }
