-- Rows of vertices, and the table that they make.
use Rattle.std.proofs.Common.{◌≡◌, ℕ, ◌+◌, ◌<◌, ◌≤◌, zero, suc, arith, refl, sym, ap, ◌∙◌, subst, List, [], ◌∷◌, inl, inr, ◌++◌}
use Rattle.std.proofs.Common.{◌&&◌, ◌||◌, ◌≢◌, ◌⊎◌, length, drop, set, get_or, drop-cons, add-one, Option, Some, None, cond, true}
use Rattle.std.proofs.{Common.{false, Bool, not}, lemmas.Bool.{cases_eq, cases_lt, Decides.{eqb_tells, Decides-eqb}}}
use Rattle.std.proofs.lemmas.Map.Keys.{IsDistinct-push, IsDistinct-IsPermutation, IsStrictlyIncreasing-from_distinct}
use Rattle.std.proofs.lemmas.{Map.{Steps.length-le_from_distinct_below, Made.AllPairs-from_IsDistinct}, List.get_or-set_same}
use Rattle.std.proofs.lemmas.List.{get_or-set_other, length-set, length-replicate, get_or-replicate, append-nil}
use Rattle.std.proofs.lemmas.List.{append_assoc, length-map, get_or-map, get_or_append_left, get_or_past, drop-append-le}
use Rattle.std.proofs.lemmas.List.{map-append, drop_all, Kept.AllPairs-from_increasing, Sorted.Contains-permutation}
use Rattle.std.proofs.lemmas.List.{Sorted.{IsPermutation-map, IsPermutation-sym}, Folds.{list_any_none, list_any-append}}
use Rattle.std.proofs.lemmas.List.{Elements.{All-weaker, All-tail, All-push, All-contains, All-cons, All-nil}, Sums.fold-append}
use Rattle.std.specs.{Prelude.{All, fold, nat_eq, replicate}, List.{AllPairs, Contains}}
use Rattle.std.specs.{List.{IsDistinct, list_any, Sorted.{IsNonDecreasing, IsNonDecreasingBy, IsPermutation}}, Cmp.nat_eq_equiv}
use Rattle.std.proofs.lemmas.Grind.{common_steps}
use Rattle.graph_types.proofs.{Counts.{Contains-cons, Contains-cons_cases, Contains-first}, Arcs.contains_map}
use Rattle.graph_types.specs.declared.ids.VertexId.{VertexId}
use Rattle.graph_types.proofs.{Numbers.differs, Prefixes.front_of}
use Rattle.graph_types.proofs.Cases.{unsome}
use Rattle.graph_levels.specs.{Search.{is_unreached, level_of}, Reached.{AreRows, met, rows_from, stands_in, level_table, vertices_of}}

-- a table with the levels of rows, one after another
abbrev pub filled : List (Option ℕ) → List (VertexId × ℕ) → List (Option ℕ)
filled levels rows = fold (λ table row. set table row.0.0 (Some row.1)) levels rows

length-filled : (rows : List (VertexId × ℕ)) (levels : List (Option ℕ)) → length (filled levels rows) ≡ length levels
length-filled [] levels = refl
length-filled (row ∷ rows) levels = grind (arith, common_steps, length-filled rows (set levels row.0.0 (Some row.1)))

pub length-table : (n : ℕ) (rows : List (VertexId × ℕ)) → length (level_table n rows) ≡ n
length-table n rows = length-filled rows (replicate n None) ∙ length-replicate n None

pub table_push : (n : ℕ) (rows : List (VertexId × ℕ)) (v d : ℕ)
    → level_table n (rows ++ (record { 0 = v }, d) ∷ []) ≡ set (level_table n rows) v (Some d)
table_push n rows v d = fold-append (λ table row. set table row.0.0 (Some row.1)) (replicate n None) rows ((record { 0 = v }, d) ∷ [])

pub vertices_push : (m : ℕ) (rows : List (VertexId × ℕ)) (v d : ℕ) → m ≤ length rows
    → vertices_of (drop m (rows ++ (record { 0 = v }, d) ∷ [])) ≡ vertices_of (drop m rows) ++ v ∷ []
vertices_push m rows v d long = grind (arith, common_steps, drop-append-le, map-append)

-- a vertex has a level in the filled table where it had one, or stands in a row
levelled_from : (rows : List (VertexId × ℕ)) (levels : List (Option ℕ)) (v : ℕ) → v < length levels
    → is_unreached (level_of (filled levels rows) v) ≡ (is_unreached (level_of levels v) && not (stands_in v rows))
levelled_from [] levels v lt = elim (is_unreached (level_of levels v)) as (λ b. b ≡ (b && true)) [ true ↦ refl | false ↦ refl ]
levelled_from (row ∷ rows) levels v lt =
    let w = row.0.0 in
    let new = set levels w (Some row.1) in
    let long = length-set levels w (Some row.1) in
    let more = levelled_from rows new v (omega (arith, lt, long)) in
    elim (eqb_tells v w) [
      | inl same ↦
          more
          ∙ ap (λ o. is_unreached o && not (stands_in v rows))
          (ap (level_of new) same.1 ∙ get_or-set_same levels w (Some row.1) None (subst (λ x. x < length levels) same.1 lt))
          ∙ sym (ap (λ b. is_unreached (level_of levels v) && not (b || stands_in v rows)) same.0 ∙ nothing (is_unreached (level_of levels v)))
      | inr other ↦
          more
          ∙ ap (λ o. is_unreached o && not (stands_in v rows)) (get_or-set_other levels w v (Some row.1) None other.1)
          ∙ sym (ap (λ b. is_unreached (level_of levels v) && not (b || stands_in v rows)) other.0)
    ] where
      nothing : (b : Bool) → (b && false) ≡ false
      nothing true = refl
      nothing false = refl

pub levelled : (n : ℕ) (rows : List (VertexId × ℕ)) (v : ℕ) → v < n
    → is_unreached (level_of (level_table n rows) v) ≡ not (stands_in v rows)
levelled n rows v lt = grind (arith, common_steps, levelled_from, length-replicate, get_or-replicate)

-- visiting targets keeps the rows that were there, at their front
pub met_more : (d : ℕ) (ts : List ℕ) (rows : List (VertexId × ℕ))
    → (more : List (VertexId × ℕ)) × (met d ts rows ≡ rows ++ more)
met_more d [] rows = ([], sym (append-nil rows))
met_more d (v ∷ ts) rows = choose (stands_in v rows) (met_more d ts rows) (met_more d ts (rows ++ new)) where
  new : List (VertexId × ℕ)
  new = (record { 0 = v }, d) ∷ []

  choose : (b : Bool) → ((more : List (VertexId × ℕ)) × (met d ts rows ≡ rows ++ more))
      → ((more : List (VertexId × ℕ)) × (met d ts (rows ++ new) ≡ rows ++ new ++ more))
      → (more : List (VertexId × ℕ)) × (met d ts (cond b rows (rows ++ new)) ≡ rows ++ more)
  choose true old one = old
  choose false old one = (new ++ one.0, one.1 ∙ append_assoc rows new one.0)

pub met_rows : (n d : ℕ) (ts : List ℕ) (rows : List (VertexId × ℕ)) → All (λ v. v < n) ts → AreRows n rows → AreRows n (met d ts rows)
met_rows n d [] rows in' are = are
met_rows n d (v ∷ ts) rows in' are =
    choose (stands_in v rows) refl (met_rows n d ts rows others) (met_rows n d ts (rows ++ new) others) where
      new : List (VertexId × ℕ)
      new = (record { 0 = v }, d) ∷ []

      vertices : vertices_of (rows ++ new) ≡ vertices_of rows ++ v ∷ []
      vertices = map-append (λ (row : VertexId × ℕ). row.0.0) rows new

      others : All (λ w. w < n) ts
      others = All-tail (λ w. w < n) v ts in'

      choose : (b : Bool) → stands_in v rows ≡ b → (AreRows n rows → AreRows n (met d ts rows))
          → (AreRows n (rows ++ new) → AreRows n (met d ts (rows ++ new))) → AreRows n (met d ts (cond b rows (rows ++ new)))
      choose true is old one = old are
      choose false is old one = one (record {
        distinct = subst (IsDistinct nat_eq) (sym vertices) (IsDistinct-push nat_eq_equiv (vertices_of rows) v are.distinct is);
        within = subst (All (λ w. w < n)) (sym vertices) (All-push (λ w. w < n) (vertices_of rows) v are.within (in' 0 0 (omega arith)));
      })

pub front_more : (d : ℕ) (ts : List ℕ) (old rows : List (VertexId × ℕ)) → rows ≡ old ++ drop (length old) rows
    → met d ts rows ≡ old ++ drop (length old) (met d ts rows)
front_more d ts old rows front =
    let more = met_more d ts rows in
    front_of old (met d ts rows) (drop (length old) rows ++ more.0)
    (more.1 ∙ ap (λ xs. xs ++ more.0) front ∙ append_assoc old (drop (length old) rows) more.0)

-- behind the last row there is none
pub none_left : (k : ℕ) (rows : List (VertexId × ℕ)) → length rows ≤ k → vertices_of (drop k rows) ≡ []
none_left k rows past = ap vertices_of (drop_all k rows past)

pub no_rows : (n : ℕ) → AreRows n []
unfolding IsDistinct
no_rows n = record { distinct = tt; within = All-nil (λ v. v < n) }

-- the row that is asked next
pub asked : (old rows : List (VertexId × ℕ)) (k : ℕ) (row : VertexId × ℕ) → rows ≡ old ++ drop (length old) rows
    → k < length old → row ≡ get_or rows k row → vertices_of (drop k old) ≡ row.0.0 ∷ vertices_of (drop (k + 1) old)
asked old rows k row front lt is = grind (arith, common_steps, get_or_append_left, add-one, drop-cons)

-- no more rows than vertices
pub few_rows : (n : ℕ) (rows : List (VertexId × ℕ)) → AreRows n rows → length rows ≤ n
few_rows n rows are =
    subst (λ m. m ≤ n) (length-map rows (λ (row : VertexId × ℕ). row.0.0))
    (length-le_from_distinct_below (vertices_of rows) n are.distinct below) where
      below : (q : ℕ) → list_any (nat_eq q) (vertices_of rows) ≡ true → q < n
      below q listed = elim (cases_lt q n) [
        | inl lt ↦ lt
        | inr past ↦
            let none : list_any (nat_eq q) (vertices_of rows) ≡ false =
            list_any_none (nat_eq q) (vertices_of rows)
            (All-weaker (λ w. w < n) (λ w. nat_eq q w ≡ false) (λ w lt. differs q w (omega arith)) (vertices_of rows) are.within) in
            let both = sym listed ∙ none in
            absurd (cc)
      ]

-- a vertex of no row keeps what it had
untouched : (rows : List (VertexId × ℕ)) (levels : List (Option ℕ)) (v : ℕ) → stands_in v rows ≡ false
    → level_of (filled levels rows) v ≡ level_of levels v
untouched [] levels v none = refl
untouched (row ∷ rows) levels v none = elim (eqb_tells v row.0.0) [
  | inl same ↦ let both = sym (ap (λ b. b || stands_in v rows) same.0) ∙ none in absurd (cc)
  | inr other ↦
      untouched rows (set levels row.0.0 (Some row.1)) v (sym (ap (λ b. b || stands_in v rows) other.0) ∙ none)
      ∙ get_or-set_other levels row.0.0 v (Some row.1) None other.1
]

stands_not : (v : ℕ) (rows : List (VertexId × ℕ)) → All (λ w. v ≢ w) (vertices_of rows) → stands_in v rows ≡ false
stands_not v rows others = grind (arith, common_steps, list_any_none, All-weaker, differs)

-- a row's vertex has the row's level
told_by : (rows : List (VertexId × ℕ)) (levels : List (Option ℕ)) (row : VertexId × ℕ) → AllPairs (λ v w. v ≢ w) (vertices_of rows)
    → All (λ v. v < length levels) (vertices_of rows) → Contains rows row → level_of (filled levels rows) row.0.0 ≡ Some row.1
told_by [] levels row distinct within at = let lt = at.1 in absurd (omega arith)
told_by (first ∷ rows) levels row distinct within at =
    let new = set levels first.0.0 (Some first.1) in
    let long = length-set levels first.0.0 (Some first.1) in
    elim (Contains-cons_cases first rows row at) [
      | inl same ↦
          ap (λ (r : VertexId × ℕ). level_of (filled new rows) r.0.0) (sym same)
          ∙ untouched rows new first.0.0 (stands_not first.0.0 rows (λ k d lt. distinct 0 (suc k) d (omega arith) (omega arith)))
          ∙ get_or-set_same levels first.0.0 (Some first.1) None (within 0 0 (omega arith))
          ∙ ap (λ (r : VertexId × ℕ). Some r.1) same
      | inr later ↦
          told_by rows new row (λ i j d lt end. distinct (suc i) (suc j) d (omega arith) (omega arith))
          (subst (λ m. All (λ v. v < m) (vertices_of rows)) (sym long) (All-tail (λ v. v < length levels) first.0.0 (vertices_of rows) within))
          later
    ]

-- what has a level in the filled table stands in a row, or had it
tells : (rows : List (VertexId × ℕ)) (levels : List (Option ℕ)) (v d : ℕ) → v < length levels
    → level_of (filled levels rows) v ≡ Some d → Contains rows (record { 0 = v }, d) ⊎ (level_of levels v ≡ Some d)
tells [] levels v d lt is = inr is
tells (first ∷ rows) levels v d lt is =
    let new = set levels first.0.0 (Some first.1) in
    let long = length-set levels first.0.0 (Some first.1) in
    elim (tells rows new v d (omega (arith, lt, long)) is) [
      | inl later ↦ inl (Contains-cons first rows (record { 0 = v }, d) later)
      | inr had ↦ elim (cases_eq v first.0.0) [
        | inl same ↦
            let level = sym (get_or-set_same levels v (Some first.1) None lt) ∙ ap (λ w. level_of (set levels w (Some first.1)) v) same ∙ had in
            inl (here first rows v d same (unsome first.1 d level))
        | inr other ↦ inr (sym (get_or-set_other levels first.0.0 v (Some first.1) None other) ∙ had)
      ]
    ] where
      here : (first : VertexId × ℕ) (rows : List (VertexId × ℕ)) (v d : ℕ) → v ≡ first.0.0 → first.1 ≡ d
          → Contains (first ∷ rows) (record { 0 = v }, d)
      here first rows v d at level =
          subst (λ (r : VertexId × ℕ). Contains (first ∷ rows) r) (λ i. (record { 0 = sym at i }, level i))
          (Contains-first first rows first refl)

-- rows that rise by their vertices, and tell what a table from vertex v on has, are the table's rows
same_rows : (levels : List (Option ℕ)) (v : ℕ) (rows : List (VertexId × ℕ)) → AllPairs (λ a b. a < b) (vertices_of rows)
    → ((row : VertexId × ℕ) → Contains rows row → (w : ℕ) × (row.0.0 ≡ v + w) × (level_of levels w ≡ Some row.1))
    → ((w d : ℕ) → level_of levels w ≡ Some d → Contains rows (record { 0 = v + w }, d))
    → rows ≡ rows_from v levels
same_rows [] v [] rise sound whole = refl
same_rows [] v (row ∷ rows) rise sound whole = let told = (sound row (Contains-first row rows row refl)).2 in absurd (cc)
same_rows (None ∷ levels) v rows rise sound whole =
    same_rows levels (v + 1) rows rise
    (λ row at. let told = sound row at in after row told.0 told.1 told.2)
    (λ w d is. subst (λ x. Contains rows (record { 0 = x }, d)) (omega arith) (whole (suc w) d is)) where
      after : (row : VertexId × ℕ) (w : ℕ) → row.0.0 ≡ v + w → level_of (None ∷ levels) w ≡ Some row.1
          → (w' : ℕ) × (row.0.0 ≡ v + 1 + w') × (level_of levels w' ≡ Some row.1)
      after row zero at is = absurd (cc)
      after row (suc w) at is = (w, omega (arith, at), is)
same_rows (Some d ∷ levels) v [] rise sound whole = let at = (whole 0 d refl).1 in absurd (omega arith)
same_rows (Some d ∷ levels) v (first ∷ rows) rise sound whole =
    let at_first = sound first (Contains-first first rows first refl) in
    let is_first : first ≡ (record { 0 = v }, d) = elim (Contains-cons_cases first rows (record { 0 = v + 0 }, d) (whole 0 d refl)) [
      | inl same ↦ same ∙ (λ i. (record { 0 = plus_zero i }, d))
      | inr later ↦
          let more = above (record { 0 = v + 0 }, d) later in
          let place = at_first.1 in
          absurd (omega (arith, more, place))
    ] in
    let e : first.0.0 ≡ v = ap (λ (r : VertexId × ℕ). r.0.0) is_first in
    let rest : rows ≡ rows_from (v + 1) levels =
    same_rows levels (v + 1) rows (λ i j d lt end. rise (suc i) (suc j) d (omega arith) (omega arith))
    (λ row at. let told = sound row (Contains-cons first rows row at) in after row told.0 (omega (arith, e, above row at)) told.1 told.2)
    (λ w k is. elim (Contains-cons_cases first rows (record { 0 = v + suc w }, k) (whole (suc w) k is)) [
      | inl same ↦ let n = ap (λ (r : VertexId × ℕ). r.0.0) same in absurd (omega (arith, n, e))
      | inr later ↦ subst (λ x. Contains rows (record { 0 = x }, k)) (omega arith) later
    ]) in
    (λ i. is_first i ∷ rest i) where
      plus_zero : v + 0 ≡ v
      plus_zero = omega arith

      above : (row : VertexId × ℕ) → Contains rows row → first.0.0 < row.0.0
      above row at =
          All-contains (λ w. first.0.0 < w) (vertices_of rows) row.0.0
          (λ k d lt. rise 0 (suc k) d (omega arith) (omega arith)) (contains_map (λ (r : VertexId × ℕ). r.0.0) rows row at)

      after : (row : VertexId × ℕ) (w : ℕ) → v < row.0.0 → row.0.0 ≡ v + w → level_of (Some d ∷ levels) w ≡ Some row.1
          → (w' : ℕ) × (row.0.0 ≡ v + 1 + w') × (level_of levels w' ≡ Some row.1)
      after row zero more at is = absurd (omega (arith, more, at))
      after row (suc w) more at is = (w, omega (arith, at), is)

-- the rows of a search, in the order of their vertices, are those of its table
pub sorted_rows : (n : ℕ) (rows sorted : List (VertexId × ℕ)) → AreRows n rows → IsPermutation rows sorted
    → IsNonDecreasingBy (λ row. row.0.0) sorted → sorted ≡ rows_from 0 (level_table n rows)
sorted_rows n rows sorted are moved ordered =
    same_rows (level_table n rows) 0 sorted rise
    (λ row at. (
      row.0.0,
      omega arith,
      told_by rows (replicate n None) row (AllPairs-from_IsDistinct Decides-eqb (vertices_of rows) are.distinct)
          (subst (λ m. All (λ v. v < m) (vertices_of rows)) (sym (length-replicate n None)) are.within)
          (Contains-permutation sorted rows row (IsPermutation-sym rows sorted moved) at),
    ))
    (λ w d is. subst (λ x. Contains sorted (record { 0 = x }, d)) (omega arith)
    (Contains-permutation rows sorted (record { 0 = w }, d) moved (stands w d is))) where
      vertex : VertexId × ℕ → ℕ
      vertex row = row.0.0

      stands : (w d : ℕ) → level_of (level_table n rows) w ≡ Some d → Contains rows (record { 0 = w }, d)
      stands w d is = elim (cases_lt w n) [
        | inl lt ↦ elim (tells rows (replicate n None) w d (omega (arith, lt, length-replicate {A = Option ℕ} n None)) is) [
          | inl at ↦ at
          | inr had ↦ let both = sym (get_or-replicate n w None None lt) ∙ had in absurd (cc)
        ]
        | inr past ↦
            let both = sym (get_or_past (level_table n rows) w None (omega (arith, past, length-table n rows))) ∙ is in absurd (cc)
      ]

      ordered_vertices : IsNonDecreasing (vertices_of sorted)
      ordered_vertices i j d le lt =
          let long = length-map sorted vertex in
          let within : j < length sorted = omega (arith, lt, long) in
          let other : VertexId × ℕ = (record { 0 = d }, 0) in
          let left : get_or (vertices_of sorted) i d ≡ vertex (get_or sorted i other) =
          get_or-map vertex sorted i other d (omega arith) in
          let right : get_or (vertices_of sorted) j d ≡ vertex (get_or sorted j other) = get_or-map vertex sorted j other d within in
          let both = ordered i j other le within in
          omega (arith, left, right, both)

      rise : AllPairs (λ a b. a < b) (vertices_of sorted)
      rise = AllPairs-from_increasing (vertices_of sorted) (IsStrictlyIncreasing-from_distinct (vertices_of sorted) ordered_vertices
          (IsDistinct-IsPermutation nat_eq nat_eq_equiv.symm (vertices_of rows) (vertices_of sorted)
          (IsPermutation-map vertex rows sorted moved) are.distinct))

pub stands_push : (w v d : ℕ) (rows : List (VertexId × ℕ))
    → stands_in w (rows ++ (record { 0 = v }, d) ∷ []) ≡ (stands_in w rows || nat_eq w v)
stands_push w v d rows = grind (arith, common_steps, map-append, list_any-append)
