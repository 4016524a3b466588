-- Blocks by rising sources in rows, as far as a loop has come.
use Rattle.std.proofs.Common.{◌≡◌, ℕ, zero, suc, ◌+◌, ◌<◌, ◌≤◌, ◌==◌, Bool, cond, List, [], ◌∷◌, ◌++◌, length, get_or, take, drop, filter, refl, sym, ap, subst, ◌∙◌, arith, All, AllPairs, append_assoc, inl, inr, if◌then◌else◌}
use Rattle.std.proofs.lemmas.{Bool.{eq-eqb, Decides.eqb_tells}, List.{append-nil, Elements.{All-append, All-tail}}}
use Rattle.std.proofs.lemmas.List.{Elements.filter-append, length-append, get_or_append_left, length-map, get_or_default, get_or-take, get_or-drop, length-take-le, length-drop}
use Rattle.std.proofs.Math.ListN.{get_or-map}
use Rattle.std.specs.declared.{sync.Arc.Arc, alloc.Global.Global}
use Rattle.edge_block.specs.declared.blocks.Block.{Block}
use Rattle.graph_version.specs.Sharing.{block_value, block_values}
use Rattle.edge_block.specs.Slots.{BlockView}
use Rattle.graph_version.specs.Rows.{Replaces, row_of, blocks_of}

abbrev pub is_of : ℕ → BlockView → Bool
is_of s b = b.source == s

-- none of another source, and all of one
filter_none : (s : ℕ) (bs : List BlockView) → All (λ b. b.source ≡ s → ⊥) bs → filter (is_of s) bs ≡ []
filter_none s [] none = refl
filter_none s (b ∷ bs) none = elim (eqb_tells b.source s) [
  | inl same ↦ absurd (none 0 b (omega arith) same.1)
  | inr apart ↦ ap (λ t. cond t (b ∷ filter (is_of s) bs) (filter (is_of s) bs)) apart.0
      ∙ filter_none s bs (All-tail (λ (x : BlockView). x.source ≡ s → ⊥) b bs none)
]

filter_all : (s : ℕ) (bs : List BlockView) → All (λ b. b.source ≡ s) bs → filter (is_of s) bs ≡ bs
filter_all s [] all = refl
filter_all s (b ∷ bs) all =
    ap (λ t. cond t (b ∷ filter (is_of s) bs) (filter (is_of s) bs)) (eq-eqb b.source s (all 0 b (omega arith)))
    ∙ ap (λ l. b ∷ l) (filter_all s bs (All-tail (λ (x : BlockView). x.source ≡ s) b bs all))

-- Rows put one behind the other

empty_rows : (rows : List (List BlockView)) → ((s : ℕ) → row_of rows s ≡ []) → blocks_of rows ≡ []
empty_rows [] none = refl
empty_rows (row ∷ rows) none = (λ i. none 0 i ++ blocks_of rows) ∙ empty_rows rows (λ s. none (suc s))

at_itself : (s n : ℕ) (x y : List BlockView) → s ≡ n → (if s == n then x else y) ≡ x
at_itself s n x y same = ap (λ t. cond t x y) (eq-eqb s n same)

elsewhere : (s n : ℕ) (x y : List BlockView) → (s ≡ n → ⊥) → (if s == n then x else y) ≡ y
elsewhere s n x y apart = elim (eqb_tells s n) [
  | inl same ↦ absurd (apart same.1)
  | inr other ↦ ap (λ t. cond t x y) other.0
]

shifted : (s n : ℕ) (x y : List BlockView) → (if suc s == suc n then x else y) ≡ (if s == n then x else y)
shifted s n x y = elim (eqb_tells s n) [
  | inl same ↦ at_itself (suc s) (suc n) x y (ap suc same.1) ∙ sym (at_itself s n x y same.1)
  | inr other ↦
      elsewhere (suc s) (suc n) x y (λ same. other.1 (let e = same in omega arith)) ∙ sym (elsewhere s n x y other.1)
]

pub last_put : (source : ℕ) (rows more : List (List BlockView)) (row : List BlockView) → Replaces source row rows more
    → ((s : ℕ) → source ≤ s → row_of rows s ≡ []) → blocks_of more ≡ blocks_of rows ++ row
last_put zero rows [] row put blank =
    put 0 ∙ at_itself 0 0 row (row_of rows 0) refl ∙ (λ i. sym (empty_rows rows (λ s. blank s (omega arith))) i ++ row)
last_put zero rows (m ∷ ms) row put blank =
    ap (λ (l : List BlockView). m ++ l) (empty_rows ms (λ s. put (suc s) ∙ elsewhere (suc s) 0 row (row_of rows (suc s))
    (λ same. omega arith) ∙ blank (suc s) (omega arith)))
    ∙ append-nil m ∙ put 0 ∙ at_itself 0 0 row (row_of rows 0) refl
    ∙ (λ i. sym (empty_rows rows (λ s. blank s (omega arith))) i ++ row)
last_put (suc n) [] [] row put blank =
    last_put n [] [] row (λ s. put (suc s) ∙ shifted s n row []) (λ s le. refl)
last_put (suc n) [] (m ∷ ms) row put blank =
    (λ i. (put 0 ∙ elsewhere 0 (suc n) row [] (λ same. omega arith)) i ++ blocks_of ms)
    ∙ last_put n [] ms row (λ s. put (suc s) ∙ shifted s n row []) (λ s le. refl)
last_put (suc n) (r ∷ rs) [] row put blank =
    last_put n rs [] row (λ s. put (suc s) ∙ shifted s n row (row_of rs s)) (λ s le. blank (suc s) (omega arith))
    ∙ (λ i. ((put 0 ∙ elsewhere 0 (suc n) row r (λ same. omega arith)) i ++ blocks_of rs) ++ row)
last_put (suc n) (r ∷ rs) (m ∷ ms) row put blank =
    (λ i. (put 0 ∙ elsewhere 0 (suc n) row r (λ same. omega arith)) i ++ blocks_of ms)
    ∙ ap (λ (l : List BlockView). r ++ l)
    (last_put n rs ms row (λ s. put (suc s) ∙ shifted s n row (row_of rs s)) (λ s le. blank (suc s) (omega arith)))
    ∙ sym (append_assoc r (blocks_of rs) row)

-- the rows of the blocks before, each of a lower source than those that are left
pub record AreLaid (blocks rest : List BlockView) (rows : List (List BlockView)) : Type 0 where
  pub done : List BlockView
  pub all : done ++ rest ≡ blocks
  pub made : (s : ℕ) → row_of rows s ≡ filter (is_of s) done
  pub apart : All (λ b. All (λ x. b.source < x.source) rest) done
  pub blocks_are : blocks_of rows ≡ done

pub none_laid : (blocks : List BlockView) → AreLaid blocks blocks []
none_laid blocks = record { done = []; all = refl; made = λ s. refl; apart = λ k d lt. absurd (omega arith); blocks_are = refl }

pub all_laid : (blocks rest : List BlockView) (rows : List (List BlockView)) → AreLaid blocks rest rows → length rest ≡ 0
    → (s : ℕ) → row_of rows s ≡ filter (is_of s) blocks
all_laid blocks [] rows laid none s = laid.made s ∙ ap (filter (is_of s)) (sym (append-nil laid.done) ∙ laid.all)
all_laid blocks (b ∷ rest) rows laid none s = absurd (omega arith)

pub all_blocks : (blocks rest : List BlockView) (rows : List (List BlockView)) → AreLaid blocks rest rows → length rest ≡ 0
    → blocks_of rows ≡ blocks
all_blocks blocks [] rows laid none = laid.blocks_are ∙ sym (append-nil laid.done) ∙ laid.all
all_blocks blocks (b ∷ rest) rows laid none = absurd (omega arith)

-- one row more
module _ (blocks row rest : List BlockView) (rows more : List (List BlockView)) (source : ℕ) (laid : AreLaid blocks (row ++ rest) rows)
    (own : All (λ b. b.source ≡ source) row) (past : All (λ b. source < b.source) rest) (some : 0 < length row)
    (put : Replaces source row rows more) where
  lower : All (λ b. b.source < source) laid.done
  lower k d lt =
      let first = laid.apart k d lt 0 d (let long = length-append row rest in omega arith) in
      let here = own 0 d some in
      subst (λ (n : ℕ). (get_or laid.done k d).source < n) here
      (subst (λ (b : BlockView). (get_or laid.done k d).source < b.source) (get_or_append_left row rest d 0 some) first)

  made_more : (s : ℕ) → row_of more s ≡ filter (is_of s) (laid.done ++ row)
  made_more s = put s ∙ elim (eqb_tells s source) [
    | inl same ↦
        ap (λ t. cond t row (row_of rows s)) same.0
        ∙ sym (filter_all s row (λ k d lt. own k d lt ∙ sym same.1))
        ∙ ap (λ l. l ++ filter (is_of s) row)
        (sym (filter_none s laid.done (λ k d lt is. let less = lower k d lt in let equal = same.1 in omega arith)))
        ∙ sym (filter-append (is_of s) laid.done row)
    | inr apart ↦
        ap (λ t. cond t row (row_of rows s)) apart.0 ∙ laid.made s ∙ sym (append-nil (filter (is_of s) laid.done))
        ∙ ap (λ l. filter (is_of s) laid.done ++ l)
        (sym (filter_none s row (λ k d lt is. let mine = own k d lt in let ne = apart.1 in omega arith)))
        ∙ sym (filter-append (is_of s) laid.done row)
  ]

  pub row_more : AreLaid blocks rest more
  row_more = record {
    done = laid.done ++ row;
    all = append_assoc laid.done row rest ∙ laid.all;
    made = made_more;
    apart = All-append (λ b. All (λ x. b.source < x.source) rest) laid.done row
        (λ k d lt j e within. let less = lower k d lt in let up = past j e within in omega arith)
        (λ k d lt j e within. let here = own k d lt in let up = past j e within in omega arith);
    blocks_are = last_put source rows more row put (λ s le. laid.made s
        ∙ filter_none s laid.done (λ k d lt is. let less = lower k d lt in omega arith))
        ∙ ap (λ (l : List BlockView). l ++ row) laid.blocks_are;
  }

-- Blocks behind references

pub source_at : (bs : List (Arc Block Global)) (i : ℕ) (x : Arc Block Global) (d : BlockView) → i < length bs → x ≡ get_or bs i x
    → get_or (block_values bs) i d ≡ block_value x
source_at bs i x d lt is =
    let many = length-map bs block_value in
    get_or_default (block_values bs) i d (block_value x) (omega (arith, many)) ∙ get_or-map block_value bs i x ∙ ap block_value (sym is)

-- A row of the first blocks

module _ (bs : List BlockView) (n source : ℕ) (up : AllPairs (λ a b. a.source ≤ b.source) bs) (some : 0 < n) (inside : n ≤ length bs)
    (alike : (i : ℕ) (d : BlockView) → i < n → (get_or bs i d).source ≡ (get_or bs 0 d).source)
    (most : (d : BlockView) → n < length bs → (get_or bs n d).source ≡ (get_or bs 0 d).source → ⊥)
    (first : (d : BlockView) → (get_or bs 0 d).source ≡ source) where
  pub own_front : All (λ b. b.source ≡ source) (take n bs)
  own_front i d lt =
      let long = length-take-le n bs inside in
      ap (λ (b : BlockView). b.source) (get_or-take n bs i d (omega arith)) ∙ alike i d (omega arith) ∙ first d

  up_to : (k : ℕ) (d : BlockView) → n + k < length bs → (get_or bs n d).source ≤ (get_or bs (n + k) d).source
  up_to zero d lt =
      let none : n + zero ≡ n = omega arith in
      let same = ap (λ (m : ℕ). (get_or bs m d).source) none in
      omega arith
  up_to (suc k) d lt = up n (n + suc k) d (omega arith) lt

  pub past_back : All (λ b. source < b.source) (drop n bs)
  past_back k d lt =
      let more = length-drop n bs in
      let inner : n + k < length bs = omega arith in
      let low = up 0 n d some (omega arith) in
      let further = up_to k d inner in
      let at = ap (λ (b : BlockView). b.source) (get_or-drop n bs k d) in
      let here = first d in
      elim (eqb_tells (get_or bs n d).source (get_or bs 0 d).source) [
        | inl same ↦ absurd (most d (omega arith) same.1)
        | inr apart ↦ let ne = apart.1 in omega arith
      ]

  pub up_back : AllPairs (λ a b. a.source ≤ b.source) (drop n bs)
  up_back i j d lt within =
      let more = length-drop n bs in
      let a = ap (λ (b : BlockView). b.source) (get_or-drop n bs i d) in
      let b = ap (λ (x : BlockView). x.source) (get_or-drop n bs j d) in
      let le = up (n + i) (n + j) d (omega arith) (omega arith) in
      omega arith

  pub front_some : 0 < length (take n bs)
  front_some = let long = length-take-le n bs inside in omega arith
