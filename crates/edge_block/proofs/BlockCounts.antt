-- Blocks counted, put together and told apart by their source or number.
use Rattle.std.proofs.Common.{◌≡◌, ℕ, suc, ◌+◌, ◌<◌, Bool, cond, not, ◌&&◌, ◌≢◌, List, [], ◌∷◌, map, length, get_or}
use Rattle.std.proofs.Common.{if◌then◌else◌, ◌==◌, All, count_by, flat_map, inl, inr, refl, sym, ap, ap₂, ◌∙◌, arith}
use Rattle.std.proofs.lemmas.{Bool.Decides.eqb_tells, Grind.common_steps, List.{map-append, Elements.{All-head, All-tail}}}
use Rattle.std.proofs.lemmas.List.Sums.{sum_by-cons}
use Rattle.std.specs.List.{sum_by}
use Rattle.graph_types.proofs.Sums.{count_by-append}
use Rattle.graph_types.proofs.Times.{times}
use Rattle.edge_block.specs.Slots.{BlockView}

-- where a row took the place of a source's row
pub at_source : (source s : ℕ) (row rest : List BlockView) → s ≡ source → (if s == source then row else rest) ≡ row
at_source source s row rest same = elim (eqb_tells s source) [ inl e ↦ rw e.0 refl | inr e ↦ absurd (e.1 same) ]

pub elsewhere : (source s : ℕ) (row rest : List BlockView) → s ≢ source → (if s == source then row else rest) ≡ rest
elsewhere source s row rest apart = elim (eqb_tells s source) [ inl e ↦ absurd (apart e.1) | inr e ↦ rw e.0 refl ]

-- one block: it stays or is dropped, and what stays or is written is there after
pub one_before : (t : Bool) (b : BlockView) (o : List BlockView) (p : BlockView → Bool)
    → count_by p (cond t [] (b ∷ [])) + count_by p (cond t o []) ≡ count_by p (cond t o (b ∷ []))
one_before t b o p = grind (arith, common_steps)

pub one_after : (t n : Bool) (b : BlockView) (p : BlockView → Bool)
    → count_by p (cond t [] (b ∷ [])) + count_by p (cond (t && not n) (b ∷ []) []) ≡ count_by p (cond (t && n) [] (b ∷ []))
one_after t n b p = grind (arith, common_steps)

-- one block: each number is kept or handed back
pub one_number : (t n : Bool) (b : BlockView) (q : ℕ → Bool)
    → count_by q (map (λ b. b.number) (cond (t && not n) (b ∷ []) [])) + count_by q (cond (t && n) (b.number ∷ []) [])
    ≡ count_by q (cond t (b.number ∷ []) []) + count_by q []
one_number t n b q = grind (arith, common_steps)

pub map_same : (h f : BlockView → ℕ) (bs : List BlockView) → All (λ b. h b ≡ f b) bs → map h bs ≡ map f bs
map_same h f [] same = refl
map_same h f (b ∷ bs) same = ap₂ (λ x xs. x ∷ xs) (All-head (λ b. h b ≡ f b) b bs same)
    (map_same h f bs (All-tail (λ b. h b ≡ f b) b bs same))

pub count_pieces : {A : Type 0} (q : ℕ → Bool) (f : BlockView → ℕ) (pieces : A → List BlockView) (xs : List A)
    → count_by q (map f (flat_map pieces xs)) ≡ sum_by (λ x. count_by q (map f (pieces x))) xs
count_pieces q f pieces [] = refl
count_pieces q f pieces (x ∷ xs) =
    ap (count_by q) (map-append f (pieces x) (flat_map pieces xs)) ∙ count_by-append q (map f (pieces x)) (map f (flat_map pieces xs))
    ∙ ap (λ k. count_by q (map f (pieces x)) + k) (count_pieces q f pieces xs)
    ∙ sym (sum_by-cons (λ x. count_by q (map f (pieces x))) x xs)

pub split_count : (p : BlockView → Bool) (b : Bool) (row : List BlockView)
    → count_by p row ≡ count_by p (cond b row []) + (let k : ℕ = cond b 0 (count_by p row) in k)
split_count p b row = grind (arith, common_steps)

-- how many blocks the row of a source has, where the first row is that of a first source
abbrev pub length_at : ℕ → List (List BlockView) → ℕ → ℕ
length_at first [] s = 0
length_at first (row ∷ rows) s = cond (s == first) (length row) 0 + length_at (suc first) rows s

pub default_same : (bs : List BlockView) (k : ℕ) (d : BlockView) → k < length bs → get_or bs k (get_or bs k d) ≡ get_or bs k d
default_same bs k d h = grind (arith, common_steps)

-- the rows of the sources that aren't listed
abbrev pub rows_of_others : List ℕ → (ℕ → List BlockView) → ℕ → List BlockView
rows_of_others xs rows s = cond (times s xs == 0) (rows s) []
