-- Pieces of a part: what a changed piece leaves, and what a split does.
use Rattle.std.proofs.Common.{◌≡◌, ◌≢◌, ℕ, suc, ◌+◌, ◌<◌, ◌≤◌, List, [], ◌∷◌, length, get_or, set, Option}
use Rattle.std.proofs.Common.{refl, sym, ap, ◌∙◌, arith, nat_eq, subst, inl, inr}
use Rattle.std.proofs.{lemmas.Bool.cases_lt, lemmas.Bool.Decides.eqb_tells, Math.Seq.map-set_same}
use Rattle.std.proofs.lemmas.List.{length-map, get_or-map, map-set, get_or-set_same, get_or-set_other, get_or_default}
use Rattle.std.proofs.lemmas.List.Edits.{length-insert, get_or-insert_below, get_or-insert_at, get_or-insert_above}
use Rattle.std.specs.{List.insert, List.AllZip, Map.lookup, declared.sync.Arc.Arc, declared.alloc.Global.Global}
use Rattle.graph_types.proofs.ListPlaces.{map-insert}
use Rattle.vertex_names.specs.{declared.piece.Piece.Piece, Order.{firsts, IsRising, last_place, found_in}, Pieces.piece_entries}
use Rattle.vertex_names.{specs.Pieces.pieces_of, proofs.Places.{rising-insert, place-before, place-lower, place-upper}}
use Rattle.vertex_names.proofs.{Places.place-behind, Entries.{Pairs, firsts-insert, first_read}}

abbrev pub Spans : Type 0
Spans = List (ℕ × Pairs)

-- what stands at a hash is what its piece has
found_by : (vs : Spans) (q k : ℕ) → last_place (firsts vs) q ≡ k → found_in vs q ≡ lookup (nat_eq q) (get_or vs k (0, [])).1
found_by vs q k is = ap (λ n. lookup (nat_eq q) (get_or vs n (0, [])).1) is

module _ (vs : Spans) (p : ℕ) (y : Pairs) (lt : p < length vs) where
  abbrev pub low : ℕ
  low = (get_or vs p (0, [])).0

  abbrev pub old : Pairs
  old = (get_or vs p (0, [])).1

  abbrev pub changed : Spans
  changed = set vs p (low, y)

  same_lows : firsts changed ≡ firsts vs
  same_lows = map-set_same (λ (v : ℕ × Pairs). v.0) vs p (low, y) (0, []) refl

  -- at the place there is the changed piece, and elsewhere what was there
  changed_here : (q : ℕ) → last_place (firsts vs) q ≡ p → found_in changed q ≡ lookup (nat_eq q) y
  changed_here q is =
      found_by changed q p (ap (λ ns. last_place ns q) same_lows ∙ is)
      ∙ ap (λ (v : ℕ × Pairs). lookup (nat_eq q) v.1) (get_or-set_same vs p (low, y) (0, []) lt)

  changed_there : (q : ℕ) → last_place (firsts vs) q ≢ p → found_in changed q ≡ found_in vs q
  changed_there q other =
      found_by changed q (last_place (firsts vs) q) (ap (λ ns. last_place ns q) same_lows)
      ∙ ap (λ (v : ℕ × Pairs). lookup (nat_eq q) v.1) (get_or-set_other vs p (last_place (firsts vs) q) (low, y) (0, []) other)

  pub piece_changed : (change : ℕ → Option ℕ → Option ℕ)
      → ((q : ℕ) → lookup (nat_eq q) y ≡ change q (lookup (nat_eq q) old))
      → ((q : ℕ) (o : Option ℕ) → last_place (firsts vs) q ≢ p → change q o ≡ o)
      → (q : ℕ) → found_in changed q ≡ change q (found_in vs q)
  piece_changed change here elsewhere q = elim (eqb_tells (last_place (firsts vs) q) p) [
    | inl is ↦ changed_here q is.1 ∙ here q ∙ ap (change q) (sym (found_by vs q p is.1))
    | inr other ↦ changed_there q other.1 ∙ sym (elsewhere q (found_in vs q) other.1)
  ]

-- a piece that was split where its hashes pass a number
module _ (vs : Spans) (p m : ℕ) (lower upper : Pairs) (rising : IsRising (firsts vs)) (lt : p < length vs)
    (over : get_or (firsts vs) p 0 < m) (is : last_place (firsts vs) m ≡ p)
    (left : (q : ℕ) → q < m → lookup (nat_eq q) lower ≡ lookup (nat_eq q) (get_or vs p (0, [])).1)
    (right : (q : ℕ) → m ≤ q → lookup (nat_eq q) upper ≡ lookup (nat_eq q) (get_or vs p (0, [])).1) where
  abbrev pub more : Spans
  more = insert vs (suc p) (m, upper)

  abbrev pub split : Spans
  split = set more p ((get_or vs p (0, [])).0, lower)

  within : p < length (firsts vs)
  within = let long = length-map vs (λ (v : ℕ × Pairs). v.0) in omega (arith, long, lt)

  more_long : length more ≡ length vs + 1
  more_long = length-insert vs (suc p) (m, upper) (omega (arith, lt))

  here : get_or more p (0, []) ≡ get_or vs p (0, [])
  here = get_or-insert_below vs (suc p) (m, upper) (0, []) p (omega arith) (omega (arith, lt))

  split_lows : firsts split ≡ insert (firsts vs) (suc p) m
  split_lows = map-set_same (λ (v : ℕ × Pairs). v.0) more p ((get_or vs p (0, [])).0, lower) (0, [])
      (ap (λ (v : ℕ × Pairs). v.0) (sym here)) ∙ firsts-insert vs (suc p) (m, upper)

  split_rising : IsRising (firsts split)
  split_rising = rw split_lows (rising-insert (firsts vs) p m rising within over is)

  at : (q k : ℕ) → last_place (insert (firsts vs) (suc p) m) q ≡ k
      → found_in split q ≡ lookup (nat_eq q) (get_or split k (0, [])).1
  at q k place = found_by split q k (ap (λ ns. last_place ns q) split_lows ∙ place)

  apart : (k : ℕ) → k ≢ p → get_or split k (0, []) ≡ get_or more k (0, [])
  apart k other = get_or-set_other more p k ((get_or vs p (0, [])).0, lower) (0, []) other

  from : (q : ℕ) (a b : ℕ × Pairs) → a ≡ b → lookup (nat_eq q) a.1 ≡ lookup (nat_eq q) b.1
  from q a b same = ap (λ (v : ℕ × Pairs). lookup (nat_eq q) v.1) same

  split_same : (q : ℕ) → found_in split q ≡ found_in vs q
  split_same q =
      let k = last_place (firsts vs) q in
      elim (cases_lt k p) [
        | inl before ↦
            at q k (place-before (firsts vs) p m rising within over is q before)
            ∙ from q _ _ (apart k (λ same. omega (arith, before, same))
            ∙ get_or-insert_below vs (suc p) (m, upper) (0, []) k (omega (arith, before)) (omega (arith, lt)))
        | inr behind ↦ elim (cases_lt p k) [
          | inl beyond ↦
              at q (suc k) (place-behind (firsts vs) p m rising within over is q beyond)
              ∙ from q _ _ (apart (suc k) (λ same. omega (arith, beyond, same))
              ∙ subst (λ (n : ℕ). get_or more n (0, []) ≡ get_or vs k (0, [])) {x = k + 1} (omega arith)
              (get_or-insert_above vs (suc p) (m, upper) (0, []) k (omega (arith, beyond)) (omega (arith, lt))))
          | inr not_beyond ↦
              let e : k ≡ p = omega (arith, behind, not_beyond) in
              elim (cases_lt q m) [
                | inl less ↦
                    at q p (place-lower (firsts vs) p m rising within over is q e less)
                    ∙ from q _ _ (get_or-set_same more p ((get_or vs p (0, [])).0, lower) (0, []) (omega (arith, more_long, lt)))
                    ∙ left q less ∙ sym (found_by vs q p e)
                | inr le ↦
                    at q (suc p) (place-upper (firsts vs) p m rising within over is q e le)
                    ∙ from q _ _ (apart (suc p) (λ same. omega (arith, same))
                    ∙ get_or-insert_at vs (suc p) (m, upper) (0, []) (omega (arith, lt)))
                    ∙ right q le ∙ sym (found_by vs q p e)
              ]
        ]
      ]

  pub split_here : IsRising (firsts split) × ((q : ℕ) → found_in split q ≡ found_in vs q)
  split_here = (split_rising, split_same)

-- copies of pieces
pub spans_same : (xs ys : List (ℕ × Arc Piece Global)) → AllZip (λ x y. (y.0 ≡ x.0) × (piece_entries y.1 ≡ piece_entries x.1)) xs ys
    → pieces_of ys ≡ pieces_of xs
spans_same [] [] same = refl
spans_same (x ∷ xs) (y ∷ ys) same =
    let tail : pieces_of ys ≡ pieces_of xs = spans_same xs ys same.1 in
    let one : y.0 ≡ x.0 = same.0.0 in let two : piece_entries y.1 ≡ piece_entries x.1 = same.0.1 in
    ap (λ n. (n, piece_entries y.1) ∷ pieces_of ys) one ∙ ap (λ es. (x.0, es) ∷ pieces_of ys) two
    ∙ ap (λ l. (x.0, piece_entries x.1) ∷ l) tail
spans_same _ _ same = absurd same

-- pieces as they are shown
pub shown_lows : (ps : List (ℕ × Arc Piece Global)) → firsts (pieces_of ps) ≡ firsts ps
shown_lows [] = refl
shown_lows (p ∷ ps) = ap (λ l. p.0 ∷ l) (shown_lows ps)

pub lows_same : (xs ys : List (ℕ × Arc Piece Global)) → pieces_of ys ≡ pieces_of xs → firsts ys ≡ firsts xs
lows_same xs ys same = sym (shown_lows ys) ∙ ap (λ (l : Spans). firsts l) same ∙ shown_lows xs

abbrev shown : ℕ × Arc Piece Global → ℕ × Pairs
shown p = (p.0, piece_entries p.1)

-- a piece that was read
read_shown : (ps : List (ℕ × Arc Piece Global)) (p : ℕ) (x : ℕ × Arc Piece Global) → p < length ps → x ≡ get_or ps p x
    → get_or (pieces_of ps) p (0, []) ≡ shown x
read_shown ps p x lt is = get_or-map shown ps p x (0, []) lt ∙ ap shown (sym is)

-- what stands at a hash, from the piece that was read
pub found_read : (ps : List (ℕ × Arc Piece Global)) (q p : ℕ) (x : ℕ × Arc Piece Global) → p ≡ last_place (firsts ps) q
    → p < length ps → x ≡ get_or ps p x → found_in (pieces_of ps) q ≡ lookup (nat_eq q) (piece_entries x.1)
found_read ps q p x place lt is =
    found_by (pieces_of ps) q p (ap (λ ns. last_place ns q) (shown_lows ps) ∙ sym place)
    ∙ ap (λ (v : ℕ × Pairs). lookup (nat_eq q) v.1) (read_shown ps p x lt is)

-- a piece that has changed, in its place
module _ (ps : List (ℕ × Arc Piece Global)) (p : ℕ) (x : ℕ × Arc Piece Global) (b : Arc Piece Global) (lt : p < length ps)
    (is : x ≡ get_or ps p x) where
  long_shown : p < length (pieces_of ps)
  long_shown = let l = length-map ps shown in omega (arith, l, lt)

  set_shown : pieces_of (set ps p (x.0, b)) ≡ changed (pieces_of ps) p (piece_entries b) long_shown
  set_shown = map-set shown ps p (x.0, b)
      ∙ ap (λ (n : ℕ). set (pieces_of ps) p (n, piece_entries b)) (ap (λ (v : ℕ × Pairs). v.0) (sym (read_shown ps p x lt is)))

  pub set_lows : firsts (set ps p (x.0, b)) ≡ firsts ps
  set_lows = map-set_same (λ (v : ℕ × Arc Piece Global). v.0) ps p (x.0, b) x (ap (λ (v : ℕ × Arc Piece Global). v.0) is)

  pub set_changed : (change : ℕ → Option ℕ → Option ℕ)
      → ((q : ℕ) → lookup (nat_eq q) (piece_entries b) ≡ change q (lookup (nat_eq q) (piece_entries x.1)))
      → ((q : ℕ) (o : Option ℕ) → last_place (firsts ps) q ≢ p → change q o ≡ o)
      → (q : ℕ) → found_in (pieces_of (set ps p (x.0, b))) q ≡ change q (found_in (pieces_of ps) q)
  set_changed change here elsewhere q =
      ap (λ (vs : Spans). found_in vs q) set_shown
      ∙ piece_changed (pieces_of ps) p (piece_entries b) long_shown change
      (λ r. here r ∙ ap (λ (s : ℕ × Pairs). change r (lookup (nat_eq r) s.1)) (sym (read_shown ps p x lt is)))
      (λ r o other. elsewhere r o (λ at. other (ap (λ ns. last_place ns r) (shown_lows ps) ∙ at))) q

-- two pieces in the place of one
module _ (ps : List (ℕ × Arc Piece Global)) (p m : ℕ) (h x : ℕ × Arc Piece Global) (lower upper : Arc Piece Global)
    (rising : IsRising (firsts ps)) (lt : p < length ps) (h_is : h ≡ get_or ps p h)
    (x_is : x ≡ get_or (insert ps (p + 1) (m, upper)) p x) (over : h.0 < m) (is : last_place (firsts ps) m ≡ p)
    (left : (q : ℕ) → q < m → lookup (nat_eq q) (piece_entries lower) ≡ lookup (nat_eq q) (piece_entries h.1))
    (right : (q : ℕ) → m ≤ q → lookup (nat_eq q) (piece_entries upper) ≡ lookup (nat_eq q) (piece_entries h.1)) where
  abbrev pub two : List (ℕ × Arc Piece Global)
  two = set (insert ps (p + 1) (m, upper)) p (x.0, lower)

  old_shown : get_or (pieces_of ps) p (0, []) ≡ shown h
  old_shown = read_shown ps p h lt h_is

  within_shown : p < length (pieces_of ps)
  within_shown = let l = length-map ps shown in omega (arith, l, lt)

  x_low : x.0 ≡ (get_or (pieces_of ps) p (0, [])).0
  x_low =
      let far : p < p + 1 = omega arith in
      let room : p + 1 ≤ length ps = omega (arith, lt) in
      ap (λ (v : ℕ × Arc Piece Global). v.0)
      (x_is ∙ get_or-insert_below ps (p + 1) (m, upper) x p far room ∙ get_or_default ps p x h lt ∙ sym h_is)
      ∙ ap (λ (v : ℕ × Pairs). v.0) (sym old_shown)

  over_shown : get_or (firsts (pieces_of ps)) p 0 < m
  over_shown =
      let low : get_or (firsts (pieces_of ps)) p 0 ≡ h.0 =
      ap (λ ns. get_or ns p 0) (shown_lows ps) ∙ first_read ps p h lt h_is in omega (arith, low, over)

  is_shown : last_place (firsts (pieces_of ps)) m ≡ p
  is_shown = ap (λ ns. last_place ns m) (shown_lows ps) ∙ is

  rising_shown : IsRising (firsts (pieces_of ps))
  rising_shown = rw (shown_lows ps) rising

  left_shown : (q : ℕ) → q < m → lookup (nat_eq q) (piece_entries lower) ≡ lookup (nat_eq q) (get_or (pieces_of ps) p (0, [])).1
  left_shown q less = left q less ∙ ap (λ (v : ℕ × Pairs). lookup (nat_eq q) v.1) (sym old_shown)

  right_shown : (q : ℕ) → m ≤ q → lookup (nat_eq q) (piece_entries upper) ≡ lookup (nat_eq q) (get_or (pieces_of ps) p (0, [])).1
  right_shown q le = right q le ∙ ap (λ (v : ℕ × Pairs). lookup (nat_eq q) v.1) (sym old_shown)

  two_shown : pieces_of two
      ≡ set (insert (pieces_of ps) (suc p) (m, piece_entries upper)) p ((get_or (pieces_of ps) p (0, [])).0, piece_entries lower)
  two_shown =
      let next : p + 1 ≡ suc p = omega arith in
      map-set shown (insert ps (p + 1) (m, upper)) p (x.0, lower)
      ∙ ap (λ (vs : Spans). set vs p (x.0, piece_entries lower)) (map-insert shown ps (p + 1) (m, upper)
      ∙ ap (λ (k : ℕ). insert (pieces_of ps) k (m, piece_entries upper)) next)
      ∙ ap (λ (n : ℕ). set (insert (pieces_of ps) (suc p) (m, piece_entries upper)) p (n, piece_entries lower)) x_low

  pub split_in_two : IsRising (firsts two) × ((q : ℕ) → found_in (pieces_of two) q ≡ found_in (pieces_of ps) q)
  split_in_two =
      let (rises, same) = split_here (pieces_of ps) p m (piece_entries lower) (piece_entries upper) rising_shown within_shown over_shown
      is_shown left_shown right_shown in (
        rw (sym (shown_lows two) ∙ ap (λ (vs : Spans). firsts vs) two_shown) rises,
        λ q. ap (λ (vs : Spans). found_in vs q) two_shown ∙ same q,
      )
