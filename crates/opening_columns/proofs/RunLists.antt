-- Edges in runs, as far as a loop has come.
use Rattle.std.proofs.Common.{◌≡◌, ℕ, zero, suc, ◌+◌, ◌<◌, ◌≤◌, List, [], ◌∷◌, ◌++◌, map, length, get_or, take, drop, set, refl, sym, ap, subst, ◌∙◌, arith, All, AllPairs, append_assoc}
use Rattle.std.proofs.Common.{length-append, ap₂, inl, inr}
use Rattle.std.specs.{Prelude.flat_map, List.AllZip}
use Rattle.std.proofs.lemmas.{Grind.{flat_map-append}, Bool.Decides.eqb_tells, List.{map-append, append-nil, Quantifiers.all_pairs_push}}
use Rattle.std.proofs.lemmas.List.{get_or-take, get_or-drop, get_or_default, length-take, length-take-le, length-drop}
use Rattle.std.proofs.Math.Seq.{drop-cons, take-append_seam}
use Rattle.std.proofs.lemmas.List.{length-map, take_more, take_more_set}
use Rattle.std.specs.declared.{sync.Arc.Arc, alloc.Global.Global}
use Rattle.edge_block.specs.declared.blocks.Block.{Block}
use Rattle.graph_version.specs.{Rows.numbers_of, Sharing.{block_value, block_values}}
use Rattle.graph_types.proofs.ListPlaces.{room_in, map_take, drop_front}
use Rattle.std.proofs.lemmas.List.{take-append-drop, Elements.{All-append, All-cons, All-nil}}
use Rattle.graph_types.specs.{Graph.{Key, key_of}, declared.ids.Edge.Edge}
use Rattle.edge_block.specs.Slots.{BlockView, empty_block, with_slots}
use Rattle.opening_columns.specs.{Puts.{key_number, IsWithinWalls}, Edges.{AreRising, IsWithinBounds, edge_number}, Runs.{AreAlike, AreFilled, AreRuns, IsFilled, IsFullBefore, IsRun, slots_of_run}}

-- runs of the first edges, and what is left: a run of fewer than 32 is none of those
pub record AreSoFar (edges rest : List Edge) (lengths : List ℕ) : Type 0 where
  pub runs : List (List Edge)
  pub all : flat_map (λ run. run) runs ++ rest ≡ edges
  pub each : All IsRun runs
  pub packed : AllPairs IsFullBefore runs
  pub lengths_are : map length runs ≡ lengths
  pub past : All (λ run. length run < 32 → All (λ e. (d : Edge) → AreAlike (get_or run 0 d) e → ⊥) rest) runs
  pub rising : AreRising rest
  pub range : All IsWithinBounds rest

pub none_yet : (edges : List Edge) → AreRising edges → All IsWithinBounds edges → AreSoFar edges edges []
none_yet edges up in_range = record {
  runs = [];
  all = refl;
  each = λ k d lt. absurd (omega arith);
  packed = λ i j d lt within. absurd (omega arith);
  lengths_are = refl;
  past = λ k d lt. absurd (omega arith);
  rising = up;
  range = in_range;
}

-- all are in runs
pub all_so_far : (edges rest : List Edge) (lengths : List ℕ) → AreSoFar edges rest lengths → length rest ≡ 0
    → (runs : List (List Edge)) × AreRuns edges runs × (map length runs ≡ lengths)
all_so_far edges [] lengths so none = (
  so.runs,
  record {
    all = sym (append-nil (flat_map (λ (run : List Edge). run) so.runs)) ∙ so.all;
    each = so.each;
    packed = so.packed;
  },
  so.lengths_are,
)
all_so_far edges (e ∷ rest) lengths so none = absurd (omega arith)

-- A part of edges by rising numbers

pub rising_front : (n : ℕ) (es : List Edge) → AreRising es → AreRising (take n es)
rising_front n es up i j d lt within =
    let few = length-take n es in
    let a = get_or-take n es i d (omega arith) in
    let b = get_or-take n es j d (omega arith) in
    let less = up i j d lt (omega arith) in
    omega (arith, ap edge_number a, ap edge_number b, less)

pub rising_back : (n : ℕ) (es : List Edge) → AreRising es → AreRising (drop n es)
rising_back n es up i j d lt within =
    let few = length-drop n es in
    let a = get_or-drop n es i d in
    let b = get_or-drop n es j d in
    let less = up (n + i) (n + j) d (omega arith) (omega arith) in
    omega (arith, ap edge_number a, ap edge_number b, less)

pub range_front : (n : ℕ) (es : List Edge) → All IsWithinBounds es → All IsWithinBounds (take n es)
range_front n es all i d lt =
    let few = length-take n es in
    subst IsWithinBounds (sym (get_or-take n es i d (omega arith))) (all i d (omega arith))

pub range_back : (n : ℕ) (es : List Edge) → All IsWithinBounds es → All IsWithinBounds (drop n es)
range_back n es all i d lt =
    let few = length-drop n es in subst IsWithinBounds (sym (get_or-drop n es i d)) (all (n + i) d (omega arith))

-- One run more

group_between : (a b c : Key) → IsWithinWalls a → IsWithinWalls b → IsWithinWalls c → key_number a ≤ key_number b
    → key_number b ≤ key_number c → a.source ≡ c.source → a.kind ≡ c.kind → (a.source ≡ b.source) × (a.kind ≡ b.kind)
group_between a b c wa wb wc low high source kind = (omega arith, omega arith)

module _ (edges rest : List Edge) (lengths : List ℕ) (n : ℕ) (so : AreSoFar edges rest lengths)
    (some : 0 < n) (within : n ≤ length rest) (few : n ≤ 32)
    (alike : (i : ℕ) (d : Edge) → i < n → AreAlike (get_or rest 0 d) (get_or rest i d))
    (most : (d : Edge) → n < 32 → n < length rest → AreAlike (get_or rest 0 d) (get_or rest n d) → ⊥) where
  long : length (take n rest) ≡ n
  long = length-take-le n rest within

  is_run : IsRun (take n rest)
  is_run = record {
    some = omega (arith, long);
    few = omega (arith, long);
    alike = λ i j d lt lt'.
        let a = alike i d (omega (arith, long)) in
        let b = alike j d (omega (arith, long)) in
        let at_i = get_or-take n rest i d (omega (arith, long)) in
        let at_j = get_or-take n rest j d (omega (arith, long)) in (
          ap (λ (e : Edge). e.source.0) at_i ∙ sym a.0 ∙ b.0 ∙ sym (ap (λ (e : Edge). e.source.0) at_j),
          ap (λ (e : Edge). e.kind.0) at_i ∙ sym a.1 ∙ b.1 ∙ sym (ap (λ (e : Edge). e.kind.0) at_j),
        );
  }

  le_from : (k : ℕ) (d : Edge) → n + k < length rest → edge_number (get_or rest n d) ≤ edge_number (get_or rest (n + k) d)
  le_from zero d lt =
      let none : n + zero ≡ n = omega arith in
      let same = ap (λ (m : ℕ). edge_number (get_or rest m d)) none in
      omega arith
  le_from (suc k) d lt = let less = so.rising n (n + suc k) d (omega arith) lt in omega arith

  -- none behind a shorter run is like it
  unlike : length (take n rest) < 32 → All (λ e. (d : Edge) → AreAlike (get_or (take n rest) 0 d) e → ⊥) (drop n rest)
  unlike short k d lt e same =
      let more = length-drop n rest in
      let inside : n + k < length rest = omega arith in
      let head = get_or-take n rest 0 e some in
      let at = get_or-drop n rest k d in
      let last : Edge = get_or rest (n + k) e in
      let default : get_or rest (n + k) d ≡ last = get_or_default rest (n + k) d e inside in
      let alike_last : AreAlike (get_or rest 0 e) last =
      subst (λ (x : Edge). AreAlike (get_or rest 0 e) x) (at ∙ default)
      (subst (λ (x : Edge). AreAlike x (get_or (drop n rest) k d)) head same) in
      let up = so.rising 0 n e some (omega arith) in
      let further = le_from k e inside in
      let between = group_between (key_of (get_or rest 0 e)) (key_of (get_or rest n e)) (key_of last)
      (so.range 0 e (omega arith)).walls (so.range n e (omega arith)).walls (so.range (n + k) e inside).walls (omega arith) (omega arith)
      alike_last.0 alike_last.1 in
      most e (omega (arith, long)) (omega arith) between

  pub one_run_more : AreSoFar edges (drop n rest) (lengths ++ n ∷ [])
  one_run_more = record {
    runs = so.runs ++ take n rest ∷ [];
    all = ap (λ (l : List Edge). l ++ drop n rest) (flat_map-append (λ (r : List Edge). r) so.runs (take n rest ∷ []))
        ∙ append_assoc (flat_map (λ (r : List Edge). r) so.runs) (take n rest ++ []) (drop n rest)
        ∙ ap (λ (l : List Edge). flat_map (λ (r : List Edge). r) so.runs ++ l)
        (ap (λ (l : List Edge). l ++ drop n rest) (append-nil (take n rest)) ∙ take-append-drop n rest)
        ∙ so.all;
    each = All-append IsRun so.runs (take n rest ∷ []) so.each (All-cons IsRun (take n rest) [] is_run (All-nil IsRun));
    packed = all_pairs_push IsFullBefore so.runs (take n rest) so.packed (λ k d lt e first.
        elim (eqb_tells (length (get_or so.runs k d)) 32) [
          | inl same ↦ same.1
          | inr apart ↦
              let short : length (get_or so.runs k d) < 32 =
              (let few = (so.each k d lt).few in let ne = apart.1 in omega arith) in
              absurd (so.past k d lt short 0 e (omega arith) e
              (subst (λ (x : Edge). AreAlike (get_or (get_or so.runs k d) 0 e) x) (get_or-take n rest 0 e some) first))
        ]);
    lengths_are = map-append length so.runs (take n rest ∷ []) ∙ ap₂ (λ (xs ys : List ℕ). xs ++ ys) so.lengths_are
        (ap (λ (m : ℕ). m ∷ []) long);
    past = All-append (λ r. length r < 32 → All (λ e. (d : Edge) → AreAlike (get_or r 0 d) e → ⊥) (drop n rest)) so.runs
        (take n rest ∷ [])
        (λ k d lt short i f lt' e same. let more = length-drop n rest in
        so.past k d lt short (n + i) f (omega arith) e
        (subst (λ (x : Edge). AreAlike (get_or (get_or so.runs k d) 0 e) x) (get_or-drop n rest i f) same))
        (All-cons (λ r. length r < 32 → All (λ e. (d : Edge) → AreAlike (get_or r 0 d) e → ⊥) (drop n rest)) (take n rest) [] unlike
        (All-nil (λ r. length r < 32 → All (λ e. (d : Edge) → AreAlike (get_or r 0 d) e → ⊥) (drop n rest))));
    rising = rising_back n rest so.rising;
    range = range_back n rest so.range;
  }

-- A run that is given to a block

all_zip_push : {A B : Type 0} (R : A → B → Type 0) (xs : List A) (ys : List B) (x : A) (y : B) → AllZip R xs ys → R x y
    → AllZip R (xs ++ x ∷ []) (ys ++ y ∷ [])
all_zip_push R [] [] x y all here = (here, tt)
all_zip_push R [] (b ∷ ys) x y all here = absurd all
all_zip_push R (a ∷ xs) [] x y all here = absurd all
all_zip_push R (a ∷ xs) (b ∷ ys) x y all here = (all.0, all_zip_push R xs ys x y all.1 here)

module _ (edges rest : List Edge) (lengths : List ℕ) (place : ℕ) (runs : List (List Edge)) (are : AreRuns edges runs)
    (long : map length runs ≡ lengths) (left : flat_map (λ run. run) (drop place runs) ≡ rest) (lt : place < length lengths) where
  within : place < length runs
  within = let many = length-map runs (length {A = Edge}) in let same = ap length long in omega arith

  abbrev pub the_run : List Edge
  the_run = get_or runs place []

  pub length_is : get_or lengths place 0 ≡ length the_run
  length_is = ap (λ (ns : List ℕ). get_or ns place 0) (sym long) ∙ room_in runs place

  split : rest ≡ the_run ++ flat_map (λ run. run) (drop (place + 1) runs)
  split =
      sym left ∙ ap (flat_map (λ (r : List Edge). r)) (drop-cons runs place [] within)
      ∙ ap (λ (m : ℕ). get_or runs place [] ++ flat_map (λ (r : List Edge). r) (drop m runs)) (next place) where
        next : (m : ℕ) → suc m ≡ m + 1
        next m = omega arith

  pub fits : get_or lengths place 0 ≤ length rest
  fits =
      let whole = ap length split in
      let parts = length-append the_run (flat_map (λ run. run) (drop (place + 1) runs)) in omega (arith, length_is)

  pub front_is : take (get_or lengths place 0) rest ≡ the_run
  front_is = (λ i. take (length_is i) (split i)) ∙ take-append_seam the_run (flat_map (λ run. run) (drop (place + 1) runs))

  pub back_is : flat_map (λ run. run) (drop (place + 1) runs) ≡ drop (get_or lengths place 0) rest
  back_is = sym ((λ i. drop (length_is i) (split i)) ∙ drop_front the_run (flat_map (λ run. run) (drop (place + 1) runs)))

  pub run_is : IsRun the_run
  run_is = are.each place [] within

  pub runs_more : take (place + 1) runs ≡ take place runs ++ the_run ∷ []
  runs_more = take_more runs place [] within

-- blocks of which one was filled

pub numbers_set : (bs : List (Arc Block Global)) (p : ℕ) (a d : Arc Block Global) → p < length bs
    → (block_value a).number ≡ (block_value (get_or bs p d)).number → numbers_of (block_values (set bs p a)) ≡ numbers_of (block_values bs)
numbers_set [] p a d lt same = refl
numbers_set (b ∷ bs) zero a d lt same = ap (λ (n : ℕ). n ∷ numbers_of (block_values bs)) same
numbers_set (b ∷ bs) (suc p) a d lt same =
    ap (λ (ns : List ℕ). (block_value b).number ∷ ns) (numbers_set bs p a d (omega arith) same)

pub filled_more : (runs : List (List Edge)) (bs : List (Arc Block Global)) (p : ℕ) (a : Arc Block Global) (run : List Edge)
    → p < length bs → take (p + 1) runs ≡ take p runs ++ run ∷ [] → AreFilled (take p runs) (take p (block_values bs))
    → IsFilled run (block_value a) → AreFilled (take (p + 1) runs) (take (p + 1) (block_values (set bs p a)))
filled_more runs bs p a run lt more all here =
    let blocks : take (p + 1) (block_values (set bs p a)) ≡ take p (block_values bs) ++ block_value a ∷ [] =
    sym (map_take block_value (p + 1) (set bs p a)) ∙ ap block_values (take_more_set bs p a lt)
    ∙ map-append block_value (take p bs) (a ∷ []) ∙ ap (λ (xs : List BlockView). xs ++ block_value a ∷ []) (map_take block_value p bs) in
    subst (λ (xs : List BlockView). AreFilled (take (p + 1) runs) xs) (sym blocks)
    (subst (λ (rs : List (List Edge)). AreFilled rs (take p (block_values bs) ++ block_value a ∷ [])) (sym more)
    (all_zip_push IsFilled (take p runs) (take p (block_values bs)) run (block_value a) all here))

-- a block of a run
pub filled_is : (run : List Edge) (d : Edge) (number : ℕ) (b : BlockView) → IsRun run
    → b ≡ with_slots (empty_block number (get_or run 0 d).source.0 (get_or run 0 d).kind.0) (slots_of_run run) → IsFilled run b
filled_is run d number b is same = record {
  source = λ i e lt.
      (is.alike i 0 e lt is.some).0 ∙ ap (λ (x : Edge). x.source.0) (get_or_default run 0 e d is.some) ∙ sym (ap (λ (x : BlockView). x.source) same);
  kind = λ i e lt.
      (is.alike i 0 e lt is.some).1 ∙ ap (λ (x : Edge). x.kind.0) (get_or_default run 0 e d is.some) ∙ sym (ap (λ (x : BlockView). x.kind) same);
  slots = ap (λ (x : BlockView). x.slots) same;
}
