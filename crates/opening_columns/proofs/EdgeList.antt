-- Edges listed by rising numbers, as rows come by rising numbers.
use Rattle.std.proofs.Common.{◌≡◌, ℕ, ◌<◌, ◌≤◌, ◌-◌, Bool, true, false, cond, List, [], ◌∷◌, ◌++◌, length, get_or, take, refl, sym, ap, subst, ◌∙◌, arith, All, Option, Some, None, is_some}
use Rattle.std.proofs.lemmas.{Grind.common_steps}
use Rattle.std.specs.{Ordering.eq_by_cmp, FinMap.{FinMap, get, insert, from_entries_push, same_map, get-insert}}
use Rattle.graph_types.specs.{Graph.{Key, Stamp, key_cmp, key_of, stamp_of, entry_of, map_of}, Step.{set_at, stamp_after, makes_names}}
use Rattle.graph_types.specs.{Graph.{IsWeight, IsTime}, Changes.{AreMarks, stamp_in}, declared.changes.EdgeMarks.EdgeMarks}
use Rattle.graph_types.specs.declared.{ids.Edge.Edge, changes.EdgeChange.{EdgeChange}}
use Rattle.graph_types.proofs.Keys.{keys_total, exact_keys, HasKeysOnce, get_is, find_absent, get_listed}
use Rattle.graph_types.proofs.{WeightsKept.set_at_get, EdgeMaps.set_none}
use Rattle.std.proofs.lemmas.{Bool.Decides.eqb_tells, List.{map-append, get_or_append_left, Quantifiers.all_pairs_push, Elements.{All-append, All-cons, All-nil}}}
use Rattle.std.proofs.Math.Seq.{get_or-append_seam, take-append_seam}
use Rattle.std.proofs.lemmas.Option.{slice_get_within, slice_get-get_or, get_or_from_slice_get}
use Rattle.std.specs.{List.slice_get, FinMap.get-empty}
use Rattle.graph_types.proofs.{Elements.AllPairs-left, ListPlaces.last_of}
use Rattle.std.proofs.Common.{length-append, inl, inr, true≢false}
use Rattle.opening_columns.specs.{Puts.key_number, Puts.IsWithinWalls, Edges.{edge_number, AreRising, AreUpTo, IsWithinBounds, IsLastOf, IsEdgeSet}}

pub rising_once : (es : List Edge) → AreRising es → HasKeysOnce es
rising_once es up i j d lt within same = let less = up i j d lt within in let equal = ap key_number same in omega arith

-- nothing stands at the key of a greater number
pub none_past : (es : List Edge) (k : Key) → All (λ e. edge_number e < key_number k) es → get (map_of es) k ≡ None
none_past es k less =
    get_is k es ∙ find_absent k es (λ i d lt same. let lower = less i d lt in let equal = ap key_number same in omega arith)

-- one more edge, where nothing stands at its key
pub pushed_map : (es : List Edge) (e : Edge) → get (map_of es) (key_of e) ≡ None
    → map_of (es ++ e ∷ []) ≡ set_at (map_of es) (key_of e) (Some (stamp_of e))
pushed_map es e none =
    ap (Rattle.std.specs.FinMap.from_entries) (map-append entry_of es (e ∷ []))
    ∙ from_entries_push keys_total exact_keys _ (key_of e) (stamp_of e) (sym (get_is (key_of e) es) ∙ none)

hides_behind : {A : Type 0} (b : Bool) (x y z : A) → cond b x (cond b y z) ≡ cond b x z
hides_behind true x y z = refl
hides_behind false x y z = refl

-- the last edge replaced by one of its key
pub replaced_map : (es : List Edge) (old e : Edge) → get (map_of es) (key_of e) ≡ None → key_of old ≡ key_of e
    → map_of (es ++ e ∷ []) ≡ set_at (map_of (es ++ old ∷ [])) (key_of e) (Some (stamp_of e))
replaced_map es old e none same =
    pushed_map es e none
    ∙ same_map keys_total exact_keys _ _ (λ q.
    set_at_get (map_of es) (key_of e) (Some (stamp_of e)) q
    ∙ sym (hides_behind (eq_by_cmp key_cmp q (key_of e)) _ (Some (stamp_of old)) (get (map_of es) q))
    ∙ ap (cond (eq_by_cmp key_cmp q (key_of e)) (Some (stamp_of e)))
    (ap (λ (k : Key). cond (eq_by_cmp key_cmp q k) (Some (stamp_of old)) (get (map_of es) q)) (sym same)
    ∙ sym (set_at_get (map_of es) (key_of old) (Some (stamp_of old)) q)
    ∙ ap (λ (m : FinMap key_cmp Stamp). get m q) (sym (pushed_map es old (subst (λ (k : Key). get (map_of es) k ≡ None) (sym same) none))))
    ∙ sym (set_at_get (map_of (es ++ old ∷ [])) (key_of e) (Some (stamp_of e)) q))

-- where nothing stands and nothing is put
pub nothing_put : (es : List Edge) (k : Key) → get (map_of es) k ≡ None → map_of es ≡ set_at (map_of es) k None
nothing_put es k none = same_map keys_total exact_keys _ _ (set_none (map_of es) k none)

-- an insertion or an addition leaves an edge where there was one
pub some_stays : (change : EdgeChange) (s : Stamp) → makes_names change ≡ true → stamp_after change (Some s) ≡ None → ⊥
some_stays change s makes none = grind (arith, common_steps)

-- different keys have different numbers
pub number_apart : (a b : Key) → IsWithinWalls a → IsWithinWalls b → key_number a ≡ key_number b → a ≡ b
number_apart a b wa wb same =
    let source : a.source ≡ b.source = omega arith in
    let kind : a.kind ≡ b.kind = omega arith in
    let target : a.target ≡ b.target = omega arith in
    λ i. record { kind = kind i; source = source i; target = target i }

-- all before the last one are less
pub before_last : (es : List Edge) (e : Edge) → AreRising (es ++ e ∷ []) → All (λ x. edge_number x < edge_number e) es
before_last es e up k d lt =
    let within : length es < length (es ++ e ∷ []) = omega (arith, length-append es (e ∷ [])) in
    let less = up k (length es) d lt within in
    subst (λ (x : Edge). edge_number x < edge_number e) (get_or_append_left es (e ∷ []) d k lt)
    (subst (λ (y : Edge). edge_number (get_or (es ++ e ∷ []) k d) < edge_number y) (get_or-append_seam es e [] d) less)

-- what stands at the key of the last
pub last_stands : (es : List Edge) (e : Edge) → AreRising (es ++ e ∷ []) → get (map_of (es ++ e ∷ [])) (key_of e) ≡ Some (stamp_of e)
last_stands es e up =
    subst (λ (x : Edge). get (map_of (es ++ e ∷ [])) (key_of x) ≡ Some (stamp_of x)) (get_or-append_seam es e [] e)
    (get_listed (es ++ e ∷ []) (rising_once (es ++ e ∷ []) up) (length es) e (omega (arith, length-append es (e ∷ []))))

-- nothing stands at a key of a greater number, and none at one that isn't the last's
pub not_last : (es : List Edge) (e : Edge) (k : Key) → AreRising (es ++ e ∷ []) → edge_number e < key_number k
    → get (map_of (es ++ e ∷ [])) k ≡ None
not_last es e k up less =
    none_past (es ++ e ∷ []) k (All-append (λ x. edge_number x < key_number k) es (e ∷ [])
    (λ i d lt. let lower = before_last es e up i d lt in omega arith)
    (All-cons (λ x. edge_number x < key_number k) e [] less (All-nil (λ x. edge_number x < key_number k))))

-- where nothing stands at a key, all of no greater number are less
pub all_less : (es : List Edge) (k : Key) → AreRising es → All IsWithinBounds es → IsWithinWalls k
    → All (λ e. edge_number e ≤ key_number k) es → get (map_of es) k ≡ None → All (λ e. edge_number e < key_number k) es
all_less es k up range walls below none i d lt =
    elim (eqb_tells (edge_number (get_or es i d)) (key_number k)) [
      | inl same ↦
          let equal = number_apart (key_of (get_or es i d)) k (range i d lt).walls walls same.1 in
          let there : get (map_of es) (key_of (get_or es i d)) ≡ Some (stamp_of (get_or es i d)) =
          get_listed es (rising_once es up) i d lt in
          let same_key : get (map_of es) (key_of (get_or es i d)) ≡ get (map_of es) k = ap (λ (q : Key). get (map_of es) q) equal in
          absurd (true≢false (sym (ap is_some (sym none ∙ sym same_key ∙ there))))
      | inr apart ↦ let le = below i d lt in let ne = apart.1 in omega arith
    ]

-- one more
pub rising_more : (es : List Edge) (e : Edge) → AreRising es → All (λ x. edge_number x < edge_number e) es → AreRising (es ++ e ∷ [])
rising_more es e up less = all_pairs_push (λ a b. edge_number a < edge_number b) es e up less

-- edges up to the one that stands last, and what is written behind them

number_here : (a b : Key) → a ≡ b → key_number a ≤ key_number b
number_here a b same = let equal = ap key_number same in omega arith

pub up_to_more : (es : List Edge) (e : Edge) (k : Key) → AreRising es → All IsWithinBounds es → All (λ x. edge_number x < edge_number e) es
    → IsWithinBounds e → key_of e ≡ k → AreUpTo k (es ++ e ∷ [])
up_to_more es e k up range less here same = record {
  rising = rising_more es e up less;
  range = All-append IsWithinBounds es (e ∷ []) range (All-cons IsWithinBounds e [] here (All-nil IsWithinBounds));
  below = All-append (λ x. edge_number x ≤ key_number k) es (e ∷ [])
      (λ i d lt. let lower = less i d lt in let equal = ap key_number same in omega arith)
      (All-cons (λ x. edge_number x ≤ key_number k) e [] (number_here (key_of e) k same) (All-nil (λ x. edge_number x ≤ key_number k)));
}

pub added_is : (es new : List Edge) (e : Edge) (k : Key) (s : Stamp) → AreUpTo k es → IsWithinWalls k → IsWithinBounds e → key_of e ≡ k
    → stamp_of e ≡ s → get (map_of es) k ≡ None → new ≡ es ++ e ∷ [] → IsEdgeSet k (Some s) es new
added_is es new e k s up walls here same is none put =
    let less : All (λ x. edge_number x < edge_number e) es =
    λ i d lt. let lower = all_less es k up.rising up.range walls up.below none i d lt in let equal = ap key_number same in omega arith in
    subst (IsEdgeSet k (Some s) es) (sym put) (record {
      map = pushed_map es e (ap (get (map_of es)) same ∙ none) ∙ (λ i. set_at (map_of es) (same i) (Some (is i)));
      edges = up_to_more es e k up.rising up.range less here same;
    })

pub replaced_is : (old others new : List Edge) (last e : Edge) (k : Key) (s : Stamp) → AreUpTo k old → old ≡ others ++ last ∷ []
    → key_of last ≡ k → IsWithinBounds e → key_of e ≡ k → stamp_of e ≡ s → new ≡ others ++ e ∷ [] → IsEdgeSet k (Some s) old new
replaced_is old others new last e k s up are is_last here same is put =
    let rising : AreRising (others ++ last ∷ []) = subst AreRising are up.rising in
    let range : All IsWithinBounds (others ++ last ∷ []) = subst (All IsWithinBounds) are up.range in
    let under = before_last others last rising in
    let less : All (λ x. edge_number x < edge_number e) others =
    λ i d lt. let lower = under i d lt in let equal = ap key_number (is_last ∙ sym same) in omega arith in
    subst (λ (o : List Edge). IsEdgeSet k (Some s) o new) (sym are)
    (subst (IsEdgeSet k (Some s) (others ++ last ∷ [])) (sym put) (record {
      map = replaced_map others last e (none_past others (key_of e) less) (is_last ∙ sym same)
          ∙ (λ i. set_at (map_of (others ++ last ∷ [])) (same i) (Some (is i)));
      edges = up_to_more others e k (AllPairs-left (λ a b. edge_number a < edge_number b) others (last ∷ []) rising)
          (λ i d lt. subst IsWithinBounds (get_or_append_left others (last ∷ []) d i lt)
          (range i d (omega (arith, length-append others (last ∷ []))))) less here same;
    }))

-- what a pop leaves
pub popped_is : (xs ys others : List Edge) (e : Edge) (n : ℕ) → ys ≡ take (n - 1) xs → n ≡ length xs → xs ≡ others ++ e ∷ []
    → ys ≡ others
popped_is xs ys others e n rest long are =
    let less : n - 1 ≡ length others = omega (arith, long, ap length are, length-append others (e ∷ [])) in
    rest ∙ (λ i. take (less i) (are i)) ∙ take-append_seam others (e ∷ [])

pub unwritten : (es : List Edge) (k : Key) (o : Option Stamp) → AreUpTo k es → get (map_of es) k ≡ None → o ≡ None
    → IsEdgeSet k o es es
unwritten es k o up none is = record {
  map = nothing_put es k none ∙ ap (set_at (map_of es) k) (sym is);
  edges = up;
}

-- What the last edge tells of a key

none_there : (es : List Edge) (k : Key) → None ≡ slice_get es (length es - 1) → None ≡ get (map_of es) k
none_there [] k is = sym (get-empty key_cmp k)
none_there (e ∷ es) k is =
    absurd (true≢false (ap is_some (sym (slice_get-get_or (e ∷ es) (length (e ∷ es) - 1) e (omega arith))) ∙ ap is_some (sym is)))

pub last_none : (es : List Edge) (k : Key) → None ≡ slice_get es (length es - 1) → None ≡ get (map_of es) k
last_none es k is = none_there es k is

ends_with : (es : List Edge) (e : Edge) → Some e ≡ slice_get es (length es - 1) → (others : List Edge) × (es ≡ others ++ e ∷ [])
ends_with es e is =
    let within = slice_get_within es (length es - 1) e (sym is) in
    last_of es (length es - 1) (Some e) is (omega arith)

pub last_other : (es : List Edge) (e : Edge) (k : Key) → AreUpTo k es → IsWithinWalls k → Some e ≡ slice_get es (length es - 1)
    → (key_of e ≡ k → ⊥) → None ≡ get (map_of es) k
last_other es e k up walls is apart =
    let (others, are) = ends_with es e is in
    let within = slice_get_within es (length es - 1) e (sym is) in
    let here : get_or es (length es - 1) e ≡ e = get_or_from_slice_get es (length es - 1) e e (sym is) in
    let range : IsWithinBounds e = subst IsWithinBounds here (up.range (length es - 1) e within) in
    let le : edge_number e ≤ key_number k = subst (λ (x : Edge). edge_number x ≤ key_number k) here (up.below (length es - 1) e within) in
    let less : edge_number e < key_number k = elim (eqb_tells (edge_number e) (key_number k)) [
      | inl same ↦ absurd (apart (number_apart (key_of e) k range.walls walls same.1))
      | inr ne ↦ let differ = ne.1 in omega arith
    ] in
    sym (subst (λ (xs : List Edge). get (map_of xs) k ≡ None) (sym are) (not_last others e k (subst AreRising are up.rising) less))

pub last_same : (es : List Edge) (e : Edge) (k : Key) (s : Stamp) → AreUpTo k es → Some e ≡ slice_get es (length es - 1)
    → key_of e ≡ k → s ≡ stamp_of e → Some s ≡ get (map_of es) k
last_same es e k s up is same stamp =
    let (others, are) = ends_with es e is in
    ap Some stamp ∙ sym (subst (λ (xs : List Edge). get (map_of xs) k ≡ Some (stamp_of e)) (sym are)
    (subst (λ (q : Key). get (map_of (others ++ e ∷ [])) q ≡ Some (stamp_of e)) same
    (last_stands others e (subst AreRising are up.rising))))

pub last_is : (es : List Edge) (e : Edge) (k : Key) → Some e ≡ slice_get es (length es - 1) → key_of e ≡ k → IsLastOf es k
last_is es e k is same =
    let (others, are) = ends_with es e is in record { others = others; last = e; are = are; key_is = same }

-- an edge of this key and these marks is in range
pub in_range_by : (e : Edge) (k : Key) (m : EdgeMarks) → key_of e ≡ k → stamp_of e ≡ stamp_in m → IsWithinWalls k → AreMarks m
    → IsWithinBounds e
in_range_by e k m key stamp walls marks = record {
  walls = subst IsWithinWalls (sym key) walls;
  weight = subst IsWeight (sym (ap (λ (s : Stamp). s.weight) stamp)) marks.weight;
  first = subst IsTime (sym (ap (λ (s : Stamp). s.first) stamp)) marks.first;
  recent = subst IsTime (sym (ap (λ (s : Stamp). s.recent) stamp)) marks.recent;
}

pub last_in_range : (es : List Edge) (e : Edge) (k : Key) → AreUpTo k es → Some e ≡ slice_get es (length es - 1) → IsWithinBounds e
last_in_range es e k up is =
    subst IsWithinBounds (get_or_from_slice_get es (length es - 1) e e (sym is))
    (up.range (length es - 1) e (slice_get_within es (length es - 1) e (sym is)))

-- where a change that isn't a removal leaves nothing, nothing was there
pub before_none : (change : EdgeChange) (o : Option Stamp) → makes_names change ≡ true → stamp_after change o ≡ None → o ≡ None
before_none change None makes none = refl
before_none change (Some s) makes none = absurd (some_stays change s makes none)
