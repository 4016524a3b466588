-- A content with one edge changed: its keys, its marks and its edges stay within their limits.
use Rattle.std.proofs.Common.{◌≡◌, ℕ, ◌*◌, ◌<◌, ◌≤◌, Bool, true, false, cond, not, ◌&&◌, ◌≢◌, List, [], ◌∷◌, ◌++◌, length, get_or}
use Rattle.std.proofs.Common.{ℤ, nat_abs, IfSome, FitsSigned, Some, None, All, Option, option_map, option_to_list, AllPairs, w64}
use Rattle.std.proofs.{Common.{rules, refl, sym, ap, ap₂, subst, ◌∙◌, arith}, lemmas.Bool.{false≢true, le-leb, true≢false}}
use Rattle.std.proofs.lemmas.{Bool.Decides.nat_tests, Grind.common_steps, List.append-nil}
use Rattle.std.proofs.lemmas.List.Elements.{All-head, All-tail, All-get_or, filter_passes, All-filter, All-push, All-weaker}
use Rattle.std.proofs.lemmas.List.{Kept.AllPairs-filter, Quantifiers.all_pairs_push}
use Rattle.std.specs.{FinMap.get, List.find, Prelude.◌+ℤ◌}
use Rattle.graph_types.specs.Changes.{option_stamp, AreMarks, IsChange, AllowsUpTo}
use Rattle.graph_types.specs.Graph.{Stamp, Key, IsEdgeWithin, stamp_of, has_key, IsContent, map_of, IsAt, key_of, without, Graph}
use Rattle.graph_types.specs.Graph.{content_of, IsContentIn, graph_in, graph_of, HasWeights}
use Rattle.graph_types.specs.Limits.{IsWeight, IsTime, SumsFit, LimitsView, IsWeightIn, AreLimits, standard_limits, is_weight}
use Rattle.graph_types.specs.Limits.{is_weight_in, is_time, most_names, most_kinds}
use Rattle.graph_types.specs.Step.{stamp_after, names_made, kinds_made, changed_key, later, was_before, is_within_limits, changed}
use Rattle.graph_types.specs.{Step.{overflows, stamp_put}, declared.changes.EdgeChange.EdgeChange}
use Rattle.graph_types.specs.declared.changes.EdgeChange.TheVariants.{Insert, Incr, Remove}
use Rattle.graph_types.specs.declared.{changes.EdgeMarks.EdgeMarks, contents.Content.Content, ids.Edge.Edge}
use Rattle.graph_types.specs.Step.{set_at}
use Rattle.graph_types.proofs.{EdgeLookup.{get-map_of, Decides-has_key}, Keys.HasKeysOnce, LimitsKept.{most_fits, each_fits}}
use Rattle.graph_types.proofs.{NameLists.{IsNamed, IsNamed-changed_key}, WeightsKept.{weights_of, weights_shown, weight_in}}
use Rattle.graph_types.proofs.{EdgeLookup.map_of-put, LimitsKept.sums_within}
use Rattle.graph_types.proofs.NameLists.{length-names_made, length-kinds_made, AllPairs-names_made, AllPairs-kinds_made}
use Rattle.graph_types.proofs.WeightsKept.{HasWeights-changed, weights_listed}

-- a stamp of a weight and times in range
record IsInRange (s : Stamp) : Type 0 where
  weight : IsWeight s.weight
  first : IsTime s.first
  recent : IsTime s.recent

found : (n m : ℕ) (key : Key) (edges : List Edge) → All (IsEdgeWithin n m) edges
    → IfSome (option_map stamp_of (find (has_key key) edges)) IsInRange
found n m key [] within = tt
found n m key (e ∷ edges) within =
    elim (has_key key e) as (λ b. IfSome (option_map stamp_of (cond b (Some e) (find (has_key key) edges))) IsInRange) [
      | true ↦
          let first : IsEdgeWithin n m e = All-head (IsEdgeWithin n m) e edges within in
          record { weight = first.weight; first = first.first; recent = first.recent }
      | false ↦ found n m key edges (All-tail (IsEdgeWithin n m) e edges within)
    ]

marks_in_range : (before : Option EdgeMarks) → IfSome (option_stamp before) IsInRange → IfSome before AreMarks
marks_in_range h0 range = grind (arith, common_steps)

-- what stands in a content has a weight and times in range
pub AreMarks-found : (c : Content) (key : Key) (before : Option EdgeMarks) → IsContent c
    → option_stamp before ≡ get (map_of c.edges) key → IfSome before AreMarks
AreMarks-found c key before content is =
    marks_in_range before (rw (is, get-map_of key c.edges)
    (found (length c.names) (length c.kinds) key c.edges content.edges_within))

-- a key of which all edges have gone, and an edge with it
pub keys_apart : (key : Key) (edges : List Edge) (put : Option Edge) → IfSome put (IsAt key)
    → AllPairs (λ a b. key_of a ≢ key_of b) edges
    → AllPairs (λ a b. key_of a ≢ key_of b) (without key edges ++ option_to_list put)
keys_apart key edges None at apart =
    rw (append-nil (without key edges))
    (AllPairs-filter (λ a b. key_of a ≢ key_of b) (λ e. not (has_key key e)) edges apart)
keys_apart key edges (Some e) at apart =
    all_pairs_push (λ a b. key_of a ≢ key_of b) (without key edges) e
    (AllPairs-filter (λ a b. key_of a ≢ key_of b) (λ x. not (has_key key x)) edges apart)
    (λ k d l same.
    let left = get_or (without key edges) k d in
    let has : has_key key left ≡ true = (Decides-has_key key left).1 (same ∙ at.key_is) in
    false≢true (sym (ap not has) ∙ All-get_or (λ x. not (has_key key x) ≡ true) (without key edges) k d l
    (filter_passes (λ x. not (has_key key x)) edges)))

pub within_more : (n m n' m' : ℕ) (e : Edge) → n ≤ n' → m ≤ m' → IsEdgeWithin n m e → IsEdgeWithin n' m' e
within_more n m n' m' e names kinds is = grind (arith, common_steps)

within_at : (n m : ℕ) (key : Key) (e : Edge) → IsNamed n m key → IsAt key e → IsEdgeWithin n m e
within_at n m key e named at = grind (arith, common_steps)

pub all_within : (n m : ℕ) (key : Key) (edges : List Edge) (put : Option Edge) → IfSome put (λ _. IsNamed n m key)
    → IfSome put (IsAt key) → All (IsEdgeWithin n m) edges → All (IsEdgeWithin n m) (without key edges ++ option_to_list put)
all_within n m key edges None named at within =
    rw (append-nil (without key edges)) (All-filter (λ e. not (has_key key e)) (IsEdgeWithin n m) edges within)
all_within n m key edges (Some e) named at within =
    All-push (IsEdgeWithin n m) (without key edges) e (All-filter (λ x. not (has_key key x)) (IsEdgeWithin n m) edges within)
    (within_at n m key e named at)

-- an edge is put only where its names are there
pub named_put : (change : EdgeChange) (kind source target : List ℕ) (g : Graph) (before : Option Stamp) (put : Option Edge)
    → option_map stamp_of put ≡ stamp_after change before
    → IfSome put (λ _. IsNamed (length (names_made change source target g.names)) (length (kinds_made change kind g.kinds))
    (changed_key change kind source target g))
named_put change kind source target g before None is = tt
named_put change kind source target g before (Some e) is = IsNamed-changed_key change kind source target g before (stamp_of e) is

-- a content without the edges that were last touched before a time is a content
pub IsContent-later : (time : ℕ) (c : Content) → IsContent c → IsContent (content_of c.names c.kinds (later time c.edges))
IsContent-later time c is = record {
  names_distinct = is.names_distinct;
  kinds_distinct = is.kinds_distinct;
  names_few = is.names_few;
  kinds_few = is.kinds_few;
  keys_distinct = AllPairs-filter (λ a b. key_of a ≢ key_of b) (λ e. not (was_before time e)) c.edges is.keys_distinct;
  edges_within = All-filter (λ e. not (was_before time e)) (IsEdgeWithin (length c.names) (length c.kinds)) c.edges is.edges_within;
  sums_fit = All-filter (λ e. not (was_before time e)) (λ e. SumsFit (length c.names * length c.kinds) (nat_abs e.weight)) c.edges
      is.sums_fit;
}

pub IsContentIn-later : (l : LimitsView) (time : ℕ) (c : Content) → IsContentIn l c
    → IsContentIn l (content_of c.names c.kinds (later time c.edges))
IsContentIn-later l time c is = record {
  content = IsContent-later time c is.content;
  names_few = is.names_few;
  kinds_few = is.kinds_few;
  weights_few = All-filter (λ e. not (was_before time e)) (λ e. IsWeightIn l.weight e.weight) c.edges is.weights_few;
}

pub standard_are_limits : AreLimits standard_limits
standard_are_limits = record {
  names = omega arith;
  kinds = omega arith;
  batches = omega arith;
  weight = omega arith;
  sums = omega arith;
}

-- a weight is a number of 64 bits
pub weight_fits_word : (z : ℤ) → IsWeight z → FitsSigned w64 z
weight_fits_word z h = search rules

pub same_within : (n m : ℕ) (x e : Edge) → key_of e ≡ key_of x → stamp_of e ≡ stamp_of x → IsEdgeWithin n m x → IsEdgeWithin n m e
same_within n m x e key stamp w = record {
  kind = subst (λ i. i < m) (sym (ap (λ k. k.kind) key)) w.kind;
  source = subst (λ i. i < n) (sym (ap (λ k. k.source) key)) w.source;
  target = subst (λ i. i < n) (sym (ap (λ k. k.target) key)) w.target;
  weight = subst IsWeight (sym (ap (λ s. s.weight) stamp)) w.weight;
  first = subst IsTime (sym (ap (λ s. s.first) stamp)) w.first;
  recent = subst IsTime (sym (ap (λ s. s.recent) stamp)) w.recent;
}

-- in another list of the same edges none has a larger weight, and sums fit again
pub weights_again : (c : Content) (es : List Edge) (most : ℕ) → HasKeysOnce es → map_of es ≡ map_of c.edges
    → All (λ e. IsWeightIn most e.weight) c.edges → All (λ e. IsWeightIn most e.weight) es
weights_again c es most once same within =
    let l : LimitsView = record { names = 0; kinds = 0; batches = 0; weight = most } in
    weights_of (graph_in l c) es once same (weights_shown l c within)

pub sums_again : (c : Content) (es : List Edge) (places : ℕ) → HasKeysOnce es → map_of es ≡ map_of c.edges
    → All (λ e. SumsFit places (nat_abs e.weight)) c.edges → All (λ e. SumsFit places (nat_abs e.weight)) es
sums_again c es places once same fit =
    let (most, within, sums) = most_fits places c.edges fit in
    each_fits places most es sums (weights_again c es most once same within)

pub within_graph : (l : LimitsView) (c : Content) (g : Graph) → IsContentIn l c → graph_in l c ≡ g → is_within_limits g ≡ true
within_graph l c g is same = subst (λ (h : Graph). is_within_limits h ≡ true) same
    (ap₂ ◌&&◌ (le-leb (length c.names) l.names is.names_few) (le-leb (length c.kinds) l.kinds is.kinds_few))

-- the marks that a stamp shows
abbrev marks_of : Stamp → EdgeMarks
marks_of s = record { weight = s.weight; first = s.first; recent = s.recent }

same_stamp : (o : Option Stamp) → option_stamp (option_map marks_of o) ≡ o
same_stamp None = refl
same_stamp (Some s) = refl

-- a stamp of a weight and times in range
abbrev InRange : Stamp → Type 0
InRange s = AreMarks (marks_of s)

stamps_in_range : (o : Option Stamp) → IfSome (option_map marks_of o) AreMarks → IfSome o InRange
stamps_in_range None are = tt
stamps_in_range (Some s) are = are

pub found_in_range : (c : Content) (key : Key) → IsContent c → IfSome (get (map_of c.edges) key) InRange
found_in_range c key is =
    stamps_in_range (get (map_of c.edges) key)
    (AreMarks-found c key (option_map marks_of (get (map_of c.edges) key)) is (same_stamp (get (map_of c.edges) key)))

pub weight_fits : (w : ℤ) → is_weight w ≡ true → IsWeight w
weight_fits w is = grind (arith, nat_tests)

-- the sum is within the most that the change allows
second_of : (a b : Bool) → not (a && b) ≡ false → b ≡ true
second_of a true h = refl
second_of true false h = absurd (true≢false h)
second_of false false h = absurd (true≢false h)

-- what a change leaves at a key is in range
put_in_range : (change : EdgeChange) (before : Option Stamp) → IsChange change → overflows change before ≡ false
    → IfSome before InRange → IfSome (stamp_put change before) InRange
put_in_range (Insert weight time most) None fits within was = record { weight = fits.0; first = fits.1; recent = fits.1 }
put_in_range (Insert weight time most) (Some e) fits within was = record { weight = fits.0; first = was.first; recent = fits.1 }
put_in_range (Incr amount time most) None fits within was = record { weight = fits.0; first = fits.1; recent = fits.1 }
put_in_range (Incr amount time most) (Some e) fits within was =
    let sum = weight_in most (e.weight +ℤ amount) (second_of (is_weight_in most amount) _ within) in
    let most_is = fits.2 in
    record { weight = omega (arith, sum, most_is); first = was.first; recent = fits.1 }
put_in_range Remove before fits within was = tt

pub after_in_range : (change : EdgeChange) (before : Option Stamp) → IsChange change → IfSome before InRange
    → IfSome (stamp_after change before) InRange
after_in_range change before fits was =
    elim (overflows change before) as (λ b. overflows change before ≡ b
    → IfSome (cond b before (stamp_put change before)) InRange) [
      | true ↦ λ past. was
      | false ↦ λ within. put_in_range change before fits within was
    ] refl

-- an edge at a key
abbrev pub edge_at : Key → Stamp → Edge
edge_at key s = record {
  kind = record { 0 = key.kind };
  source = record { 0 = key.source };
  target = record { 0 = key.target };
  weight = s.weight;
  first = s.first;
  recent = s.recent;
}

pub stamps_put : (key : Key) (o : Option Stamp) → option_map stamp_of (option_map (edge_at key) o) ≡ o
stamps_put key None = refl
stamps_put key (Some s) = refl

pub put_there : (key : Key) (o : Option Stamp) → IfSome o InRange → IfSome (option_map (edge_at key) o) (IsAt key)
put_there key None are = tt
put_there key (Some s) are = record { key_is = refl; weight = are.weight; first = are.first; recent = are.recent }

-- a content within these limits whose graph is this
abbrev pub HasContent : LimitsView → Graph → Type 0
HasContent l g = (c : Content) × IsContentIn l c × (graph_in l c ≡ g)

pub time_fits : (time : ℕ) → is_time time ≡ true → IsTime time
time_fits time is = grind (arith, nat_tests)

-- one change on plain lists: what stood at its key is taken away, and what is to stand there comes at the end
pub record IsApplied (change : EdgeChange) (kind source target : List ℕ) (old new : Content) (key : Key)
    (put : Option Edge) : Type 0 where
  pub names : new.names ≡ names_made change source target old.names
  pub kinds : new.kinds ≡ kinds_made change kind old.kinds
  pub key_is : key ≡ changed_key change kind source target (graph_of old)
  pub stamp : option_map stamp_of put ≡ stamp_after change (get (map_of old.edges) key)
  pub at : IfSome put (IsAt key)
  pub edges : new.edges ≡ without key old.edges ++ option_to_list put

module _ (change : EdgeChange) (kind source target : List ℕ) (old new : Content) (key : Key) (put : Option Edge)
    (step : IsApplied change kind source target old new key put) where
  edges-applied : map_of new.edges ≡ (changed change kind source target (graph_of old)).edges
  edges-applied =
      ap map_of step.edges ∙ map_of-put key old.edges put step.at
      ∙ ap (set_at (map_of old.edges) key) step.stamp
      ∙ ap (λ k. set_at (map_of old.edges) k (stamp_after change (get (map_of old.edges) k))) step.key_is

  pub graph_in-applied : (l : LimitsView) → graph_in l new ≡ changed change kind source target (graph_in l old)
  graph_in-applied l i = record { names = step.names i; kinds = step.kinds i; edges = edges-applied i; limits = l }

once_applied : (change : EdgeChange) (kind source target : List ℕ) (old new : Content) (key : Key) (put : Option Edge)
    → IsApplied change kind source target old new key put → IsContent old → HasKeysOnce new.edges
once_applied change kind source target old new key put step content =
    rw step.edges (keys_apart key old.edges put step.at content.keys_distinct)

-- where a change allows no weight past the limit, the content has none
weights_applied : (l : LimitsView) (change : EdgeChange) (kind source target : List ℕ) (old new : Content) (key : Key)
    (put : Option Edge) → AllowsUpTo l.weight change → IsApplied change kind source target old new key put → IsContentIn l old
    → All (λ e. IsWeightIn l.weight e.weight) new.edges
weights_applied l change kind source target old new key put up step is =
    let has : HasWeights (changed change kind source target (graph_in l old)) =
    HasWeights-changed change kind source target (graph_in l old) up (weights_shown l old is.weights_few) in
    weights_listed l new (once_applied change kind source target old new key put step is.content)
    (subst HasWeights (sym (graph_in-applied change kind source target old new key put step l)) has)

pub IsContent-applied : (change : EdgeChange) (kind source target : List ℕ) (old new : Content) (key : Key) (put : Option Edge)
    → IsApplied change kind source target old new key put
    → IsContent old → length new.names ≤ most_names → length new.kinds ≤ most_kinds
    → All (λ e. SumsFit (length new.names * length new.kinds) (nat_abs e.weight)) new.edges → IsContent new
IsContent-applied change kind source target old new key put step content names_few kinds_few sums =
    let n = length new.names in
    let m = length new.kinds in
    let names_more : length old.names ≤ length new.names = rw step.names (length-names_made change source target old.names) in
    let kinds_more : length old.kinds ≤ length new.kinds = rw step.kinds (length-kinds_made change kind old.kinds) in
    let named_here : IfSome put (λ _. IsNamed (length new.names) (length new.kinds) key) =
    rw (step.key_is, step.names, step.kinds)
    (named_put change kind source target (graph_of old) (get (map_of old.edges) key) put step.stamp) in
    record {
      names_distinct = rw step.names (AllPairs-names_made change source target old.names content.names_distinct);
      kinds_distinct = rw step.kinds (AllPairs-kinds_made change kind old.kinds content.kinds_distinct);
      names_few = names_few;
      kinds_few = kinds_few;
      keys_distinct = once_applied change kind source target old new key put step content;
      edges_within = rw step.edges
          (all_within n m key old.edges put named_here step.at
          (All-weaker (IsEdgeWithin (length old.names) (length old.kinds)) (IsEdgeWithin n m)
          (λ e. within_more _ _ _ _ e names_more kinds_more) old.edges content.edges_within));
      sums_fit = sums;
    }

pub IsContentIn-applied : (l : LimitsView) (change : EdgeChange) (kind source target : List ℕ) (old new : Content) (key : Key)
    (put : Option Edge) → AreLimits l → AllowsUpTo l.weight change → IsApplied change kind source target old new key put
    → IsContentIn l old → length new.names ≤ l.names → length new.kinds ≤ l.kinds → IsContentIn l new
IsContentIn-applied l change kind source target old new key put are up step is names_few kinds_few =
    let weights = weights_applied l change kind source target old new key put up step is in
    record {
      content = IsContent-applied change kind source target old new key put step is.content (omega (arith, names_few, are.names))
          (omega (arith, kinds_few, are.kinds))
          (each_fits (length new.names * length new.kinds) l.weight new.edges
          (sums_within l (length new.names) (length new.kinds) are names_few kinds_few) weights);
      names_few = names_few;
      kinds_few = kinds_few;
      weights_few = weights;
    }
