-- Edges in a map and in a list: at one key, how many, and taken away and inserted again.
use Rattle.std.proofs.Common.{◌≡◌, ℕ, zero, suc, ◌+◌, ◌-◌, ◌*◌, ◌^◌, ◌<◌, ◌≤◌, true, false, cond, ◌&&◌, eqb, ◌≢◌, List, [], ◌∷◌}
use Rattle.std.proofs.Common.{length, get_or, Some, None, All, refl, sym, ap, ◌∙◌, arith}
use Rattle.std.proofs.lemmas.{Bool.{true≢false, and_parts, eqb-true}, Grind.common_steps, List.Elements.All-cons}
use Rattle.std.proofs.lemmas.List.Sums.{sum_by-cons, sum_by-le-sum_by}
use Rattle.std.specs.Cmp.{Equal-is, tied_itself}
use Rattle.std.specs.FinMap.{get, FinMap, len, insert, len-insert, empty_of_len, get-empty, remove, len-remove, get-insert}
use Rattle.std.specs.{FinMap.{get-remove, find}, Option.is_some, Ordering.{eq_by_cmp, is_eq}, Prelude.count_by}
use Rattle.std.specs.declared.option.Option.{Option}
use Rattle.std.specs.FinMap.{same_map}
use Rattle.graph_types.specs.{Graph.{Key, map_of, key_of, stamp_of, key_cmp, Stamp}, Limits.{most_names, most_places}}
use Rattle.graph_types.specs.{Step.set_at, declared.ids.Edge.Edge}
use Rattle.graph_types.proofs.DegreeBounds.{one_where, crowd_of_edges, crowd}
use Rattle.graph_types.proofs.Keys.{is_key_of, is_key_of_at, get_cons, exact_keys, HasKeysOnce, count_key, keys_total, once_head}
use Rattle.graph_types.proofs.{Keys.{is_key_of-true, once_cons, once_none}, WeightsKept.set_at_get}
use Rattle.graph_types.proofs.Keys.{is_key_of-false, once_tail}

-- a key at which the map has nothing is listed nowhere
pub not_there : (es : List Edge) (key : Key) → get (map_of es) key ≡ None → All (λ x. key ≢ key_of x) es
not_there [] key none = λ k d h. absurd (omega arith)
not_there (e ∷ es) key none =
    elim (is_key_of key e) as (λ t. is_key_of key e ≡ t → cond t (Some (stamp_of e)) (get (map_of es) key) ≡ None
    → All (λ x. key ≢ key_of x) (e ∷ es)) [
      | true ↦ λ t is. cc
      | false ↦ λ t is. All-cons (λ x. key ≢ key_of x) e es (λ same. true≢false (sym (is_key_of_at key e same) ∙ t)) (not_there es key is)
    ] refl (sym (get_cons e es key) ∙ none)

pub set_none : (m : FinMap key_cmp Stamp) (k : Key) → get m k ≡ None → (q : Key) → get m q ≡ get (set_at m k None) q
set_none m k none q =
    elim (eq_by_cmp key_cmp q k) as (λ b. eq_by_cmp key_cmp q k ≡ b → get m q ≡ cond b None (get m q)) [
      | true ↦ λ t. ap (get m) (exact_keys q k ((Equal-is (key_cmp q k)).0 t)) ∙ none
      | false ↦ λ t. refl
    ] refl
    ∙ sym (set_at_get m k None q)

ones : (es : List Edge) → count_by (λ (e : Edge). true) es ≡ length es
ones [] = refl
ones (e ∷ es) = omega (arith, sum_by-cons (λ (x : Edge). 1) e es, ones es)

has_parts : (k s t : ℕ) (e : Edge) → ((eqb e.source.0 s && eqb e.kind.0 k) && eqb e.target.0 t) ≡ true
    → is_key_of (record { kind = k; source = s; target = t }) e ≡ true
has_parts k s t e passes = grind (arith, common_steps, and_parts, is_key_of_at, eqb-true)

at_key : (es : List Edge) → HasKeysOnce es → (k s t : ℕ)
    → count_by (λ (e : Edge). (eqb e.source.0 s && eqb e.kind.0 k) && eqb e.target.0 t) es ≤ 1
at_key es once k s t =
    let key : Key = record { kind = k; source = s; target = t } in
    let fewer = sum_by-le-sum_by (λ (e : Edge). cond ((eqb e.source.0 s && eqb e.kind.0 k) && eqb e.target.0 t) 1 0)
    (λ e. cond (is_key_of key e) 1 0) es (λ e. one_where _ _ (has_parts k s t e)) in
    omega (arith, fewer, count_key key es once)

pub few_edges : (n m : ℕ) (es : List Edge) → HasKeysOnce es → All (λ (e : Edge). e.kind.0 < m) es
    → All (λ (e : Edge). e.source.0 < n) es → All (λ (e : Edge). e.target.0 < n) es → n ≤ most_names → n * m ≤ most_places
    → length es ≤ 2 ^ 58
few_edges n m es once kinds sources targets few places =
    let from : (s : ℕ) → count_by (λ (e : Edge). true && eqb e.source.0 s) es ≤ most_places =
    λ s.
    let all = crowd_of_edges (λ (e : Edge). eqb e.source.0 s) (λ (e : Edge). e.target.0) n m es (λ k t. at_key es once k s t)
    kinds targets in
    omega (arith, all, places) in
    omega (arith, ones es, crowd (λ (e : Edge). true) (λ (e : Edge). e.source.0) most_places n es from sources, few)

-- how many edges there are with a stamp at a key
pub inserted_len : (edges : FinMap key_cmp Stamp) (key : Key) (stamp : Stamp) (before : Option Stamp) → get edges key ≡ before
    → len (insert edges key stamp) ≡ cond (is_some before) (len edges) (len edges + 1)
inserted_len edges key stamp before at =
    len-insert keys_total edges key stamp ∙ ap (λ (b : Option Stamp). cond (is_some b) (len edges) (len edges + 1)) at

some_there : (edges : FinMap key_cmp Stamp) (key : Key) (stamp : Stamp) → get edges key ≡ Some stamp → 0 < len edges
some_there edges key stamp at =
    elim (len edges) as (λ n. len edges ≡ n → 0 < n) [
      | zero ↦ λ none. absurd (true≢false (ap is_some (sym at)
          ∙ ap (λ (m : FinMap key_cmp Stamp). is_some (get m key)) (empty_of_len edges none)
          ∙ ap is_some (get-empty key_cmp key)))
      | suc n ↦ λ same. omega arith
    ] refl

pub removed_len : (edges : FinMap key_cmp Stamp) (key : Key) (before : Option Stamp) → get edges key ≡ before
    → len (remove edges key) + cond (is_some before) 1 0 ≡ len edges
removed_len edges key None at =
    omega (arith, len-remove keys_total edges key ∙ ap (λ (b : Option Stamp). cond (is_some b) (len edges - 1) (len edges)) at)
removed_len edges key (Some e) at =
    omega (
      arith,
      len-remove keys_total edges key ∙ ap (λ (b : Option Stamp). cond (is_some b) (len edges - 1) (len edges)) at,
      some_there edges key e at,
    )

-- an edge that stands in the map, taken away and inserted again
pub put_back : (m : FinMap key_cmp Stamp) (e : Edge) (q : Key) → get m (key_of e) ≡ Some (stamp_of e)
    → get (insert (remove m (key_of e)) (key_of e) (stamp_of e)) q ≡ get m q
put_back m e q stands =
    get-insert keys_total (remove m (key_of e)) (key_of e) (stamp_of e) q
    ∙ ap (cond (is_key_of q e) (Some (stamp_of e))) (get-remove keys_total m (key_of e) q)
    ∙ elim (is_key_of q e) as (λ t. is_key_of q e ≡ t → cond t (Some (stamp_of e)) (cond t None (get m q)) ≡ get m q) [
      | true ↦ λ t. sym stands ∙ ap (get m) (sym (is_key_of-true q e t))
      | false ↦ λ _. refl
    ] refl

pub once_one : (e : Edge) → HasKeysOnce (e ∷ [])
once_one e = once_cons e [] (λ k d h. absurd (omega arith)) once_none

-- an entry's key is found
pub found : (es : List (Key × Stamp)) (k : ℕ) (d : Key × Stamp) → k < length es
    → is_some (find key_cmp (get_or es k d).0 es) ≡ true
found [] k d below = absurd (omega arith)
found (e ∷ es) zero d below = ap (λ r. is_some (cond (is_eq r) (Some e.1) (find key_cmp e.0 es))) (tied_itself keys_total e.0)
found (e ∷ es) (suc k) d below = elim (is_eq (key_cmp (get_or es k d).0 e.0)) as
    (λ b. is_some (cond b (Some e.1) (find key_cmp (get_or es k d).0 es)) ≡ true) [
      | true ↦ refl
      | false ↦ found es k d (omega arith)
    ]

-- each edge stands in the map
abbrev pub AllStand : FinMap key_cmp Stamp → List Edge → Type 0
AllStand m es = All (λ e. get m (key_of e) ≡ Some (stamp_of e)) es

-- edges that all stand in the map, as many as it has and with no key twice, make the map
pub map_from_all : (m : FinMap key_cmp Stamp) (es : List Edge) → HasKeysOnce es → AllStand m es → length es ≡ len m
    → map_of es ≡ m
map_from_all m [] once all few = sym (empty_of_len m (sym few))
map_from_all m (e ∷ es) once all few =
    let stands : get m (key_of e) ≡ Some (stamp_of e) = all 0 e (omega arith) in
    let rest : FinMap key_cmp Stamp = remove m (key_of e) in
    let others : AllStand rest es =
    λ k d h.
    let x : Edge = get_or es k d in
    let other : is_key_of (key_of x) e ≡ false = is_key_of-false (key_of x) e (λ same. once_head e es once k d h (sym same)) in
    get-remove keys_total m (key_of e) (key_of x) ∙ ap (λ t. cond t None (get m (key_of x))) other
    ∙ all (suc k) d (omega arith) in
    let fewer : len rest ≡ len m - 1 = len-remove keys_total m (key_of e)
    ∙ ap (λ o. cond (is_some o) (len m - 1) (len m)) stands in
    let made : map_of es ≡ rest = map_from_all rest es (once_tail e es once) others (omega (arith, fewer, few)) in
    ap (λ n. insert n (key_of e) (stamp_of e)) made ∙ same_map keys_total exact_keys _ m (λ q. put_back m e q stands)
