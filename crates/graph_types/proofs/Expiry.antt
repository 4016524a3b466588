-- Edges that expire: what stays at each key, in the map and in a list of edges.
use Rattle.std.proofs.Common.{◌≡◌, ◌≢◌, ℕ, ◌+◌, Bool, true, false, cond, not, ◌&&◌, List, [], ◌∷◌, Option, Some, None, is_some}
use Rattle.std.proofs.{Common.{map, length, refl, sym, ap, ◌∙◌, subst, arith}, lemmas.{Cmp.tied_itself, List.Elements.All-cons}}
use Rattle.std.proofs.lemmas.{List.{Elements.All-nil, Sums.sum_by-cons, Kept.AllPairs-filter}, Grind.common_steps}
use Rattle.std.specs.{Prelude.{count_by, All, T}, Ordering.is_lt, declared.cmp.Ordering.{Ordering, TheVariants.Equal}}
use Rattle.std.specs.FinMap.{FinMap, get, len, entries, entries_sorted, find}
use Rattle.std.specs.FinMap.{get-entries, get-retain_keys, same_map, Entries.{is_sorted, below_all}}
use Rattle.graph_types.specs.{Graph.{Key, Stamp, key_cmp, key_of, stamp_of, entry_of, map_of}, Step.{is_before, stays_from}}
use Rattle.graph_types.specs.{Step.{expired, count_before, was_before, later}, Laws.Expires, declared.ids.Edge.Edge}
use Rattle.graph_types.proofs.Keys.{keys_total, exact_keys, HasKeysOnce, once_head, once_tail, once_none, once_cons, find_absent}
use Rattle.graph_types.proofs.{Keys.{get_is, get_cons, is_key_of, is_key_of-true, len_once}, Folds.count_entries}

kept_some : (time : ℕ) (o : Option Stamp) → cond (is_some (stays_from time o)) o None ≡ stays_from time o
kept_some time h1 = grind (arith, common_steps)

-- what stands at a key afterwards
pub get-expired : (time : ℕ) (edges : FinMap key_cmp Stamp) (key : Key)
    → get (expired time edges) key ≡ stays_from time (get edges key)
get-expired time edges key =
    get-retain_keys edges (λ k. is_some (stays_from time (get edges k))) key
    (λ x t. ap (λ k. is_some (stays_from time (get edges k))) (sym (exact_keys key x t)))
    ∙ kept_some time (get edges key)

get-later : (time : ℕ) (edges : List Edge) → HasKeysOnce edges → (key : Key)
    → get (map_of (later time edges)) key ≡ stays_from time (get (map_of edges) key)
get-later time [] once key =
    get_is key [] ∙ ap (stays_from time) (sym (get_is key []))
get-later time (e ∷ es) once key =
    let rest = get-later time es (once_tail e es once) key in
    let none : is_key_of key e ≡ true → get (map_of es) key ≡ None = λ t.
    ap (get (map_of es)) (is_key_of-true key e t) ∙ get_is (key_of e) es ∙ find_absent (key_of e) es (once_head e es once) in
    elim (was_before time e) as (λ b. was_before time e ≡ b
    → get (map_of (cond (not b) (e ∷ later time es) (later time es))) key ≡ stays_from time (get (map_of (e ∷ es)) key)) [
      | true ↦ λ old.
          rest
          ∙ elim (is_key_of key e) as (λ b. is_key_of key e ≡ b
          → stays_from time (get (map_of es) key) ≡ stays_from time (cond b (Some (stamp_of e)) (get (map_of es) key))) [
            | true ↦ λ t. ap (stays_from time) (none t) ∙ sym (ap (λ b. cond b None (Some (stamp_of e))) old)
            | false ↦ λ t. refl
          ] refl
          ∙ ap (stays_from time) (sym (get_cons e es key))
      | false ↦ λ old.
          get_cons e (later time es) key
          ∙ elim (is_key_of key e) as (λ b. cond b (Some (stamp_of e)) (get (map_of (later time es)) key)
          ≡ stays_from time (cond b (Some (stamp_of e)) (get (map_of es) key))) [
            | true ↦ sym (ap (λ b. cond b None (Some (stamp_of e))) old)
            | false ↦ rest
          ]
          ∙ ap (stays_from time) (sym (get_cons e es key))
    ] refl

-- a list of edges without those that were last touched before a time shows the map without them
pub map_of-later : (time : ℕ) (edges : List Edge) → HasKeysOnce edges → map_of (later time edges) ≡ expired time (map_of edges)
map_of-later time edges once = same_map keys_total exact_keys _ _
    (λ key. get-later time edges once key ∙ sym (get-expired time (map_of edges) key))

pub count_before-map_of : (time : ℕ) (edges : List Edge) → HasKeysOnce edges
    → count_before time (map_of edges) ≡ count_by (was_before time) edges
count_before-map_of time edges once = count_entries (λ entry. is_before time entry.1) edges once

-- those that go and those that stay are all of them
pub count-later : (time : ℕ) (edges : List Edge) → count_by (was_before time) edges + length (later time edges) ≡ length edges
count-later time [] = refl
count-later time (e ∷ es) =
    let rest = count-later time es in
    let whole = sum_by-cons (λ x. cond {A = ℕ} (was_before time x) 1 0) e es in
    elim (was_before time e) as (λ b. count_by (was_before time) (e ∷ es) ≡ cond b 1 0 + count_by (was_before time) es
    → count_by (was_before time) (e ∷ es) + length (cond (not b) (e ∷ later time es) (later time es)) ≡ length (e ∷ es)) [
      | true ↦ λ w. omega arith
      | false ↦ λ w. omega arith
    ] whole

pub once-later : (time : ℕ) (edges : List Edge) → HasKeysOnce edges → HasKeysOnce (later time edges)
once-later time edges once = AllPairs-filter (λ a b. key_of a ≢ key_of b) (λ e. not (was_before time e)) edges once

fewer_listed : (time : ℕ) (edges : List Edge) → HasKeysOnce edges
    → count_before time (map_of edges) + len (expired time (map_of edges)) ≡ len (map_of edges)
fewer_listed time edges once =
    let counted = count_before-map_of time edges once in
    let all = count-later time edges in
    let left = len_once (later time edges) (once-later time edges once) in
    let had = len_once edges once in
    let after_is = ap (λ (m : FinMap key_cmp Stamp). len m) (map_of-later time edges once) in
    omega arith

-- Each map is the map of its own entries, of which no two have one key

abbrev edge_of : Key × Stamp → Edge
edge_of e = record {
  kind = record { 0 = e.0.kind };
  source = record { 0 = e.0.source };
  target = record { 0 = e.0.target };
  weight = e.1.weight;
  first = e.1.first;
  recent = e.1.recent;
}

abbrev listed : List (Key × Stamp) → List Edge
listed [] = []
listed (e ∷ es) = edge_of e ∷ listed es

entries-listed : (es : List (Key × Stamp)) → map entry_of (listed es) ≡ es
entries-listed [] = refl
entries-listed (e ∷ es) = ap (λ xs. e ∷ xs) (entries-listed es)

parts : (a b : Bool) → T (a && b) → T a × T b
parts h0 b h = grind (arith, common_steps)

less_apart : (o : Ordering) → T (is_lt o) → o ≡ Equal → ⊥
less_apart h0 h e = grind (arith, common_steps)

below_apart : (k : Key) (es : List (Key × Stamp)) → T (below_all key_cmp k es) → All (λ x. k ≢ key_of x) (listed es)
below_apart k [] h = All-nil (λ x. k ≢ key_of x)
below_apart k (e ∷ es) h =
    let both = parts _ _ h in
    All-cons (λ x. k ≢ key_of x) (edge_of e) (listed es)
    (λ same. less_apart (key_cmp k e.0) both.0 (ap (λ q. key_cmp k q) (sym same) ∙ tied_itself keys_total k))
    (below_apart k es both.1)

once-listed : (es : List (Key × Stamp)) → T (is_sorted key_cmp es) → HasKeysOnce (listed es)
once-listed [] h = once_none
once-listed (e ∷ es) h =
    let both = parts _ _ h in once_cons (edge_of e) (listed es) (below_apart e.0 es both.0) (once-listed es both.1)

map_of-listed : (edges : FinMap key_cmp Stamp) → map_of (listed (entries edges)) ≡ edges
map_of-listed edges = same_map keys_total exact_keys _ _
    (λ key. get_is key (listed (entries edges)) ∙ ap (find key_cmp key) (entries-listed (entries edges))
    ∙ sym (get-entries edges key))

pub fewer : (time : ℕ) (edges : FinMap key_cmp Stamp) → count_before time edges + len (expired time edges) ≡ len edges
fewer time edges =
    subst (λ (m : FinMap key_cmp Stamp). count_before time m + len (expired time m) ≡ len m) (map_of-listed edges)
    (fewer_listed time (listed (entries edges)) (once-listed (entries edges) (entries_sorted edges)))

pub expires : Expires
expires = record { stays = get-expired; counted = fewer }
