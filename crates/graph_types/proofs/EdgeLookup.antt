-- Edges at their keys: what it is to the map that a list of edges shows, to find an edge in the list, to take it
-- away and to add one.
use Rattle.std.proofs.Common.{◌≡◌, List, [], ◌∷◌, ◌++◌, Bool, true, false, cond, not, map, Option, Some, None, Decides, arith}
use Rattle.std.proofs.Common.{option_map, option_to_list, IfSome, refl, sym, ap, ◌∙◌}
use Rattle.std.proofs.lemmas.{Bool.Decides.same_from_decides, Grind.common_steps}
use Rattle.std.proofs.lemmas.{Cmp.eq_by_cmp_equiv, List.append-nil, List.map-append}
use Rattle.std.specs.{List.find, Ordering.eq_by_cmp, FinMap.{get, insert, remove, from_entries, get-from_entries, get-insert}}
use Rattle.std.specs.FinMap.{get-remove, same_map, from_entries_push, Entries.{find as look_up, where_key, find-where_key}}
use Rattle.graph_types.specs.Graph.{Key, Stamp, key_cmp, key_of, stamp_of, entry_of, map_of, has_key, without, IsAt}
use Rattle.graph_types.{specs.{Step.set_at, declared.ids.Edge.Edge}, proofs.Keys.{keys_total, exact_keys}}

tied_itself : (key : Key) → eq_by_cmp key_cmp key key ≡ true
tied_itself key = (eq_by_cmp_equiv keys_total).refl key

Decides-tie : (a b : Key) → Decides (eq_by_cmp key_cmp a b) (b ≡ a)
Decides-tie a b = grind (arith, common_steps)

pub Decides-has_key : (key : Key) (e : Edge) → Decides (has_key key e) (key_of e ≡ key)
Decides-has_key key e = grind (arith, common_steps)

has_key-tie : (key : Key) (e : Edge) → has_key key e ≡ eq_by_cmp key_cmp key (key_of e)
has_key-tie key e = same_from_decides _ _ (Decides-has_key key e) (Decides-tie key (key_of e))

abbrev entries_of : List Edge → List (Key × Stamp)
entries_of edges = map entry_of edges

look_up-entries_of : (key : Key) (edges : List Edge)
    → look_up key_cmp key (entries_of edges) ≡ option_map stamp_of (find (has_key key) edges)
look_up-entries_of key [] = refl
look_up-entries_of key (e ∷ edges) =
    ap (λ b. cond b (Some (stamp_of e)) (look_up key_cmp key (entries_of edges))) (sym (has_key-tie key e))
    ∙ elim (has_key key e) as (λ b. cond b (Some (stamp_of e)) (look_up key_cmp key (entries_of edges))
    ≡ option_map stamp_of (cond b (Some e) (find (has_key key) edges))) [
      | true ↦ refl
      | false ↦ look_up-entries_of key edges
    ]

-- what stands at a key is what the first edge with the key bears
pub get-map_of : (key : Key) (edges : List Edge) → get (map_of edges) key ≡ option_map stamp_of (find (has_key key) edges)
get-map_of key edges = get-from_entries keys_total (entries_of edges) key ∙ look_up-entries_of key edges

-- the same of what was looked for
pub found_some : (key : Key) (edges : List Edge) (e : Edge) → Some e ≡ find (has_key key) edges
    → get (map_of edges) key ≡ Some (stamp_of e)
found_some key edges e is = get-map_of key edges ∙ ap (option_map stamp_of) (sym is)

pub found_none : (key : Key) (edges : List Edge) → None ≡ find (has_key key) edges → get (map_of edges) key ≡ None
found_none key edges is = get-map_of key edges ∙ ap (option_map stamp_of) (sym is)

entries_of-without : (key : Key) (edges : List Edge)
    → entries_of (without key edges) ≡ where_key key_cmp (λ k. not (eq_by_cmp key_cmp key k)) (entries_of edges)
entries_of-without key [] = refl
entries_of-without key (e ∷ edges) =
    let kept = where_key key_cmp (λ k. not (eq_by_cmp key_cmp key k)) (entries_of edges) in
    ap (λ b. entries_of (cond (not b) (e ∷ without key edges) (without key edges))) (has_key-tie key e)
    ∙ elim (eq_by_cmp key_cmp key (key_of e)) as (λ b. entries_of (cond (not b) (e ∷ without key edges) (without key edges))
    ≡ cond (not b) ((key_of e, stamp_of e) ∷ kept) kept) [
      | true ↦ entries_of-without key edges
      | false ↦ ap (λ es. (key_of e, stamp_of e) ∷ es) (entries_of-without key edges)
    ]

turned : {A : Type 0} (b : Bool) (x y : A) → cond (not b) x y ≡ cond b y x
turned h0 x y = grind (arith, common_steps)

get-map_of-without : (key q : Key) (edges : List Edge)
    → get (map_of (without key edges)) q ≡ cond (eq_by_cmp key_cmp q key) None (get (map_of edges) q)
get-map_of-without key q edges =
    get-from_entries keys_total (entries_of (without key edges)) q
    ∙ ap (look_up key_cmp q) (entries_of-without key edges)
    ∙ find-where_key key_cmp (λ k. not (eq_by_cmp key_cmp key k)) q
    (λ x t. ap (λ k. not (eq_by_cmp key_cmp key k)) (sym (exact_keys q x t))) (entries_of edges)
    ∙ turned (eq_by_cmp key_cmp key q) _ _
    ∙ ap (λ b. cond b None (look_up key_cmp q (entries_of edges))) ((eq_by_cmp_equiv keys_total).symm key q)
    ∙ ap (cond (eq_by_cmp key_cmp q key) None) (sym (get-from_entries keys_total (entries_of edges) q))

pub map_of-without : (key : Key) (edges : List Edge) → map_of (without key edges) ≡ remove (map_of edges) key
map_of-without key edges = same_map keys_total exact_keys _ _
    (λ q. get-map_of-without key q edges ∙ sym (get-remove keys_total (map_of edges) key q))

covered : {A : Type 0} (b : Bool) (x y z : A) → cond b x (cond b y z) ≡ cond b x z
covered h0 x y z = grind (arith, common_steps)

put_anew : (edges : List Edge) (e : Edge)
    → map_of (without (key_of e) edges ++ e ∷ []) ≡ insert (map_of edges) (key_of e) (stamp_of e)
put_anew edges e =
    let key = key_of e in
    let rest = without key edges in
    let gone : look_up key_cmp key (entries_of rest) ≡ None =
    sym (get-from_entries keys_total (entries_of rest) key) ∙ get-map_of-without key key edges
    ∙ ap (λ b. cond b None (get (map_of edges) key)) (tied_itself key) in
    ap from_entries (map-append entry_of rest (e ∷ []))
    ∙ from_entries_push keys_total exact_keys (entries_of rest) key (stamp_of e) gone
    ∙ same_map keys_total exact_keys _ _ (λ q.
    get-insert keys_total (map_of rest) key (stamp_of e) q
    ∙ ap (cond (eq_by_cmp key_cmp q key) (Some (stamp_of e))) (get-map_of-without key q edges)
    ∙ covered (eq_by_cmp key_cmp q key) _ _ _
    ∙ sym (get-insert keys_total (map_of edges) key (stamp_of e) q))

-- an insertion, a change and a removal alike: what has the key goes, and what is to stand there comes
pub map_of-put : (key : Key) (edges : List Edge) (new : Option Edge) → IfSome new (IsAt key)
    → map_of (without key edges ++ option_to_list new) ≡ set_at (map_of edges) key (option_map stamp_of new)
map_of-put key edges h2 at = grind (arith, common_steps, append-nil, map_of-without, put_anew)
