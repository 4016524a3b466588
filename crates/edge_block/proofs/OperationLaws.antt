-- The rows that operations leave have the edges that the operation rule leaves, and the outcomes are the rule's.
use Rattle.std.proofs.Common.{◌≡◌, ℕ, ◌<◌, ◌==◌, List, [], ◌∷◌, length, Bool, true, false, cond, ◌&&◌, ◌≤◌, arith}
use Rattle.std.proofs.Common.{refl, sym, ap, ◌∙◌, subst, Option, Some, None, is_some}
use Rattle.std.proofs.lemmas.{Bool.{eqb-true, lt-ltb}, List.Elements.All-map, Grind.common_steps}
use Rattle.std.specs.{List.range_with_len, Option.option_or, Ordering.eq_by_cmp}
use Rattle.std.specs.{Cmp.Equal-is, FinMap.FinMap, FinMap.get}
use Rattle.graph_types.specs.{Graph.{Graph, Key, Stamp, key_cmp}, Step.{after_all, set_at, stamp_after, outcome_at, changed}}
use Rattle.graph_types.specs.Step.{changed_key, change_outcome, outcome, outcomes, names_made}
use Rattle.graph_types.specs.{Step.{kinds_made, expired, count_before}, Answer.is_listed}
use Rattle.graph_types.specs.declared.batches.{NamedOp.NamedOp, Outcome.Outcome}
use Rattle.graph_types.specs.declared.{batches.Outcome.TheVariants.{Absent, Expired}, changes.EdgeChange.EdgeChange}
use Rattle.graph_types.specs.Parts.{Parts, OfEdge, OfAll, names_by, kinds_by, names_after, kinds_after}
use Rattle.edge_block.specs.{Slots.{NoKeyTwice, AreDistinct}, Rows.{OpenBlock, block_at, row_at, open_at, edge_at, IsRow}}
use Rattle.edge_block.specs.{Rows.{change_row, shapes}, Batches.{Resolved, InAll, resolve_parts, resolved, resolved_by, key_is_of, key_step}}
use Rattle.edge_block.specs.Batches.{rows_step, HasEndsWithin, rows_all, key_outcome, outcome_in, outcomes_all, IsLayoutOf}
use Rattle.graph_types.proofs.{Keys.exact_keys, NameLists.length-after_all-names, Expiry.get-expired, WeightsKept.set_at_get}
use Rattle.graph_types.proofs.OperationParts.{after_parts, outcome_parts, parts_over, after_is, outcome_is, names_over, kinds_over}
use Rattle.graph_types.proofs.NameLists.{any_before_end, length-names_made, length-kinds_made}
use Rattle.graph_types.proofs.{Cases.none_is, EdgeMaps.set_none, ListedNames.{all_appear, all_known}}
use Rattle.graph_types.proofs.{OperationParts.{names_left, kinds_left, limits_left}, PickedStamps.{was_there, lies}}
use Rattle.graph_types.proofs.PickedStamps.{tests_of_key, tied}
use Rattle.edge_block.proofs.{RowLaws.{IsOpenRow, change_sets}, ListedRows.count_shown, ExpiryLaws.expire_stays}
use Rattle.edge_block.proofs.ExpiryLaws.{expire_open}

-- the rows have the map's edges, and no others
abbrev pub Shows : (ℕ → List OpenBlock) → FinMap key_cmp Stamp → Type 0
Shows rows edges = (k : Key) → edge_at (rows k.source) (k.kind, k.target) ≡ get edges k

-- no row has two edges of one key
abbrev pub AreOpenRows : (ℕ → List OpenBlock) → Type 0
AreOpenRows rows = (source : ℕ) → IsOpenRow (rows source)

never : {A : Type 0} (a : Bool) (x y : A) → y ≡ cond (a && false) x y
never h0 x y = grind (arith, common_steps)

-- a change at a key, on rows that have the map's edges
shows_key : (change : EdgeChange) (k : Key) (rows : ℕ → List OpenBlock) (edges : FinMap key_cmp Stamp) → AreOpenRows rows
    → Shows rows edges
    → (q : Key) → edge_at (cond (q.source == k.source) (change_row change (k.kind, k.target) (rows q.source)) (rows q.source))
    (q.kind, q.target) ≡ get (set_at edges k (stamp_after change (get edges k))) q
shows_key change k rows edges u s q = grind (arith, common_steps, tests_of_key, eqb-true, change_sets, never, set_at_get, tied)

rows_key : (change : EdgeChange) (k : Key) (rows : ℕ → List OpenBlock) → AreOpenRows rows → (source : ℕ)
    → IsOpenRow (cond (source == k.source) (change_row change (k.kind, k.target) (rows source)) (rows source))
rows_key change k rows u source = grind (arith, common_steps, IsOpenRow, change_sets)

abbrev knows : EdgeChange → List ℕ → List ℕ → List ℕ → Graph → Bool
knows change kind source target g =
    is_listed (kinds_made change kind g.kinds) kind
    && (is_listed (names_made change source target g.names) source && is_listed (names_made change source target g.names) target)

-- an operation with an unknown name is a removal, and nothing is at its key
unknown_none : (change : EdgeChange) (kind source target : List ℕ) (g : Graph) → HasEndsWithin g
    → knows change kind source target g ≡ false
    → (get g.edges (changed_key change kind source target g) ≡ None) × (stamp_after change None ≡ None)
    × (outcome_at change None ≡ Absent)
unknown_none h0 kind source target g w h = grind (arith, common_steps, all_appear, none_is, any_before_end, lt-ltb, all_known)

module _ (change : EdgeChange) (kind source target : List ℕ) (g : Graph) where
  abbrev key : Key
  key = changed_key change kind source target g

  abbrev key_when : Bool → Option Key
  key_when b = cond b (Some key) None

  -- one operation on one edge
  edge_shows : (rows : ℕ → List OpenBlock) → HasEndsWithin g → AreOpenRows rows → Shows rows g.edges
      → let r = resolve_parts (names_made change source target g.names) (kinds_made change kind g.kinds)
      (OfEdge change kind source target) in
      Shows (rows_step r rows) (changed change kind source target g).edges × AreOpenRows (rows_step r rows)
      × (key_outcome change (key_when (knows change kind source target g)) rows ≡ change_outcome change kind source target g)
  edge_shows rows w u s =
      elim (knows change kind source target g) as (λ b. knows change kind source target g ≡ b →
      ((q : Key)
      → edge_at (cond (key_is_of q.source (key_when b)) (key_step change (key_when b) (rows q.source)) (rows q.source))
      (q.kind, q.target) ≡ get (changed change kind source target g).edges q)
      × ((at : ℕ) → IsOpenRow (cond (key_is_of at (key_when b)) (key_step change (key_when b) (rows at)) (rows at)))
      × (key_outcome change (key_when b) rows ≡ change_outcome change kind source target g)) [
        | true ↦ λ t. (
          λ q. shows_key change key rows g.edges u s q,
          rows_key change key rows u,
          ap (outcome_at change) (s key),
        )
        | false ↦ λ t.
            let none = unknown_none change kind source target g w t in (
              λ q. s q ∙ set_none g.edges key none.0 q
                  ∙ ap (λ o. get (set_at g.edges key o) q) (sym (ap (stamp_after change) none.0 ∙ none.1)),
              u,
              sym (ap (outcome_at change) none.0 ∙ none.2),
            )
      ] refl

pub step_within : (op : Parts) (g : Graph) → HasEndsWithin g → HasEndsWithin (after_parts op g)
step_within (OfAll time) g w q is = w q (was_there time (get g.edges q) (ap is_some (sym (get-expired time g.edges q)) ∙ is))
step_within (OfEdge change kind source target) g w q is =
    let k : Key = changed_key change kind source target g in
    let n = length (names_made change source target g.names) in
    let m = length (kinds_made change kind g.kinds) in
    elim (eq_by_cmp key_cmp q k) as (λ b. eq_by_cmp key_cmp q k ≡ b
    → is_some (cond b (stamp_after change (get g.edges k)) (get g.edges q)) ≡ true
    → (q.kind < m) × (q.source < n) × (q.target < n)) [
      | true ↦ λ t i.
          subst (λ (k : Key). (k.kind < m) × (k.source < n) × (k.target < n))
          (sym (exact_keys q k ((Equal-is (key_cmp q k)).0 t))) (lies change kind source target g (get g.edges k) i)
      | false ↦ λ t i.
          let old = w q i in
          let more_names = length-names_made change source target g.names in
          let more_kinds = length-kinds_made change kind g.kinds in
          let a = old.0 in let b = old.1 in let c = old.2 in
          (omega arith, omega arith, omega arith)
    ] refl (ap is_some (sym (set_at_get g.edges k (stamp_after change (get g.edges k)) q)) ∙ is)

-- the shapes of open rows that have a map's edges are a layout of it
shapes_at : (row : List OpenBlock) (q : ℕ × ℕ) → row_at (shapes row) q ≡ edge_at row q
shapes_at [] q = refl
shapes_at (b ∷ row) q = ap (option_or (open_at b q)) (shapes_at row q)

shapes_row : (row : List OpenBlock) → IsOpenRow row → IsRow (shapes row)
shapes_row row u = record { within = All-map (λ b. AreDistinct b.slots) (λ b. b.shape) row u.within; between = between row u.between } where
  between : (row : List OpenBlock) → NoKeyTwice open_at row → NoKeyTwice block_at (shapes row)
  between [] u = tt
  between (b ∷ row) u = (λ q is. shapes_at row q ∙ u.0 q is, between row u.1)

shapes_layout : (rows : ℕ → List OpenBlock) (edges : FinMap key_cmp Stamp) → AreOpenRows rows → Shows rows edges
    → IsLayoutOf (λ source. shapes (rows source)) edges
shapes_layout rows edges u s = grind (arith, common_steps, shapes_row, shapes_at)

-- an expiry, counted over so many sources that each edge is of one of them
pub expiry_shows : (time : ℕ) (edges : FinMap key_cmp Stamp) (rows : ℕ → List OpenBlock) (n : ℕ) → AreOpenRows rows
    → Shows rows edges → ((k : Key) → is_some (get edges k) ≡ true → k.source < n)
    → Shows (rows_step (InAll time) rows) (expired time edges) × AreOpenRows (rows_step (InAll time) rows)
    × (outcome_in (range_with_len 0 n) (InAll time) rows ≡ Expired (count_before time edges))
expiry_shows time edges rows n u s below =
    grind (arith, common_steps, expire_stays, get-expired, expire_open, count_shown, shapes_layout)

-- one operation
pub step_shows : (op : Parts) (g : Graph) (rows : ℕ → List OpenBlock) (n : ℕ) → HasEndsWithin g → AreOpenRows rows
    → Shows rows g.edges → length g.names ≤ n
    → let r = resolve_parts (names_by op g.names) (kinds_by op g.kinds) op in
    Shows (rows_step r rows) (after_parts op g).edges × AreOpenRows (rows_step r rows)
    × (outcome_in (range_with_len 0 n) r rows ≡ outcome_parts op g)
step_shows (OfEdge change kind source target) g rows n w u s few = edge_shows change kind source target g rows w u s
step_shows (OfAll time) g rows n w u s few =
    expiry_shows time g.edges rows n u s (λ k is. let lt = (w k is).1 in omega arith)

-- an operation by the names and kinds that it leaves of the graph's
abbrev by_left : NamedOp → Graph → Resolved
by_left op g = resolve_parts (names_after op g.names) (kinds_after op g.kinds) (parts_over op g)

-- the operation over a graph
one_shows : (op : NamedOp) (g : Graph) (rows : ℕ → List OpenBlock) (n : ℕ) → HasEndsWithin g → AreOpenRows rows → Shows rows g.edges
    → length g.names ≤ n → let r = by_left op g in
    Shows (rows_step r rows) (after_parts (parts_over op g) g).edges × AreOpenRows (rows_step r rows)
    × (outcome_in (range_with_len 0 n) r rows ≡ outcome_parts (parts_over op g) g)
one_shows op g rows n w u s few =
    let parts : Parts = parts_over op g in
    let same : ◌≡◌ {A = Resolved} (resolve_parts (names_by parts g.names) (kinds_by parts g.kinds) parts) (by_left op g) =
    λ i. resolve_parts (names_over g.limits.weight op g.names i) (kinds_over g.limits.weight op g.kinds i) parts in
    subst (λ (r : Resolved). Shows (rows_step r rows) (after_parts parts g).edges × AreOpenRows (rows_step r rows)
    × (outcome_in (range_with_len 0 n) r rows ≡ outcome_parts parts g))
    same (step_shows parts g rows n w u s few)

-- a batch's operations, one after another
pub all_shows : (ops : List NamedOp) (g : Graph) (rows : ℕ → List OpenBlock) (n : ℕ) → HasEndsWithin g → AreOpenRows rows
    → Shows rows g.edges → length (after_all ops g).names ≤ n
    → let rs = resolved ops g in
    Shows (rows_all rs rows) (after_all ops g).edges × AreOpenRows (rows_all rs rows)
    × (outcomes_all (range_with_len 0 n) rs rows ≡ outcomes ops g) × HasEndsWithin (after_all ops g)
all_shows [] g rows n w u s few = (s, u, refl, w)
all_shows (op ∷ ops) g rows n w u s few =
    let all : List ℕ = range_with_len 0 n in
    let parts : Parts = parts_over op g in
    let r : Resolved = by_left op g in
    let next : Graph = after_parts parts g in
    let most : ℕ = g.limits.weight in
    let rs : List Resolved = resolved_by most ops (names_after op g.names) (kinds_after op g.kinds) in
    let names_are : next.names ≡ names_after op g.names = names_left parts g ∙ names_over most op g.names in
    let kinds_are : next.kinds ≡ kinds_after op g.kinds = kinds_left parts g ∙ kinds_over most op g.kinds in
    let there : ◌≡◌ {A = List Resolved} (resolved ops next) rs =
    λ i. resolved_by (limits_left parts g i).weight ops (names_are i) (kinds_are i) in
    let few_here : length g.names ≤ n = omega (arith, few, length-after_all-names (op ∷ ops) g) in
    let few_next : length (after_all ops next).names ≤ n =
    subst (λ (h : Graph). length (after_all ops h).names ≤ n) (after_is op g) few in
    let one = one_shows op g rows n w u s few_here in
    let rest = all_shows ops next (rows_step r rows) n (step_within parts g w) one.1 one.0 few_next in
    subst (λ (h : Graph).
    Shows (rows_all rs (rows_step r rows)) (after_all ops h).edges × AreOpenRows (rows_all rs (rows_step r rows))
    × (outcome_in all r rows ∷ outcomes_all all rs (rows_step r rows) ≡ outcome op g ∷ outcomes ops h)
    × HasEndsWithin (after_all ops h))
    (sym (after_is op g)) (
      subst (λ xs. Shows (rows_all xs (rows_step r rows)) (after_all ops next).edges) there rest.0,
      subst (λ xs. AreOpenRows (rows_all xs (rows_step r rows))) there rest.1,
      (λ i. (one.2 ∙ sym (outcome_is op g)) i
          ∷ (ap (λ xs. outcomes_all all xs (rows_step r rows)) (sym there) ∙ rest.2) i),
      rest.3,
    )
