-- The operations of one worker's shard, and what stands of the outcomes after each shard.
use Rattle.std.proofs.Common.{◌≡◌, ℕ, zero, suc, ◌+◌, ◌%◌, ◌<◌, ◌≤◌, Bool, true, false, cond, ltb, List, [], ◌∷◌, ◌++◌, map}
use Rattle.std.proofs.Common.{length, replicate, ◌==◌, count_by, filter, Option, flat_map, refl, sym, ap, ap₂, ◌∙◌, arith}
use Rattle.std.proofs.lemmas.{Bool.{eqb-true, le-ltb, lt-ltb}, Grind.common_steps, List.{map-append, Elements.filter-append}}
use Rattle.std.proofs.lemmas.List.Sums.{sum_by-cons}
use Rattle.std.specs.{List.{sum_by, range_with_len, enumerate_from}, declared.option.Option.TheVariants.{None, Some}}
use Rattle.graph_types.specs.{Graph.Key, Outcomes.{told, together}, declared.batches.Outcome.{Outcome, TheVariants.Absent}}
use Rattle.graph_types.specs.declared.changes.EdgeChange.{EdgeChange}
use Rattle.graph_types.proofs.{Joined.enumerated_last, OutcomeSteps.{edge_step, expiry_step}, Sums.{count_more, hits, hits_few}}
use Rattle.edge_block.specs.Batches.{Resolved, AtKey, InAll, shard_ops, shard_of, is_in_shard, IsPlaced, outcome_in, rows_step}
use Rattle.edge_block.specs.{Batches.{outcomes_all, key_outcome}, Rows.{OpenBlock, old_in_row}}
use Rattle.edge_block.proofs.ShardResults.{every}

abbrev pub is_on_edge : Resolved → Bool
is_on_edge (AtKey own key change) = true
is_on_edge (InAll time) = false

abbrev pub on_edges : List Resolved → ℕ
on_edges rs = count_by is_on_edge rs

module _ (workers : ℕ) where
  abbrev pub in_shards : List Resolved → ℕ → ℕ → ℕ
  in_shards rs a k = sum_by (λ w. on_edges (shard_ops workers w rs)) (range_with_len a k)

  edge_here : (own : Option ℕ) (key : Option Key) (change : EdgeChange) (rs : List Resolved) (w : ℕ)
      → on_edges (shard_ops workers w (AtKey own key change ∷ rs))
      ≡ cond (shard_of workers own == w) 1 0 + on_edges (shard_ops workers w rs)
  edge_here own key change rs w = grind (arith, common_steps, count_more)

  edge_more : (own : Option ℕ) (key : Option Key) (change : EdgeChange) (rs : List Resolved) (a k : ℕ)
      → in_shards (AtKey own key change ∷ rs) a k ≡ hits (shard_of workers own) a k + in_shards rs a k
  edge_more own key change rs a zero = refl
  edge_more own key change rs a (suc k) = grind (arith, common_steps, edge_more own key change rs (a + 1) k)

  expiry_more : (time : ℕ) (rs : List Resolved) (a k : ℕ) → in_shards (InAll time ∷ rs) a k ≡ in_shards rs a k
  expiry_more time rs a zero = refl
  expiry_more time rs a (suc k) = grind (arith, common_steps, expiry_more time rs (a + 1) k)

  none_in : (a k : ℕ) → in_shards [] a k ≡ 0
  none_in a zero = refl
  none_in a (suc k) =
      omega (arith, sum_by-cons (λ w. on_edges (shard_ops workers w [])) a (range_with_len (a + 1) k), none_in (a + 1) k)

  pub few_edges : (rs : List Resolved) (a k : ℕ) → in_shards rs a k ≤ length rs
  few_edges [] a k = omega (arith, none_in a k)
  few_edges (AtKey own key change ∷ rs) a k =
      omega (arith, edge_more own key change rs a k, hits_few (shard_of workers own) a k, few_edges rs a k)
  few_edges (InAll time ∷ rs) a k = omega (arith, expiry_more time rs a k, few_edges rs a k)

abbrev pub own_numbers : ℕ → ℕ → List (ℕ × Resolved) → List ℕ
own_numbers workers w ps = map (λ (p : ℕ × Resolved). p.0) (filter (λ (p : ℕ × Resolved). is_in_shard workers w p.1) ps)

pub next_places : (workers w : ℕ) (rs : List Resolved) (r : Resolved) → own_numbers workers w (enumerate_from 0 (rs ++ r ∷ []))
    ≡ own_numbers workers w (enumerate_from 0 rs) ++ own_numbers workers w ((length rs, r) ∷ [])
next_places workers w rs r =
    ap (own_numbers workers w) (enumerated_last 0 rs r (length rs) (omega arith))
    ∙ ap (map (λ (p : ℕ × Resolved). p.0)) (filter-append (λ (p : ℕ × Resolved). is_in_shard workers w p.1) (enumerate_from 0 rs)
    ((length rs, r) ∷ []))
    ∙ map-append (λ (p : ℕ × Resolved). p.0) (filter (λ (p : ℕ × Resolved). is_in_shard workers w p.1) (enumerate_from 0 rs))
    (filter (λ (p : ℕ × Resolved). is_in_shard workers w p.1) ((length rs, r) ∷ []))

-- the key of an operation on an edge
abbrev pub key_in : Resolved → Option Key
key_in (AtKey source key change) = key
key_in (InAll time) = None

pub own_key : (workers w : ℕ) (r : Resolved) → IsPlaced r → is_in_shard workers w r ≡ true → (k : Key) → key_in r ≡ Some k
    → k.source % workers ≡ w
own_key workers w r placed mine k e = grind (arith, common_steps, eqb-true)

-- what stands after a shard: the results of the operations that pass are put together with it
abbrev pub mixed : (Resolved → Bool) → List Resolved → List Outcome → List Outcome → List Outcome
mixed p [] ys xs = xs
mixed p (r ∷ rs) [] xs = xs
mixed p (r ∷ rs) (y ∷ ys) [] = []
mixed p (r ∷ rs) (y ∷ ys) (x ∷ xs) = cond (p r) (told (together x y)) x ∷ mixed p rs ys xs

abbrev is_done : ℕ → ℕ → Resolved → Bool
is_done workers w (AtKey source key change) = ltb (shard_of workers source) w
is_done workers w (InAll time) = ltb 0 w

abbrev pub so_far : ℕ → ℕ → List ℕ → List Resolved → (ℕ → List OpenBlock) → List Outcome
so_far workers w sources [] rows = []
so_far workers w sources (r ∷ rs) rows =
    cond (is_done workers w r) (told (outcome_in sources r rows)) Absent ∷ so_far workers w sources rs (rows_step r rows)

pub step : (workers w : ℕ) (before sources : List ℕ) → (w ≡ 0 → before ≡ []) → (rs : List Resolved) (rows : ℕ → List OpenBlock)
    → mixed (is_in_shard workers w) rs (map told (outcomes_all sources rs rows)) (so_far workers w before rs rows)
    ≡ so_far workers (w + 1) (before ++ sources) rs rows
step workers w before sources first [] rows = refl
step workers w before sources first (AtKey source key change ∷ rs) rows =
    ap₂ (λ (o : Outcome) os. o ∷ os) (edge_step (shard_of workers source) w (key_outcome change key rows))
    (step workers w before sources first rs (rows_step (AtKey source key change) rows))
step workers w before sources first (InAll time ∷ rs) rows =
    ap₂ (λ (o : Outcome) os. o ∷ os) (expiry_step w (λ s. old_in_row time (rows s)) before sources first)
    (step workers w before sources first rs (rows_step (InAll time) rows))

pub long_so_far : (workers w : ℕ) (sources : List ℕ) (rs : List Resolved) (rows : ℕ → List OpenBlock)
    → length (so_far workers w sources rs rows) ≡ length rs
long_so_far workers w sources [] rows = refl
long_so_far workers w sources (r ∷ rs) rows = ap suc (long_so_far workers w sources rs (rows_step r rows))

abbrev pub all_sources : List (List ℕ) → List ℕ
all_sources shards = flat_map (λ s. s) shards

none_done : (workers : ℕ) (r : Resolved) → is_done workers 0 r ≡ false
none_done workers r = grind (arith, common_steps, le-ltb)

pub none_yet : (workers : ℕ) (rs : List Resolved) (rows : ℕ → List OpenBlock)
    → replicate (length rs) Absent ≡ so_far workers 0 [] rs rows
none_yet workers [] rows = refl
none_yet workers (r ∷ rs) rows = ap₂ (λ (o : Outcome) os. o ∷ os)
    (ap (λ b. cond b (told (outcome_in [] r rows)) Absent) (sym (none_done workers r))) (none_yet workers rs (rows_step r rows))

each_done : (workers : ℕ) → 0 < workers → (r : Resolved) → is_done workers workers r ≡ true
each_done workers h r = grind (arith, common_steps, lt-ltb, every)

pub all_done : (workers : ℕ) → 0 < workers → (sources : List ℕ) (rs : List Resolved) (rows : ℕ → List OpenBlock)
    → so_far workers workers sources rs rows ≡ map told (outcomes_all sources rs rows)
all_done workers h sources [] rows = refl
all_done workers h sources (r ∷ rs) rows = ap₂ (λ (o : Outcome) os. o ∷ os)
    (ap (λ b. cond b (told (outcome_in sources r rows)) Absent) (each_done workers h r))
    (all_done workers h sources rs (rows_step r rows))
