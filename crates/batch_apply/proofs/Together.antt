-- The blocks that all workers take and drop are those of the batch.
use Rattle.std.proofs.Common.{◌≡◌, ℕ, zero, suc, ◌+◌, ◌%◌, ◌<◌, ◌≤◌, ◌==◌, List, [], ◌∷◌, ◌++◌, length, map, flat_map}
use Rattle.std.proofs.Common.{get_or, true, false, refl, sym, ap, ap₂, ◌∙◌, arith, subst, Option, Some, None, All}
use Rattle.std.proofs.{Common.{mod-lt, zip}, lemmas.Bool.{eq-eqb, eqb-true, eqb-false, false_from_ne_true}}
use Rattle.std.proofs.lemmas.List.{length-map, get_or-map, Sums.{sum_by-cons, sum_by-append}, Elements.{All-head, All-tail}}
use Rattle.std.{proofs.lemmas.List.Elements.{All-cons, All-nil, All-append, All-map}, specs.List.{sum_by, range_with_len, AllZip}}
use Rattle.std.proofs.lemmas.Grind.{common_steps}
use Rattle.graph_types.specs.{Graph.Graph, Step.after_all, declared.batches.NamedOp.NamedOp, declared.batches.Outcome.Outcome}
use Rattle.graph_types.proofs.{Sums.{count_by-append, sum_same}, Times.{times, no_times, some_times, listed_times}}
use Rattle.graph_types.proofs.Times.{apart_times}
use Rattle.edge_block.specs.{Rows.{Shape, OpenBlock, untouched, taken_in, dropped_in, shape_of, row_end}, Batches.Resolved}
use Rattle.edge_block.specs.Batches.{AtKey, InAll, resolved, is_in_shard, shard_ops, rows_all, opened_rows, key_is_of, taken_by}
use Rattle.edge_block.specs.{Batches.{dropped_by, outcomes_all, layout_after, sum_below, HasEndsWithin, IsLayoutOf}, Slots.BlockView}
use Rattle.edge_block.proofs.{BatchSums.sum_all, ShardResults.placed_in, Untouched.{kept_all, none_taken, none_dropped}}
use Rattle.edge_block.proofs.Spared.{KeepsOff, Spares, off_all, rows_spared, over_all}
use Rattle.batch_shards.specs.{Births.births_end, Shards.{IsAct, IsPlace, key_at, resolved_at}, declared.shard.Act.Act}
use Rattle.batch_shards.specs.declared.shard.{Act.TheVariants.{Edge, Expire}, Shard.Shard, Step.Step, ShardDone.ShardDone}
use Rattle.batch_shards.specs.{declared.shard.Place.Place, Done.{IsShardDone, sources_in, steps_in, rows_by, layout_by, sum_of}}
use Rattle.batch_shards.specs.Closing.{row_values}
use Rattle.graph_version.specs.Versions.{is_in}
use Rattle.batch_apply.specs.{Shards.{acts, unsourced, latest_expiry, has_old_shape, IsShardOf, ArePlanned}, Plans.{results, told}}
use Rattle.batch_apply.proofs.Spared.{all_spare}
use Rattle.batch_apply.proofs.Totals.{worker_rows, same_outcomes}
use Rattle.batch_apply.proofs.Merge.{same_ops, shard_places}
use Rattle.batch_apply.proofs.Sources.{sources_within}

module _ (workers : ℕ) (ops : List NamedOp) (g : Graph) (layout : ℕ → List Shape) where
  abbrev rs : List Resolved
  rs = resolved ops g

  abbrev pub sources_all : List Shard → List ℕ
  sources_all shards = flat_map sources_in shards

  abbrev pub Zipped : ℕ → ℕ → List Shard → Type 0
  Zipped a k shards = AllZip (IsShardOf workers (resolved ops g) layout) (range_with_len a k) shards

  other_worker : (w m : ℕ) (shard : Shard) → IsShardOf workers (resolved ops g) layout w shard → (m % workers ≡ w → ⊥)
      → times m (sources_in shard) ≡ 0
  other_worker w m shard is ne = no_times m (sources_in shard) (λ k d lt e. ne (ap (λ x. x % workers) (sym e) ∙ is.own k d lt))

  none_before : (a k m : ℕ) (shards : List Shard) → Zipped a k shards → m % workers < a → times m (sources_all shards) ≡ 0
  none_before a zero m [] z lt = refl
  none_before a zero m (s ∷ shards) z lt = absurd z
  none_before a (suc k) m [] z lt = absurd z
  none_before a (suc k) m (s ∷ shards) z lt =
      grind (arith, common_steps, other_worker, count_by-append, none_before (a + 1) k m shards z.1 (omega arith))

  pub all_once : (a k m : ℕ) (shards : List Shard) → Zipped a k shards → times m (sources_all shards) ≤ 1
  all_once a zero m [] z = omega arith
  all_once a zero m (s ∷ shards) z = absurd z
  all_once a (suc k) m [] z = absurd z
  all_once a (suc k) m (s ∷ shards) z =
      let both = count_by-append (λ x. x == m) (sources_in s) (sources_all shards) in
      elim (m % workers == a) as (λ b. m % workers == a ≡ b → times m (sources_in s ++ sources_all shards) ≤ 1) [
        | true ↦ λ t.
            let same : m % workers ≡ a = eqb-true (m % workers) a t in
            let here = apart_times m (sources_in s) z.0.distinct in
            let rest = none_before (a + 1) k m shards z.1 (omega arith) in omega arith
        | false ↦ λ t.
            let here = other_worker a m s z.0 (eqb-false (m % workers) a t) in
            let rest = all_once (a + 1) k m shards z.1 in omega arith
      ] refl

  abbrev n : ℕ
  n = length (after_all ops g).names

  pub all_within : HasEndsWithin g → IsLayoutOf layout g.edges → (a k : ℕ) (shards : List Shard) → Zipped a k shards
      → All (λ s. s < n) (sources_all shards)
  all_within inside shows a zero [] z = All-nil (λ s. s < n)
  all_within inside shows a zero (s ∷ shards) z = absurd z
  all_within inside shows a (suc k) [] z = absurd z
  all_within inside shows a (suc k) (s ∷ shards) z = All-append (λ s. s < n) (sources_in s) (sources_all shards)
      (sources_within workers a ops g layout s inside shows z.0) (all_within inside shows (a + 1) k shards z.1)

  -- the shard of a worker
  pick : (a k w : ℕ) (shards : List Shard) → Zipped a k shards → a ≤ w → w < a + k
      → (shard : Shard) × (IsShardOf workers (resolved ops g) layout w shard
      × ((m : ℕ) → times m (sources_in shard) ≤ times m (sources_all shards)))
  pick a zero w shards z le lt = absurd (omega arith)
  pick a (suc k) w [] z le lt = absurd z
  pick a (suc k) w (s ∷ shards) z le lt =
      elim (a == w) as (λ b. a == w ≡ b → (shard : Shard)
      × (IsShardOf workers (resolved ops g) layout w shard
      × ((m : ℕ) → times m (sources_in shard) ≤ times m (sources_all (s ∷ shards))))) [
        | true ↦ λ t. (
          s,
          (
            subst (λ v. IsShardOf workers (resolved ops g) layout v s) (eqb-true a w t) z.0,
            λ m. let both = count_by-append (λ x. x == m) (sources_in s) (sources_all shards) in omega arith,
          ),
        )
        | false ↦ λ t.
            let ne : a ≡ w → ⊥ = eqb-false a w t in
            let rest = pick (a + 1) k w shards z.1 (omega arith) (omega arith) in (
              rest.0,
              (
                rest.1.0,
                λ m. let r = rest.1.1 m in let both = count_by-append (λ x. x == m) (sources_in s) (sources_all shards) in
                    omega arith,
              ),
            )
      ] refl

  -- a source that a shard doesn't list is named by none of its operations
  unlisted : (w m : ℕ) (shard : Shard) → IsShardOf workers (resolved ops g) layout w shard
      → times m (sources_in shard) ≡ 0 → All (KeepsOff m) (shard_ops workers w (resolved ops g))
  unlisted w m shard is none =
      let steps : All (KeepsOff m) (acts (steps_in shard)) = All-map (KeepsOff m) unsourced (steps_in shard)
      (All-map (λ (r : Resolved). KeepsOff m (unsourced r)) (λ (s : Step). resolved_at (sources_in shard) s.act)
      shard.steps.items
      (λ k d lt. one (get_or shard.steps.items k d).act (is.in_range k d lt))) in
      from_acts (shard_ops workers w (resolved ops g)) (subst (λ as'. All (KeepsOff m) as') is.acts_are steps)
    where
      at : (p : Option Place) → IsPlace (length (sources_in shard)) p → key_is_of m (key_at (sources_in shard) p) ≡ false
      at None h = refl
      at (Some p) h = false_from_ne_true (m == get_or (sources_in shard) p.row 0) (λ e.
          let same : m ≡ get_or (sources_in shard) p.row 0 = eqb-true m (get_or (sources_in shard) p.row 0) e in
          let some = some_times (sources_in shard) p.row 0 h in
          let zero_is : times (get_or (sources_in shard) p.row 0) (sources_in shard) ≡ 0 =
          subst (λ k. times k (sources_in shard) ≡ 0) same none in
          omega arith)

      one : (act : Act) → IsAct (length (sources_in shard)) act → KeepsOff m (unsourced (resolved_at (sources_in shard) act))
      one (Edge place change) is_in = at place is_in.0
      one (Expire time) is_in = tt

      back : (r : Resolved) → KeepsOff m (unsourced r) → KeepsOff m r
      back (AtKey own key change) h = h
      back (InAll time) h = h

      from_acts : (rs : List Resolved) → All (KeepsOff m) (acts rs) → All (KeepsOff m) rs
      from_acts [] all = All-nil (KeepsOff m)
      from_acts (r ∷ rs) all = All-cons (KeepsOff m) r rs
          (back r (All-head (KeepsOff m) (unsourced r) (acts rs) all))
          (from_acts rs (All-tail (KeepsOff m) (unsourced r) (acts rs) all))

  -- nor has its row an edge that one of the expiries takes
  no_old : (w m : ℕ) (shard : Shard) → IsShardOf workers (resolved ops g) layout w shard → m % workers ≡ w
      → times m (sources_in shard) ≡ 0 → has_old_shape (latest_expiry rs) (layout m) ≡ false
  no_old w m shard is own none = grind (arith, common_steps, false_from_ne_true, listed_times)

  module _ (positive : 0 < workers) (shards : List Shard) (planned : ArePlanned workers ops g layout shards) where
    abbrev left : ℕ → List OpenBlock
    left = rows_all (resolved ops g) (opened_rows layout)

    -- a source that no shard lists is spared by the batch
    pub spared : (m : ℕ) → times m (sources_all shards) ≡ 0 → All (Spares m (opened_rows layout m)) rs
    spared m none =
        let lt = mod-lt m positive in
        let s = pick 0 workers (m % workers) shards planned (omega arith) (omega arith) in
        let few = s.1.1 m in
        let nowhere : times m (sources_in s.0) ≡ 0 = omega arith in
        all_spare m rs (layout m) (no_old (m % workers) m s.0 s.1.0 refl nowhere)
        (off_all workers m rs (placed_in g.limits.weight rs ops g.names g.kinds refl)
        (unlisted (m % workers) m s.0 s.1.0 nowhere))

    -- it has the row that it had, with the births that it had
    pub quiet_row : (m : ℕ) → times m (sources_all shards) ≡ 0 → left m ≡ map untouched (layout m)
    quiet_row m none = rows_spared m rs (opened_rows layout) (spared m none)

    pub quiet_layout : (m : ℕ) → times m (sources_all shards) ≡ 0 → layout_after ops g layout m ≡ layout m
    quiet_layout m none = ap row_end (quiet_row m none) ∙ kept_all (layout m)

    module _ (inside : HasEndsWithin g) (shows : IsLayoutOf layout g.edges) where
      pub births_sum : (f : ℕ → List OpenBlock → ℕ) → ((m : ℕ) → f m (map untouched (layout m)) ≡ 0)
          → sum_by (λ m. f m (left m)) (sources_all shards) ≡ sum_below n (λ m. f m (left m))
      births_sum f none = sum_all (λ m. f m (left m)) n (sources_all shards) (λ m. all_once 0 workers m shards planned)
          (all_within inside shows 0 workers shards planned) (λ m lt quiet_m. ap (f m) (quiet_row m quiet_m) ∙ none m)

      pub taken_sum : sum_by (λ m. taken_in (left m)) (sources_all shards) ≡ taken_by ops g layout n
      taken_sum = births_sum (λ m. taken_in) (λ m. none_taken (layout m))

      pub dropped_sum : sum_by (λ m. dropped_in (left m)) (sources_all shards) ≡ dropped_by ops g layout n
      dropped_sum = births_sum (λ m. dropped_in) (λ m. none_dropped (layout m))

      -- outcomes over the sources of all shards are those over all sources
      pub outcomes_over : outcomes_all (sources_all shards) rs (opened_rows layout) ≡ outcomes_all (range_with_len 0 n) rs (opened_rows layout)
      outcomes_over = over_all n (sources_all shards) (λ m. all_once 0 workers m shards planned)
          (all_within inside shows 0 workers shards planned) rs (opened_rows layout) spared

  -- what the shards' results take together
  pub together_at : (before : ℕ → List BlockView) (f : ℕ → List OpenBlock → ℕ) (count : ShardDone → ℕ)
      → ((shard : Shard) (done : ShardDone) → IsShardDone before shard done
      → count done ≡ sum_of (λ m. f m (rows_by before shard m)) (sources_in shard))
      → (a k : ℕ) (shards : List Shard) (dones : List ShardDone) → Zipped a k shards → AllZip (IsShardDone before) shards dones
      → sum_by count dones ≡ sum_by (λ m. f m (rows_all (resolved ops g) (opened_rows (layout_by before)) m))
      (sources_all shards)
  together_at before f count each a zero [] [] z d = refl
  together_at before f count each a zero [] (x ∷ dones) z d = absurd d
  together_at before f count each a zero (s ∷ shards) dones z d = absurd z
  together_at before f count each a (suc k) [] dones z d = absurd z
  together_at before f count each a (suc k) (s ∷ shards) [] z d = absurd d
  together_at before f count each a (suc k) (s ∷ shards) (x ∷ dones) z d =
      let all : ℕ → ℕ = λ m. f m (rows_all (resolved ops g) (opened_rows (layout_by before)) m) in
      sum_by-cons count x dones
      ∙ ap₂ (λ a b. a + b)
      (each s x d.0 ∙ sum_same (λ m. f m (rows_by before s m)) all (sources_in s)
      (λ i e lt. ap (f (get_or (sources_in s) i e)) (worker_rows workers a ops g layout s z.0 (opened_rows (layout_by before))
      (get_or (sources_in s) i e) (ap (λ b. b == a) (z.0.own i e lt) ∙ eq-eqb a a refl))))
      (together_at before f count each (a + 1) k shards dones z.1 d.1)
      ∙ sym (sum_by-append all (sources_in s) (sources_all shards))

-- all workers together take and drop as many blocks as the layout rule says of the batch, for every number of workers
pub batch_totals : (workers : ℕ) (ops : List NamedOp) (g : Graph) (before : ℕ → List BlockView) (shards : List Shard)
    (dones : List ShardDone)
    → 0 < workers → HasEndsWithin g → IsLayoutOf (layout_by before) g.edges → ArePlanned workers ops g (layout_by before) shards
    → AllZip (IsShardDone before) shards dones
    → (sum_by (λ d. length d.left.taken.items) dones ≡ taken_by ops g (layout_by before) (length (after_all ops g).names))
    × (sum_by (λ d. length d.left.dropped.items) dones ≡ dropped_by ops g (layout_by before) (length (after_all ops g).names))
batch_totals workers ops g before shards dones positive inside shows planned done = (
  together_at workers ops g (layout_by before) before (λ _. taken_in) (λ d. length d.left.taken.items) (λ s x is. is.taken_are) 0 workers
      shards dones planned done ∙ taken_sum workers ops g (layout_by before) positive shards planned inside shows,
  together_at workers ops g (layout_by before) before (λ _. dropped_in) (λ d. length d.left.dropped.items) (λ s x is. is.dropped_are) 0
      workers shards dones planned done ∙ dropped_sum workers ops g (layout_by before) positive shards planned inside shows,
)

module _ (workers w : ℕ) (ops : List NamedOp) (g : Graph) (layout : ℕ → List Shape) (before : ℕ → List BlockView)
    (shard : Shard) (done : ShardDone)
    (planned : IsShardOf workers (resolved ops g) layout w shard) (is : IsShardDone before shard done) where
  -- the batch's outcomes over the shard's sources
  abbrev all_outcomes : List Outcome
  all_outcomes = outcomes_all (sources_in shard) (resolved ops g) (opened_rows (layout_by before))

  -- a shard's outcomes are the batch's at the shard's places
  pub shard_outcomes_at : done.outcomes.items
      ≡ results (is_in_shard workers w) (resolved ops g) (map told all_outcomes) 0
  shard_outcomes_at =
      is.outcomes_are
      ∙ ap₂ (λ ps (os : List Outcome). zip ps (map told os)) planned.places
      (same_outcomes (sources_in shard) (steps_in shard) (shard_ops workers w (resolved ops g)) planned.acts_are
      (opened_rows (layout_by before))
      ∙ ap (λ rs. outcomes_all (sources_in shard) rs (opened_rows (layout_by before)))
      (sym (same_ops workers w ops g (layout_by before))))
      ∙ shard_places workers w ops g (layout_by before) (sources_in shard)
      (λ k d lt. ap (λ n. n == w) (planned.own k d lt) ∙ eq-eqb w w refl)

  -- a shard leaves its rows as the batch does
  row_there : (k : ℕ) (d : ℕ × List BlockView) → k < length (row_values done.rows.items)
      → rows_all (steps_in shard) (opened_rows (layout_by before)) (get_or (row_values done.rows.items) k d).0
      ≡ rows_all (resolved ops g) (opened_rows (layout_by before)) (get_or (row_values done.rows.items) k d).0
  row_there k d lt =
      let r : ℕ × List BlockView = get_or (row_values done.rows.items) k d in
      let long : length (map (λ (r : ℕ × List BlockView). r.0) (row_values done.rows.items))
      ≡ length (row_values done.rows.items) = length-map (row_values done.rows.items) (λ (r : ℕ × List BlockView). r.0) in
      let source : get_or (sources_in shard) k 0 ≡ r.0 = ap (λ ss. get_or ss k 0) (sym is.sources_are)
      ∙ get_or-map (λ (r : ℕ × List BlockView). r.0) (row_values done.rows.items) k d 0 lt in
      let within : k < length (sources_in shard) = omega (arith, ap length is.sources_are) in
      let own : r.0 % workers ≡ w = ap (λ s. s % workers) (sym source) ∙ planned.own k 0 within in
      worker_rows workers w ops g layout shard planned (opened_rows (layout_by before)) r.0 (ap (λ b. b == w) own ∙ eq-eqb w w refl)

  -- a shard's rows have the layout that the batch leaves
  pub shard_layout_at : All (λ r. map shape_of r.1 ≡ layout_after ops g (layout_by before) r.0) (row_values done.rows.items)
  shard_layout_at k d lt = is.layout k d lt ∙ ap row_end (row_there k d lt)

  -- a shard's rows have the births that the batch leaves
  pub shard_births_at : (f h : BlockView → ℕ) (n : ℕ) → ((b : BlockView) → is_in b.number done.left.taken.items ≡ true → h b ≡ n)
      → All (λ r. All (λ b. h b ≡ f b) (before r.0) → map h r.1
      ≡ births_end n (rows_all (resolved ops g) (opened_rows (layout_by before)) r.0) (map f (before r.0)))
      (row_values done.rows.items)
  shard_births_at f h n each k d lt = grind (arith, common_steps, row_there)
