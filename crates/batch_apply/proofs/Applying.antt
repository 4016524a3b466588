-- What all shards leave is what the batch leaves of the version.
use Rattle.std.proofs.Common.{◌≡◌, ◌≢◌, ℕ, ◌+◌, ◌<◌, ◌≤◌, ◌==◌, Bool, true, false, List, [], ◌∷◌, ◌++◌, length, length-append}
use Rattle.std.proofs.Common.{map, flat_map, zip, count_by, replicate, sym, ap, ◌∙◌, arith, subst, All, AllPairs}
use Rattle.std.proofs.lemmas.List.{length-map, FromFn.length-range_with_len, Concat.length-flat_map}
use Rattle.std.{proofs.lemmas.{Slice.Zip.AllZip-long, Grind.common_steps}, specs.List.{range_with_len, AllZip}}
use Rattle.graph_types.specs.{Graph.{Graph, HasWeights}, Limits.{AreLimits, most_operations}, Step.after_all}
use Rattle.graph_types.specs.{Step.outcomes, declared.batches.{NamedOp.NamedOp, Outcome.TheVariants.Absent}}
use Rattle.graph_types.proofs.More.{left_more}
use Rattle.graph_types.proofs.{LimitsKept.limits_after_all, WeightsKept.HasWeights-after_all}
use Rattle.edge_block.specs.{Slots.BlockView, Rows.{OpenBlock, shape_of, row_at, IsRow}, Batches.{Resolved, resolved}}
use Rattle.edge_block.{specs.Batches.{outcomes_all, opened_rows, layout_after, HasEndsWithin, IsLayoutOf}, proofs.GraphLaws.batch_layout}
use Rattle.graph_version.specs.Rows as rows
use Rattle.graph_version.specs.{Rows.row_of, Versions.{VersionView, IsVersion, IsBlockOf, AreRowsOf, content, layout_of, is_in}}
use Rattle.graph_version.proofs.Few.{few_total}
use Rattle.batch_shards.specs.{RowBlocks.{block_of, shared_blocks, shared_numbers}, Done.IsShardDone}
use Rattle.graph_types.specs.Outcomes.{told}
use Rattle.batch_shards.specs.{Done.Exchanges, Done.sources_in, Done.rows_by, Births.births_end, Births.births_dropped}
use Rattle.batch_shards.specs.{Births.open_row, Births.births_after, Births.dropped_births, declared.shard.Shard.Shard}
use Rattle.batch_shards.specs.declared.shard.ShardDone.{ShardDone}
use Rattle.graph_types.specs.Refusals.{MeetsNeitherLimit}
use Rattle.graph_types.proofs.{Numbers.no_more, Sums.{count_lists, count_by-append, sum_each}, Times.{times, pairs}}
use Rattle.graph_types.proofs.Times.{apart_times}
use Rattle.edge_block.proofs.{BlockCounts.{map_same, count_pieces}, ShardResults.as_many_resolved}
use Rattle.graph_version.proofs.RowsAmong.{among_is}
use Rattle.batch_shards.proofs.{Exchanged.numbers_once, Untouched.{untouched_births, untouched_dropped, count_births}}
use Rattle.batch_shards.proofs.Exchanged.{exchanged_all}
use Rattle.batch_shards.proofs.Left.{rows_left, sources_left, taken_left, dropped_left, blocks_left, exchanged_left, handed_left}
use Rattle.batch_shards.proofs.{Left.{fresh_all, all_shards, unused_left}, ShardSizes.needs_of}
use Rattle.batch_apply.specs.Shards.{IsShardOf}
use Rattle.batch_apply.specs.{Plans.written_all, Shards.ArePlanned, declared.{applied.Applied.Applied, workers.Job.Job}}
use Rattle.batch_apply.specs.{Applied.{IsApplied, row_among, written_from}, Gathered.{IsDealt, AreShardsDone}}
use Rattle.batch_apply.proofs.{Told.told_exact, Written.all_written}
use Rattle.batch_apply.proofs.Together.{all_once, all_within, quiet_layout, batch_totals, outcomes_over, quiet_row}
use Rattle.batch_apply.proofs.Together.{births_sum, together_at}
use Rattle.batch_apply.proofs.Left.{outcomes_left}
use Rattle.batch_apply.proofs.Left.{layouts_left, births_left}
use Rattle.batch_apply.proofs.Dealt.{shards_in, dealt_planned, done_in, fresh_in}

-- The next version

module _ (v : VersionView) (ops : List NamedOp) (workers : ℕ) (positive : 0 < workers) (is : IsVersion v)
    (shards : List Shard) (planned : ArePlanned workers ops (content v) (layout_of v.rows) shards)
    (dones : List ShardDone) (done : AllZip (IsShardDone (row_of v.rows)) shards dones) where
  abbrev g : Graph
  g = content v

  abbrev xs : List ℕ
  xs = flat_map sources_in shards

  abbrev pub next : List (List BlockView) → VersionView
  next after = record { opening = v.opening; batches = v.batches ++ ops ∷ []; rows = after }

  content_next : (after : List (List BlockView)) → content (next after) ≡ after_all ops g
  content_next after = left_more v.batches ops v.opening

  module _ (after : List (List BlockView)) (among : (s : ℕ)
      → row_of after s ≡ row_among (rows_left dones) s (row_of v.rows s)) where
    pub layout_next : (s : ℕ) → layout_of after s ≡ layout_after ops g (layout_of v.rows) s
    layout_next s =
        ap (map shape_of) (among s)
        ∙ among_is (λ s row. map shape_of row ≡ layout_after ops g (layout_of v.rows) s) s (rows_left dones) (row_of v.rows s)
        (layouts_left (row_of v.rows) workers ops g (layout_of v.rows) 0 workers shards dones planned done)
        (λ none. sym (quiet_layout workers ops g (layout_of v.rows) positive shards planned s
        (ap (times s) (sym (sources_left (row_of v.rows) shards dones done)) ∙ none)))

    pub births_next : (f h : BlockView → ℕ) (n s : ℕ)
        → ((b : BlockView) → is_in b.number (taken_left dones) ≡ true → h b ≡ n) → All (λ b. h b ≡ f b) (row_of v.rows s)
        → map h (row_of after s) ≡ births_after n ops g (layout_of v.rows) (λ s. map f (row_of v.rows s)) s
    births_next f h n s each old =
        ap (map h) (among s)
        ∙ among_is (λ s row. All (λ b. h b ≡ f b) (row_of v.rows s)
        → map h row ≡ births_end n (open_row ops g (layout_of v.rows) s) (map f (row_of v.rows s))) s (rows_left dones) (row_of v.rows s)
        (births_left (row_of v.rows) workers ops g (layout_of v.rows) f h n 0 workers shards dones each planned done)
        (λ none same. map_same h f (row_of v.rows s) same
        ∙ sym (ap (λ row. births_end n row (map f (row_of v.rows s)))
        (quiet_row workers ops g (layout_of v.rows) positive shards planned s
        (ap (times s) (sym (sources_left (row_of v.rows) shards dones done)) ∙ none))
        ∙ untouched_births f n (row_of v.rows s))) old

    pub dropped_next : (f : BlockView → ℕ) (q : ℕ → Bool) → count_by q (map f (dropped_left dones))
        ≡ count_by q (dropped_births ops g (layout_of v.rows) (λ s. map f (row_of v.rows s)) (length (after_all ops g).names))
    dropped_next f q =
        count_pieces q f (λ (d : ShardDone). shared_blocks d.left.dropped.items) dones
        ∙ together_at workers ops g (layout_of v.rows) (row_of v.rows) (λ s row. count_by q (births_dropped row (map f (row_of v.rows s))))
        (λ d. count_by q (map f (shared_blocks d.left.dropped.items)))
        (λ s x is. ap (count_by q) (is.dropped_births f)
        ∙ count_lists q (λ source. births_dropped (rows_by (row_of v.rows) s source) (map f (row_of v.rows source)))
        (sources_in s)) 0 workers shards dones planned done
        ∙ births_sum workers ops g (layout_of v.rows) positive shards planned is.within is.rows.layout
        (λ s row. count_by q (births_dropped row (map f (row_of v.rows s))))
        (λ m. ap (count_by q) (untouched_dropped (layout_of v.rows m) (map f (row_of v.rows m))))
        ∙ sym (count_births q ops g (layout_of v.rows) (λ s. map f (row_of v.rows s)) (length (after_all ops g).names))

    blocks_next : (s : ℕ) → All (IsBlockOf s) (row_of after s)
    blocks_next s =
        subst (λ row. All (IsBlockOf s) row) (sym (among s))
        (among_is (λ s row. All (IsBlockOf s) row) s (rows_left dones) (row_of v.rows s)
        (blocks_left (row_of v.rows) shards dones done) (λ none. is.rows.blocks s))

    pub exchanged_next : Exchanges (rows.blocks_of v.rows) (rows.blocks_of after) (taken_left dones) (dropped_left dones)
    exchanged_next =
        exchanged_all xs (rows_left dones) v.rows after (length (after_all ops g).names)
        (λ m. all_once workers ops g (layout_of v.rows) 0 workers m shards planned)
        (all_within workers ops g (layout_of v.rows) is.within is.rows.layout 0 workers shards planned)
        (sources_left (row_of v.rows) shards dones done) among (taken_left dones) (dropped_left dones)
        (exchanged_left (row_of v.rows) shards dones done)

    module _ (numbers rest : List ℕ) (handed : (q : ℕ → Bool)
        → count_by q (fresh_all shards) + count_by q rest ≡ count_by q numbers)
        (distinct : AllPairs (λ a b. a ≢ b) numbers)
        (unlisted : All (λ n. is_in n (rows.numbers_of (rows.blocks_of v.rows)) ≡ false) numbers)
        (limits : MeetsNeitherLimit ops g) (few : length v.batches < g.limits.batches) (short : length ops ≤ most_operations) where
      few_taken : (m : ℕ) → times m (taken_left dones) ≤ times m numbers
      few_taken m = omega (arith, handed (λ x. x == m), handed_left (row_of v.rows) shards dones done (λ x. x == m))

      abbrev over : List ℕ
      over = range_with_len 0 (length (after_all ops g).names)

      laid : IsLayoutOf (layout_after ops g (layout_of v.rows)) (after_all ops g).edges
          × (outcomes_all over (resolved ops g) (opened_rows (layout_of v.rows)) ≡ outcomes ops g)
          × HasEndsWithin (after_all ops g)
      laid = batch_layout ops g (layout_of v.rows) (length (after_all ops g).names) is.within is.rows.layout (omega arith)

      numbers_next : AllPairs (λ a b. a ≢ b) (rows.numbers_of (rows.blocks_of after))
      numbers_next =
          pairs (rows.numbers_of (rows.blocks_of after))
          (numbers_once (rows.blocks_of v.rows) (rows.blocks_of after) (taken_left dones) (dropped_left dones) numbers
          exchanged_next
          (λ m. apart_times m (rows.numbers_of (rows.blocks_of v.rows)) is.rows.numbers) few_taken
          (λ m. apart_times m numbers distinct)
          unlisted)

      pub version_next : IsVersion (next after)
      version_next =
          record {
            rows = subst (λ h. AreRowsOf h after) (sym (content_next after)) (record {
              layout = record {
                distinct = λ s. subst IsRow (sym (layout_next s)) (laid.0.distinct s);
                shows = λ k. ap (λ row. row_at row (k.kind, k.target)) (layout_next k.source) ∙ laid.0.shows k;
              };
              blocks = blocks_next;
              numbers = numbers_next;
            });
            within = subst HasEndsWithin (sym (content_next after)) laid.2;
            small = record {
              names = subst (λ h. length h.names ≤ h.limits.names) (sym (content_next after))
                  (rw (limits_after_all ops g) (no_more g.limits.names (length (after_all ops g).names) limits.0));
              kinds = subst (λ h. length h.kinds ≤ h.limits.kinds) (sym (content_next after))
                  (rw (limits_after_all ops g) (no_more g.limits.kinds (length (after_all ops g).kinds) limits.1));
              count = (
                  let long = length-append v.batches (ops ∷ []) in
                  let same = ap (λ h. h.limits.batches) (content_next after) ∙ ap (λ l. l.batches) (limits_after_all ops g) in
                  omega (arith, long, few, same)
                  );
              limits = subst (λ h. AreLimits h.limits) (sym (content_next after))
                  (rw (limits_after_all ops g) is.small.limits);
              weights = subst HasWeights (sym (content_next after)) (HasWeights-after_all ops g is.small.weights);
            };
          }

      outcomes_next : written_from dones (replicate (length ops) Absent) ≡ outcomes ops g
      outcomes_next =
          let rs : List Resolved = resolved ops g in
          let rows : ℕ → List OpenBlock = opened_rows (layout_of v.rows) in
          let lists : List (List ℕ) = map sources_in shards in
          let many : length lists ≡ workers = length-map shards sources_in ∙ AllZip-long (IsShardOf workers rs (layout_of v.rows))
          (range_with_len 0 workers) shards planned ∙ length-range_with_len 0 workers in
          outcomes_left (row_of v.rows) workers ops g (layout_of v.rows) 0 workers shards dones planned done
          (replicate (length ops) Absent)
          ∙ ap (λ (n : ℕ). written_all workers 0 lists rs rows (replicate n Absent)) (sym (as_many_resolved g.limits.weight ops g.names g.kinds))
          ∙ all_written workers positive lists many rs rows
          ∙ ap (λ (xs : List ℕ). map told (outcomes_all xs rs rows)) (all_shards shards)
          ∙ ap (map told) (outcomes_over workers ops g (layout_of v.rows) positive shards planned is.within is.rows.layout
          ∙ laid.1)
          ∙ told_exact ops g (omega (arith, few_total v is, short))

      -- what apply answers
      pub applied : (a : Applied) → a.version ≡ next after → a.outcomes.items ≡ written_from dones (replicate (length ops) Absent)
          → a.taken.items ≡ taken_left dones → shared_blocks a.dropped.items ≡ dropped_left dones → shared_numbers a.unused.items ≡ rest
          ++ unused_left dones
          → IsApplied v ops numbers a
      applied a ver out taken dropped unused =
          let totals = batch_totals workers ops g (row_of v.rows) shards dones positive is.within is.rows.layout planned
          done in
          record {
            version = subst IsVersion (sym ver) version_next;
            opening = ap (λ (w : VersionView). w.opening) ver;
            batches = ap (λ (w : VersionView). w.batches) ver;
            outcomes_are = out ∙ outcomes_next;
            exchanged =
                subst (λ (w : VersionView). Exchanges (rows.blocks_of v.rows) (rows.blocks_of w.rows) a.taken.items
                (shared_blocks a.dropped.items)) (sym ver)
                (subst (λ ts. Exchanges (rows.blocks_of v.rows) (rows.blocks_of after) ts (shared_blocks a.dropped.items)) (sym taken)
                (subst (λ ds. Exchanges (rows.blocks_of v.rows) (rows.blocks_of after) (taken_left dones) ds) (sym dropped)
                exchanged_next));
            handed = λ q.
                (let one = handed q in
                let two = handed_left (row_of v.rows) shards dones done q in
                let t = ap (count_by q) taken in
                let u = ap (count_by q) unused ∙ count_by-append q rest (unused_left dones) in
                omega (arith, one, two, t, u));
            layout = λ s. ap (λ (w : VersionView). layout_of w.rows s) ver ∙ layout_next s;
            births = record {
              rows = λ f h n s each old. ap (λ (w : VersionView). map h (row_of w.rows s)) ver
                  ∙ births_next f h n s (λ b is. each b (ap (is_in b.number) taken ∙ is)) old;
              dropped_are = λ f q. ap (λ bs. count_by q (map f bs)) dropped ∙ dropped_next f q;
            };
            taken_are = ap length taken ∙ length-flat_map (λ (d : ShardDone). d.left.taken.items) dones ∙ totals.0;
            dropped_are =
                sym (length-map a.dropped.items block_of) ∙ ap length dropped
                ∙ length-flat_map (λ (d : ShardDone). shared_blocks d.left.dropped.items) dones
                ∙ sum_each (λ (d : ShardDone). length (shared_blocks d.left.dropped.items))
                (λ (d : ShardDone). length d.left.dropped.items) (λ d. length-map d.left.dropped.items block_of) dones
                ∙ totals.1;
          }

-- The next version by the jobs of a plan's shards
module _ (v : VersionView) (ops : List NamedOp) (workers : ℕ) (shards : List Shard) (needs : List ℕ) (jobs : List Job)
    (dones : List ShardDone) (numbers rest : List ℕ)
    (positive : 0 < workers) (is : IsVersion v) (planned : ArePlanned workers ops (content v) (layout_of v.rows) shards)
    (needs_are : needs ≡ map (needs_of (row_of v.rows)) shards) (dealt : AllZip IsDealt (zip shards needs) jobs)
    (done : AreShardsDone (row_of v.rows) jobs dones)
    (handed : (q : ℕ → Bool) → count_by q (flat_map (λ j. shared_numbers j.shard.fresh.items) jobs) + count_by q rest
    ≡ count_by q numbers)
    (distinct : AllPairs (λ a b. a ≢ b) numbers)
    (unlisted : All (λ n. is_in n (rows.numbers_of (rows.blocks_of v.rows)) ≡ false) numbers)
    (limits : MeetsNeitherLimit ops (content v)) (few : length v.batches < (content v).limits.batches) (short : length ops ≤ most_operations)
    (after : List (List BlockView)) (among : (s : ℕ) → row_of after s ≡ row_among (rows_left dones) s (row_of v.rows s)) where
  abbrev with_fresh : List Shard
  with_fresh = shards_in jobs

  planned_jobs : ArePlanned workers ops (content v) (layout_of v.rows) with_fresh
  planned_jobs = grind (arith, common_steps, dealt_planned)

  handed_jobs : (q : ℕ → Bool) → count_by q (fresh_all with_fresh) + count_by q rest ≡ count_by q numbers
  handed_jobs q = ap (λ ns. count_by q ns + count_by q rest) (sym (fresh_in jobs)) ∙ handed q

  -- the next version is one, the outcomes are the operation rule's, and so is all that is left
  pub next_made : IsVersion (record { opening = v.opening; batches = v.batches ++ ops ∷ []; rows = after })
      × (written_from dones (replicate (length ops) Absent) ≡ outcomes ops (content v))
      × ((a : Applied) → a.version ≡ record { opening = v.opening; batches = v.batches ++ ops ∷ []; rows = after }
      → a.outcomes.items ≡ written_from dones (replicate (length ops) Absent) → a.taken.items ≡ taken_left dones
      → shared_blocks a.dropped.items ≡ dropped_left dones → shared_numbers a.unused.items ≡ rest ++ unused_left dones
      → IsApplied v ops numbers a)
  next_made =
      let each = done_in (row_of v.rows) jobs dones done in (
        version_next v ops workers positive is with_fresh planned_jobs dones each after among numbers rest handed_jobs distinct
            unlisted limits few short,
        outcomes_next v ops workers positive is with_fresh planned_jobs dones each after among numbers rest handed_jobs distinct
            unlisted limits few short,
        applied v ops workers positive is with_fresh planned_jobs dones each after among numbers rest handed_jobs distinct
            unlisted limits few short,
      )
