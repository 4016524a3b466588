-- One more source's row is done.
use Rattle.std.proofs.Common.{◌≡◌, ℕ, ◌+◌, ◌<◌, true, false, List, [], ◌∷◌, ◌++◌, length, get_or, map, flat_map, count_by, take}
use Rattle.std.proofs.{Common.{refl, sym, subst, ap, ap₂, ◌∙◌, arith, All}, lemmas.List.{map-append, take_more, get_or_default}}
use Rattle.std.{proofs.lemmas.List.{Sums.sum_by-append, Elements.All-push}, specs.declared.{sync.Arc.Arc, alloc.Global.Global}}
use Rattle.std.{specs.List.sum_by, proofs.lemmas.{Bool.false≢true, Grind.common_steps}}
use Rattle.graph_types.specs.declared.{batches.Outcome.{Outcome, TheVariants.Expired}, ids.VertexId.VertexId}
use Rattle.edge_block.specs.{declared.blocks.Block.Block, Slots.BlockView, Batches.{outcome_in, rows_all, opened_rows}}
use Rattle.graph_types.specs.Outcomes.{together}
use Rattle.edge_block.specs.Rows.{OpenBlock, old_in_row}
use Rattle.batch_shards.specs.{RowBlocks.{shared_blocks, shared_numbers, opens, had_in, own_in, HaveSame, IsOf}, Closing.row_values}
use Rattle.batch_shards.specs.{Closing.{after_of, written_of, dropped_of, unused_of, written_blocks}, Shards.{key_at, resolved_at}}
use Rattle.batch_shards.specs.{Shards.{resolved_in, own_all}, Done.layout_by, Groups.{is_past, does_act, outcome_over}}
use Rattle.graph_types.specs.Outcomes.{told}
use Rattle.graph_types.proofs.{Joined.one_piece, OutcomeSteps.told_more, Sums.count_by-append}
use Rattle.edge_block.proofs.ShardResults.{edge_stands}
use Rattle.batch_shards.specs.{Groups.{IsTold, IsSourceRow, IsOneMore}, OpenRows.{IsRowOf, KeepsOthers}, Progress.AreOutcomes}
use Rattle.batch_shards.specs.{Progress.AreRowsDone, declared.shard.{OpenRow.OpenRow, ShardDone.ShardDone, Step.Step, Act.Act}}
use Rattle.batch_shards.specs.declared.shard.Act.TheVariants.{Edge, Expire}
use Rattle.batch_shards.proofs.{ShardSteps.first_step, SourceSteps.{outcome_of, past_here}}

module _ (rows : ℕ → List BlockView) (sources : List ℕ) (steps : List Step) where
  -- the outcome of an operation with one more row
  module _ (row source : ℕ) (is : IsSourceRow sources steps row source) (k : ℕ) (lt : k < length steps) where
    abbrev over : List ℕ → Outcome
    over counted = outcome_over counted sources steps (opened_rows (layout_by rows)) k

    abbrev now : ℕ → List OpenBlock
    now = rows_all (resolved_in sources (take k steps)) (opened_rows (layout_by rows))

    abbrev acts : Act → Type 0
    acts act = (get_or steps k first_step).act ≡ act

    over_is : (counted : List ℕ) (act : Act) → acts act → over counted ≡ outcome_in counted (resolved_at sources act) now
    over_is counted act e = grind (arith, common_steps, outcome_of)

    -- over which sources it is counted matters for an expiry alone
    one_edge : (act : Act) → acts act → does_act row act ≡ false → over (take row sources) ≡ over (take (row + 1) sources)
    one_edge (Edge place change) e out =
        over_is (take row sources) (Edge place change) e ∙ sym (over_is (take (row + 1) sources) (Edge place change) e)
    one_edge (Expire time) e out = absurd (false≢true (sym out))

    one_told : (act : Act) → acts act → (before : Outcome)
        → (is_past row act ≡ false → before ≡ told (over (take row sources)))
        → told (together before (over (source ∷ []))) ≡ told (over (take (row + 1) sources))
    one_told (Edge place change) e before was =
        ap told (ap (together before) (over_is (source ∷ []) (Edge place change) e)
        ∙ edge_stands before change (key_at sources place) now ∙ sym (over_is (take (row + 1) sources) (Edge place change) e))
    one_told (Expire time) e before was =
        let f : ℕ → ℕ = λ s. old_in_row time (now s) in
        let taken : take (row + 1) sources ≡ take row sources ++ source ∷ [] =
        take_more sources row 0 is.within ∙ ap (λ s. take row sources ++ s ∷ []) is.source_is in
        ap₂ (λ a b. told (together a b)) (was refl ∙ ap told (over_is (take row sources) (Expire time) e))
        (over_is (source ∷ []) (Expire time) e)
        ∙ told_more (sum_by f (take row sources)) (sum_by f (source ∷ []))
        ∙ ap (λ n. told (Expired n)) (sym (sum_by-append f (take row sources) (source ∷ [])))
        ∙ ap told (sym (over_is (take row sources ++ source ∷ []) (Expire time) e))
        ∙ ap (λ ss. told (over ss)) (sym taken)

    -- what an expiry was told before the row counts edges
    was_told : (act : Act) → acts act → (before : Outcome)
        → (is_past row act ≡ false → before ≡ told (over (take row sources))) → IsTold act before
    was_told (Edge place change) e before was = tt
    was_told (Expire time) e before was =
        (sum_by (λ s. old_in_row time (now s)) (take row sources), was refl ∙ ap told (over_is (take row sources) (Expire time) e))

  -- the outcomes of operations on one more row
  pub outcomes_more : (row source : ℕ) → IsSourceRow sources steps row source → (old new : List (ℕ × Outcome))
      → ((k : ℕ) (s : Step) (o : ℕ × Outcome) → k < length steps → does_act row (get_or steps k s).act ≡ true
      → IsTold (get_or steps k s).act (get_or old k o).1
      → IsOneMore sources steps (opened_rows (layout_by rows)) source k (get_or old k o).1 (get_or new k o).1)
      → KeepsOthers steps row old new
      → AreOutcomes sources steps rows row old → AreOutcomes sources steps rows (row + 1) new
  outcomes_more row source is old new written kept d = record {
    places = kept.places ∙ d.places;
    are = λ k s o lt past.
        let act : Act = (get_or steps k s).act in
        let same : (get_or steps k first_step).act ≡ act = ap (λ (x : Step). x.act) (get_or_default steps k first_step s lt) in
        elim (does_act row act) as (λ t. does_act row act ≡ t
        → (get_or new k o).1 ≡ told (outcome_over (take (row + 1) sources) sources steps (opened_rows (layout_by rows)) k)) [
          | true ↦ λ t. written k s o lt t
              (was_told row source is k lt act same (get_or old k o).1 (λ before. d.are k s o lt before))
              ∙ one_told row source is k lt act same (get_or old k o).1 (λ before. d.are k s o lt before)
          | false ↦ λ t. ap (λ (p : ℕ × Outcome). p.1) (kept.others k s o lt t)
              ∙ d.are k s o lt (past_here row act past t) ∙ ap told (one_edge row source is k lt act same t)
        ] refl;
  }

  -- the row as it was opened, and as it was closed
  module _ (row : ℕ) (start r : OpenRow) (is : IsSourceRow sources steps row start.source.0)
      (of_source : IsRowOf start.source r) where
    taken : take (row + 1) sources ≡ take row sources ++ start.source.0 ∷ []
    taken = take_more sources row 0 is.within ∙ ap (λ s. take row sources ++ s ∷ []) is.source_is

    pub row_done : (handed : List ℕ) (fresh next : List (Arc Block Global)) (before after : ShardDone)
        → opens r.blocks.items ≡ rows_all (resolved_in sources steps) (opened_rows (layout_by rows)) start.source.0
        → had_in r.blocks.items ≡ rows start.source.0
        → HaveSame (own_in r.blocks.items) (shared_numbers next) [] (shared_numbers fresh)
        → (AreOutcomes sources steps rows row before.outcomes.items
        → AreOutcomes sources steps rows (row + 1) after.outcomes.items)
        → row_values after.rows.items ≡ row_values before.rows.items ++ (r.source.0, after_of r.blocks.items) ∷ []
        → after.left.taken.items ≡ before.left.taken.items ++ map (λ b. b.number) (written_of r.blocks.items)
        → shared_blocks after.left.dropped.items ≡ shared_blocks before.left.dropped.items ++ dropped_of r.blocks.items
        → shared_numbers after.left.unused.items ≡ shared_numbers before.left.unused.items ++ unused_of r.blocks.items
        → AreRowsDone rows sources steps handed row fresh before → AreRowsDone rows sources steps handed (row + 1) next after
    row_done handed fresh next before after shown had same outcomes closed took dropped unused d = record {
      work = d.work ++ r ∷ [];
      sources_are = map-append (λ (r : OpenRow). r.source.0) d.work (r ∷ [])
          ∙ ap₂ (λ a b. a ++ b ∷ []) d.sources_are (ap (λ s. s.0) of_source.source_is) ∙ sym taken;
      layout = All-push (λ (r : OpenRow). opens r.blocks.items
          ≡ rows_all (resolved_in sources steps) (opened_rows (layout_by rows)) r.source.0) d.work r d.layout
          (shown ∙ ap (λ s. rows_all (resolved_in sources steps) (opened_rows (layout_by rows)) s.0) (sym of_source.source_is));
      own = All-push (λ (r : OpenRow). All (IsOf r.source.0) r.blocks.items) d.work r d.own
          (subst (λ (s : VertexId). All (IsOf s.0) r.blocks.items) (sym of_source.source_is) of_source.own);
      had = one_piece (λ (r : OpenRow). had_in r.blocks.items) d.work r ∙ ap₂ (λ a b. a ++ b) d.had had
          ∙ sym (ap (flat_map rows) taken ∙ one_piece rows (take row sources) start.source.0);
      had_each = All-push (λ (r : OpenRow). had_in r.blocks.items ≡ rows r.source.0) d.work r d.had_each
          (had ∙ ap (λ s. rows s.0) (sym of_source.source_is));
      numbers = λ q.
          let all = ap (count_by q) (one_piece (λ (r : OpenRow). own_in r.blocks.items) d.work r)
          ∙ count_by-append q (own_all d.work) (own_in r.blocks.items) in
          let here = same q in
          let those = d.numbers q in
          omega arith;
      outcomes = outcomes d.outcomes;
      closed = closed ∙ ap (λ rs. rs ++ (r.source.0, after_of r.blocks.items) ∷ []) d.closed
          ∙ sym (map-append (λ (r : OpenRow). (r.source.0, after_of r.blocks.items)) d.work (r ∷ []));
      taken = took ∙ ap (λ ns. ns ++ map (λ (b : BlockView). b.number) (written_of r.blocks.items)) d.taken
          ∙ sym (ap (map (λ (b : BlockView). b.number)) (one_piece (λ (r : OpenRow). written_of r.blocks.items) d.work r)
          ∙ map-append (λ (b : BlockView). b.number) (written_blocks d.work) (written_of r.blocks.items));
      dropped = dropped ∙ ap (λ bs. bs ++ dropped_of r.blocks.items) d.dropped
          ∙ sym (one_piece (λ (r : OpenRow). dropped_of r.blocks.items) d.work r);
      unused = unused ∙ ap (λ ns. ns ++ unused_of r.blocks.items) d.unused
          ∙ sym (one_piece (λ (r : OpenRow). unused_of r.blocks.items) d.work r);
    }
