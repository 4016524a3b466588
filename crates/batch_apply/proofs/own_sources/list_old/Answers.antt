use Rattle.std.proofs.Common.{◌≡◌, ◌+◌, ◌-◌, ◌^◌, ◌<◌, ◌%◌, ◌==◌, ◌++◌, true, ℕ, List, [], ◌∷◌, length, get_or, take}
use Rattle.std.proofs.{Common.{min, ap, refl, sym, ◌∙◌, arith}, lemmas.{Bool.{eq-eqb, ne_eqb}, List.{take_all, map-append}}}
use Rattle.graph_types.specs.declared.ids.VertexId.{VertexId}
use Rattle.batch_apply.specs.{OldRows.{old_sources, own_rows, blocks_in}, declared.old.OldRow.OldRow, Shards.source_numbers}
use Rattle.batch_apply.proofs.Listing.{one_other, one_source, one_row}
use Rattle.batch_apply.proofs.own_sources.list_old.Goals.{then-row-workers+in_ok-push, else-row-workers}
use Rattle.batch_apply.proofs.own_sources.list_old.Goals as goal

-- one more summand of a sum that stops at a bound
capped : (so_far sum more next all most : ℕ) → so_far ≡ min sum most → next ≡ min (so_far + more) most → all ≡ sum + more
    → next ≡ min all most
capped so_far sum more next all most counted added whole = omega arith

pub loop-row-preserved : goal.loop-row-preserved
loop-row-preserved c =
    let workers : ℕ = c.args.workers in
    let worker : ℕ = c.args.worker in
    let old : List OldRow = c.args.old.now in
    let i : ℕ = c.loop-row.row-index in
    let d : OldRow = record { source = record { 0 = 0 }; blocks = 0 } in
    let row : OldRow = get_or old i d in
    let s : ℕ = row.source.0 in
    let lt : i < length old = omega arith in
    let items : List VertexId = c.loop-row.sources.items in
    elim c.if-row-workers.branch [
      | then-row-workers+in_ok-push w ↦
          let mine : s % workers == worker ≡ true = ap (λ q. q == worker) w.if-row-workers.true ∙ eq-eqb worker worker refl in
          record {
            own = rw (w.sources-is, w.in_ok-push.ensures.items) (map-append (λ (v : VertexId). v.0) items (row.source ∷ [])
                ∙ ap (λ (l : List ℕ). l ++ s ∷ []) c.loop-row.invariant.own ∙ sym (one_source workers worker old i d lt mine));
            blocks = rw w.blocks-is (capped _ _ _ _ _ _ c.loop-row.invariant.blocks w.saturating_add-blocks.ensures
                (one_row workers worker old i d lt mine));
          }
      | else-row-workers w ↦
          let same_own = one_other workers worker old i d lt (ne_eqb (s % workers) worker w.if-row-workers.false) in
          record {
            own = rw w.sources-is (c.loop-row.invariant.own ∙ ap old_sources (sym same_own));
            blocks = rw w.blocks-is (c.loop-row.invariant.blocks
                ∙ ap (λ (l : List OldRow). min (blocks_in l) (2 ^ 64 - 1)) (sym same_own));
          }
    ]

pub loop-row-init : goal.loop-row-init
loop-row-init c = record { own = ap source_numbers c.requires.none; blocks = refl }

pub returns : goal.returns
returns c =
    let old : List OldRow = c.args.old.now in
    let whole : take c.loop-row.row-index old ≡ old = take_all c.loop-row.row-index old (omega arith) in
    record {
      own = c.loop-row.invariant.own
          ∙ ap (λ (rows : List OldRow). old_sources (own_rows c.args.workers c.args.worker rows)) whole;
      blocks = c.loop-row.invariant.blocks
          ∙ ap (λ (rows : List OldRow). min (blocks_in (own_rows c.args.workers c.args.worker rows)) (2 ^ 64 - 1)) whole;
    }
