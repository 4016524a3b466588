-- Before a shard's first row is done: the rows as they are opened, no outcome yet, and the blocks that are needed.
use Rattle.std.proofs.Common.{◌≡◌, ℕ, ◌≤◌, false, not, List, [], ◌∷◌, length, get_or, take, map, refl, sym, ap, ◌∙◌, arith, subst}
use Rattle.std.proofs.{Common.All, lemmas.{Bool.{false≢true, le-ltb}, List.{get_or-map, get_or_default, length-map}}}
use Rattle.std.{proofs.lemmas.List.Elements.All-nil, specs.declared.{alloc.Global.Global, option.Option.TheVariants.{None, Some}}}
use Rattle.std.{specs.declared.sync.Arc.Arc, proofs.lemmas.Grind.common_steps}
use Rattle.graph_types.specs.declared.batches.Outcome.{Outcome}
use Rattle.edge_block.specs.{Batches.{opened_rows, rows_all, outcome_in}, declared.blocks.Block.Block, Slots.BlockView, Rows.OpenBlock}
use Rattle.edge_block.specs.Rows.{shape_of, untouched}
use Rattle.batch_shards.specs.{RowBlocks.{block_of, shared_blocks, kept_of, opens, had_in, shared_numbers, IsOf}, Closing.row_values}
use Rattle.batch_shards.specs.{Shards.{resolved_at, resolved_in}, Spending.{needed, needed_past}, Groups.is_past}
use Rattle.graph_types.specs.Outcomes.{told}
use Rattle.graph_types.proofs.Sums.{count_wider}
use Rattle.batch_shards.specs.{Groups.none_told, Done.layout_by, declared.shard.Act.{Act, TheVariants.{Edge, Expire}}}
use Rattle.batch_shards.specs.{declared.shard.{Step.Step, OpenRow.OpenRow, ShardDone.ShardDone}, Progress.AreOutcomes}
use Rattle.batch_shards.{specs.Progress.AreRowsDone, proofs.{ShardSteps.first_step, SourceSteps.outcome_of}}
use Rattle.graph_version.specs.Versions.{IsBlockOf}

-- the row that is opened
pub kept_all : (bs : List (Arc Block Global)) → map kept_of bs ≡ map untouched (map shape_of (shared_blocks bs))
kept_all [] = refl
kept_all (b ∷ bs) = ap (λ hs. kept_of b ∷ hs) (kept_all bs)

pub own_blocks : (bs : List (Arc Block Global)) (row : List BlockView) (source : ℕ) → shared_blocks bs ≡ row
    → All (IsBlockOf source) row → All (λ b. (block_of b).source ≡ source) bs
own_blocks bs row source e all k d lt =
    let long : length (shared_blocks bs) ≡ length bs = length-map bs block_of in
    ap (λ (b : BlockView). b.source) (sym (get_or-map block_of bs k d (block_of d) lt))
    ∙ (subst (λ r. All (IsBlockOf source) r) (sym e) all k (block_of d) (omega arith)).source_is

-- before the first row is opened no operation in a row has an outcome, each other one is absent, and an expiry has counted none
pub none_written : (rows : ℕ → List BlockView) (sources : List ℕ) (steps : List Step)
    → AreOutcomes sources steps rows 0 (map (λ s. (s.op, none_told s.act)) steps)
none_written rows sources steps = record {
  places = places steps;
  are = λ k s o lt past.
      ap (λ (p : ℕ × Outcome). p.1) (get_or-map (λ (s : Step). (s.op, none_told s.act)) steps k first_step o lt)
      ∙ none (get_or steps k first_step).act
      (ap (λ (s : Step). is_past 0 s.act) (get_or_default steps k first_step s lt) ∙ past) (rows_all (resolved_in sources
      (take k steps)) (opened_rows (layout_by rows)))
      ∙ sym (ap told (outcome_of [] sources steps k (opened_rows (layout_by rows)) lt));
} where
  places : (steps : List Step) → map (λ (o : ℕ × Outcome). o.0) (map (λ (s : Step). (s.op, none_told s.act)) steps)
      ≡ map (λ (s : Step). s.op) steps
  places [] = refl
  places (s ∷ steps) = ap (λ ops. s.op ∷ ops) (places steps)

  none : (act : Act) → is_past 0 act ≡ false → (now : ℕ → List OpenBlock)
      → none_told act ≡ told (outcome_in [] (resolved_at sources act) now)
  none (Edge None change) past now = refl
  none (Edge (Some p) change) past now = absurd (false≢true (sym past ∙ ap not (le-ltb p.row 0 (omega arith))))
  none (Expire time) past now = refl

-- what is needed before the first row
pub few_past : (rows : ℕ → List BlockView) (sources : List ℕ) (steps : List Step) → needed_past 0 rows sources steps
    ≤ needed rows sources steps
few_past rows sources steps = grind (arith, common_steps, count_wider, false≢true)

-- no row is done yet
pub none_yet : (rows : ℕ → List BlockView) (sources : List ℕ) (steps : List Step) (fresh : List (Arc Block Global))
    (done : ShardDone) → done.outcomes.items ≡ map (λ s. (s.op, none_told s.act)) steps → done.rows.items ≡ []
    → done.left.taken.items ≡ [] → done.left.dropped.items ≡ [] → done.left.unused.items ≡ []
    → AreRowsDone rows sources steps (shared_numbers fresh) 0 fresh done
none_yet rows sources steps fresh done outs closed taken dropped unused = record {
  work = [];
  sources_are = refl;
  layout = All-nil (λ (r : OpenRow). opens r.blocks.items
      ≡ rows_all (resolved_in sources steps) (opened_rows (layout_by rows)) r.source.0);
  own = All-nil (λ (r : OpenRow). All (IsOf r.source.0) r.blocks.items);
  had = refl;
  had_each = All-nil (λ (r : OpenRow). had_in r.blocks.items ≡ rows r.source.0);
  numbers = λ q. omega arith;
  outcomes = subst (AreOutcomes sources steps rows 0) (sym outs) (none_written rows sources steps);
  closed = ap row_values closed;
  taken = taken;
  dropped = ap shared_blocks dropped;
  unused = ap shared_numbers unused;
}
