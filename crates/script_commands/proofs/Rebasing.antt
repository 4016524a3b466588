-- A desk that opened with what a session holds: which state it shows, and what its line says.
use Rattle.std.proofs.Common.{◌≡◌, ℕ, zero, suc, Bool, false, cond, List, [], ◌∷◌, length, map, set, count_by, replicate, refl}
use Rattle.std.{proofs.Common.{ap, ◌∙◌, arith}, specs.{Prelude.{Ok, slice_get}, FinMap.len}}
use Rattle.edge_block.specs.{Batches.sum_below, Rows.Shape}
use Rattle.block_pool.specs.Pools.{marked}
use Rattle.block_reclamation.specs.{declared.status.BlockStatus.{BlockStatus, TheVariants.{Free, Used}}, Status.is_retired}
use Rattle.block_reclamation.specs.Status.{is_in_use}
use Rattle.graph_types.proofs.Sums.{count_more}
use Rattle.feed_csv.specs.declared.command.Command.TheVariants.{Rebase}
use Rattle.graph_version.specs.{Kept.edge_total, Rebased.IsRebased, Versions.VersionView, Versions.content}
use Rattle.graph_version.specs.Rows.{blocks_of, numbers_of, row_of}
use Rattle.graph_version.proofs.Rebased.{content_rebased}
use Rattle.graph_version.proofs.RowBlocks.{blocks_counted}
use Rattle.script_lines.specs.Lines.{rebase_line}
use Rattle.store_steps.specs.{Desks.{DeskView, IsDesk, is_retired_by}, Opening.opened_desk}
use Rattle.store_steps.proofs.Reopening.{births_first, first_opened, length_opened}
use Rattle.stream_store.specs.Refusals.{block_count}
use Rattle.script_commands.proofs.DeskLaws.{none_counted, parts}
use Rattle.script_commands.specs.{Servers.ShowsDesk, Slots.held_of}
use Rattle.script_commands.specs.States.{IsCommandResult, ServerState, after_rebase, version, version_in, held_block_count as held_blocks}

-- The pool

set_none : (p : BlockStatus → Bool) (s : BlockStatus) → p s ≡ false → (pool : List BlockStatus) (n : ℕ) → count_by p pool ≡ 0
    → count_by p (set pool n s) ≡ 0
set_none p s fails [] n none = none
set_none p s fails (t ∷ pool) zero none =
    let a = count_more p t pool in
    let b = count_more p s pool in
    let here : (let k : ℕ = cond (p s) 1 0 in k) ≡ 0 = ap (λ t. cond t 1 0) fails in
    omega arith
set_none p s fails (t ∷ pool) (suc n) none =
    let a = count_more p t pool in
    let b = count_more p t (set pool n s) in
    let rest = set_none p s fails pool n (omega arith) in
    omega arith

marked_none : (p : BlockStatus → Bool) (s : BlockStatus) → p s ≡ false → (ns : List ℕ) (pool : List BlockStatus) → count_by p pool ≡ 0
    → count_by p (marked ns s pool) ≡ 0
marked_none p s fails [] pool none = none
marked_none p s fails (n ∷ ns) pool none = marked_none p s fails ns (set pool n s) (set_none p s fails pool n none)

-- a test that neither a free nor a used block passes counts nothing at an opening
none_opened : (p : BlockStatus → Bool) → p Free ≡ false → p (Used 0) ≡ false → (blocks : ℕ) (d : DeskView)
    → d ≡ opened_desk blocks d.last → count_by p d.pool ≡ 0
none_opened p free used blocks d opened =
    ap (λ (e : DeskView). count_by p e.pool) opened
    ∙ marked_none p (Used 0) used (numbers_of (blocks_of d.last.rows)) (replicate blocks Free) (none_counted p free blocks)

-- The state

-- it has as many blocks as the held version in the text
count_rebased : (s : ServerState) (v : VersionView) (d : DeskView) → IsRebased v d.last → IsDesk d
    → content v ≡ version (length v.batches) s → block_count d.last ≡ held_blocks (held_of v) s
count_rebased s v d rebased desk same =
    let graph : content d.last ≡ version (length v.batches) s = content_rebased v d.last rebased ∙ same in
    blocks_counted d.last desk.version
    ∙ (λ i. sum_below (length (graph i).names) (λ source. length (rebased.rows source i)))

pub shows_rebased : (s : ServerState) (v : VersionView) (blocks : ℕ) (d : DeskView) → IsRebased v d.last
    → d ≡ opened_desk blocks d.last → IsDesk d → count_by is_in_use d.pool ≡ block_count d.last
    → content v ≡ version (length v.batches) s → blocks ≡ s.blocks → ShowsDesk d (after_rebase (held_of v) s)
shows_rebased s v blocks d rebased opened desk used same blocks_are = record {
  opening = rebased.opening ∙ same;
  batches = rebased.batches;
  layout = λ i source. rebased.rows source i;
  births = λ source. births_first (row_of d.last.rows source) d.pool (first_opened blocks d opened)
      ∙ ap (map (λ (b : Shape). 0)) (rebased.rows source);
  blocks = length_opened blocks d opened ∙ blocks_are;
  free =
      let whole = parts d.pool in
      let none = none_opened is_retired refl refl blocks d opened in
      let many = length_opened blocks d opened in
      let held = count_rebased s v d rebased desk same in
      omega (arith, whole, none, many, held, used, blocks_are);
  retired = λ q. none_opened (is_retired_by q) refl refl blocks d opened;
}

pub rebase_done : (s : ServerState) (v : VersionView) (d : DeskView) (slot number names edges many : ℕ) (lines : List ℕ)
    → version_in (slice_get s.held slot) ≡ Ok (held_of v) → IsRebased v d.last → IsDesk d
    → count_by is_in_use d.pool ≡ block_count d.last → content v ≡ version (length v.batches) s
    → number ≡ length d.last.batches → names ≡ length (content d.last).names → edges ≡ edge_total d.last
    → many ≡ count_by is_in_use d.pool → lines ≡ rebase_line number names edges many → IsCommandResult (Rebase slot) s (Ok lines)
rebase_done s v d slot number names edges many lines there rebased desk used same number_is names_are edges_are used_are
    lines_are =
    let graph : content d.last ≡ version (length v.batches) s = content_rebased v d.last rebased ∙ same in
    let a : number ≡ 0 = number_is ∙ ap length rebased.batches in
    let b : names ≡ length (version (length v.batches) s).names = names_are ∙ ap (λ g. length g.names) graph in
    let c : edges ≡ len (version (length v.batches) s).edges = edges_are ∙ ap (λ g. len g.edges) graph in
    let u : many ≡ held_blocks (held_of v) s = used_are ∙ (used ∙ count_rebased s v d rebased desk same) in
    rw (lines_are, there, a, b, c, u) refl
