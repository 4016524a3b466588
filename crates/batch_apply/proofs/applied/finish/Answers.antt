use Rattle.std.proofs.Common.{◌≡◌, ℕ, ◌+◌, ◌%◌, ◌^◌, ◌==◌, List, map, refl, sym, ap, ◌∙◌, subst, rules}
use Rattle.std.{specs.Prelude.count_by, specs.List.{list_any, sum_by}, specs.FinMap.len}
use Rattle.graph_types.specs.{Graph.Graph, Refusals.MeetsNeitherLimit, Step.after_all, Step.outcomes}
use Rattle.graph_types.specs.declared.batches.{NamedOp.NamedOp}
use Rattle.vertex_names.specs.Book.{Book}
use Rattle.graph_version.specs.{Batches.batch_value, Versions.{VersionView, IsVersion, content}, Kept.edge_total}
use Rattle.graph_version.specs.{Drafts.{DraftView, IsWhole, IsNextDraft, drafted_over}, Differences.DifferAt, Rows.row_of}
use Rattle.graph_types.specs.declared.ids.VertexId.{VertexId}
use Rattle.edge_block.specs.Slots.{BlockView}
use Rattle.graph_version.proofs.{Drafted.{draft_among, draft_whole, edges_left, draft_is, among_others}, NumbersIn.neither_limit}
use Rattle.batch_shards.specs.Closing.{row_values}
use Rattle.batch_shards.specs.RowBlocks.{shared_blocks, shared_numbers}
use Rattle.batch_shards.proofs.Left.{rows_left}
use Rattle.batch_apply.specs.{Applied.{is_inserted, taken_away, IsApplied, ReplacesRows}, Plan.Fits}
use Rattle.batch_apply.{specs.{declared.{applied.Applied.Applied, gathering.Gathered.Gathered}, Gathered.IsWorked}, proofs.EdgeCounts.len_after_all}
use Rattle.batch_apply.proofs.Applying.{next_made}
use Rattle.batch_apply.proofs.applied.finish.Goals.{In_ok-next}
use Rattle.batch_apply.proofs.applied.finish.Goals as goal

-- the draft is whole, what the operations come to is told, and the draft's version is what the batch leaves
made : (v : VersionView) (ops : List NamedOp) (names kinds : Book) (numbers : List ℕ) (all : Gathered) → IsVersion v
    → Fits names → Fits kinds
    → IsWorked v ops names kinds numbers all → (d : DraftView) → IsNextDraft v names kinds (row_values all.rows.items) ops d
    → IsWhole d
    × (all.outcomes.items ≡ outcomes ops (content v))
    × (edge_total d.version ≡ len (after_all ops (content v)).edges)
    × ((a : Applied) → a.version ≡ d.version → a.outcomes ≡ all.outcomes → a.taken ≡ all.left.taken
    → a.dropped ≡ all.left.dropped → a.unused ≡ all.left.unused → IsApplied v ops numbers a)
made v ops names kinds numbers all is few_names few_kinds w d next =
    let a = w.gathered in
    let p = w.planned in
    let d1 : DraftView = record (drafted_over v) { names = names; kinds = kinds } in
    let d2 : DraftView = next.put in
    let e2 : ReplacesRows (rows_left a.dones) d1 d2 = subst (λ rs. ReplacesRows rs d1 d2) a.rows_are next.rows_are in
    let e3 = next.draft_is in
    let names_are = sym w.names_are ∙ p.names in
    let kinds_are = sym w.kinds_are ∙ p.kinds in
    let among = draft_among v ops names kinds (rows_left a.dones) d1 d2 d refl e2 e3 in
    let limits : MeetsNeitherLimit ops (content v) =
    neither_limit ops (content v) names kinds names_are kinds_are few_names few_kinds in
    let done = next_made v ops w.workers w.plan.shards.items w.plan.needs.items a.jobs a.dones
    numbers a.rest w.some is p.shards p.needs a.dealt a.done a.shared_out
    w.distinct w.unlisted limits w.few w.short d2.version.rows among in (
      draft_whole v ops names kinds (rows_left a.dones) d1 d2 d refl e2 e3 names_are kinds_are done.0,
      a.outcomes_are ∙ done.1,
      edges_left v ops names kinds (rows_left a.dones) d1 d2 d refl e2 e3,
      λ x version outcomes taken dropped unused. done.2 x
          (version ∙ ap (λ (e : DraftView). e.version) (draft_is v ops names kinds (rows_left a.dones) d1 d2 d refl e2 e3))
          (ap (λ l. l.items) outcomes ∙ a.outcomes_are) (ap (λ l. l.items) taken ∙ a.taken_are)
          (ap (λ l. shared_blocks l.items) dropped ∙ a.dropped_are) (ap (λ l. shared_numbers l.items) unused ∙ a.unused_are),
    )

pub after_batch-requires-clause-whole : goal.after_batch-requires-clause-whole
after_batch-requires-clause-whole c = λ d next.
    (made c.args.version.now (batch_value c.args.batch) c.args.names c.args.kinds c.requires.worked.0 c.args.all
    c.edge_count.ensures.version (search rules) (search rules) c.requires.worked.1 d next).0

pub after_batch-requires-clause-edges : goal.after_batch-requires-clause-edges
after_batch-requires-clause-edges c = λ d next.
    let ops : List NamedOp = batch_value c.args.batch in
    let after : Graph = after_all ops (content c.args.version.now) in
    let is = made c.args.version.now ops c.args.names c.args.kinds c.requires.worked.0 c.args.all
    c.edge_count.ensures.version (search rules) (search rules) c.requires.worked.1 d next in
    let as_many : len after.edges + sum_by taken_away c.deref.result.now
    ≡ c.edge_count.result + count_by is_inserted c.deref.result.now
    = rw (c.deref.ensures.value, is.1, c.edge_count.ensures.edges) (len_after_all ops (content c.args.version.now)) in
    c.edges_after-edges.ensures (len after.edges) as_many ∙ ap (λ (n : ℕ). n % 2 ^ 64) (sym is.2)

-- the draft has other rows than the version at the sources of the rows that took their places alone
differ : (c : In_ok-next) → DifferAt c.in_ok-sources.sources.items c.args.version.now.rows c.in_ok-next.ensures.0.version.rows
differ c s none =
    let v : VersionView = c.args.version.now in
    let ops : List NamedOp = batch_value c.args.batch in
    let values : List (ℕ × List BlockView) = row_values c.args.all.rows.items in
    let d1 : DraftView = record (drafted_over v) { names = c.args.names; kinds = c.args.kinds } in
    let next = c.in_ok-next.ensures.1 in
    let among = draft_among v ops c.args.names c.args.kinds values d1 next.put c.in_ok-next.ensures.0 refl
    next.rows_are next.draft_is s in
    let listed = ap (list_any (λ (w : VertexId). s == w.0))
    (sym (c.in_ok-sources.ensures ∙ ap (map (λ (r : VertexId × List BlockView). r.0)) c.as_slice.ensures.value)) ∙ none in
    sym (ap (λ (d : DraftView). row_of d.version.rows s) next.draft_is ∙ among
    ∙ among_others c.args.all.rows.items s (row_of v.rows s) listed)

pub returns : goal.returns
returns c = λ numbers worked.
    let next = c.in_ok-next.ensures in record {
      applied = (made c.args.version.now (batch_value c.args.batch) c.args.names c.args.kinds numbers c.args.all
          c.edge_count.ensures.version (search rules) (search rules) worked next.0 next.1).3 _ next.2 refl refl refl refl;
      rows = λ s none. differ (goal.at.returns c).In_ok-next s none ∙ ap (λ (w : VersionView). row_of w.rows s) (sym next.2);
    }
