use Rattle.std.proofs.Common.{◌≡◌, List, refl, sym, ap, ◌∙◌}
use Rattle.std.proofs.lemmas.List.{map-id}
use Rattle.std.proofs.lemmas.Iterator.{Adapters.YieldsList-from_vec, Consumers.YieldsList-end}
use Rattle.graph_types.specs.declared.ids.VertexId.{VertexId}
use Rattle.edge_block.specs.Slots.{BlockView}
use Rattle.graph_version.specs.Rows.{row_of}
use Rattle.graph_version.specs.Drafts.{row_values, row_among}
use Rattle.graph_version.proofs.Drafting.{put_more}
use Rattle.graph_version.proofs.drafts.VersionDraft.put_rows.Goals as goal

pub loop-row-init : goal.loop-row-init
loop-row-init c = λ s. refl

pub loop-row-preserved : goal.loop-row-preserved
loop-row-preserved c =
    put_more c.loop-row.yielded c.in-Some.row c.self.inside.rows c.loop-row.all c.in_ok-all.all c.loop-row.invariant
    c.in_ok-all.ensures

pub returns : goal.returns
returns c =
    let start = c.into_iter-row-iterator.ensures.into_iter_gives in
    let end : c.loop-row.yielded ≡ c.args.rows.items = sym (map-id c.loop-row.yielded) ∙ (YieldsList-end
    (YieldsList-from_vec {s = c.into_iter-row-iterator.result} c.args.rows.items start.0 (start.1 ∙ c.args.rows.ok.0))
    c.loop-row.yielded c.loop-row.row-iterator c.loop-row.yielded_by c.next.result c.next.new.self c.in-None.is
    c.next.ensures.steps).0 in
    rw (← c.self.view_is) (record {
      rows_are = λ s. c.loop-row.invariant s
          ∙ ap (λ (rows : List (VertexId × List BlockView)). row_among (row_values rows) s (row_of c.self.inside.rows s)) end;
      rest = refl;
    })
