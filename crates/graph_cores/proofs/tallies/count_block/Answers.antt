use Rattle.std.proofs.{Common.◌∙◌, Common.ap, Common.subst, Common.sym, Common.arith, Common.w64, lemmas.Int.to_z-of_z}
use Rattle.std.{proofs.lemmas.List.Elements.All-head, proofs.lemmas.List.Elements.All-tail, specs.Prelude.All}
use Rattle.graph_types.proofs.ChangedContents.{weight_fits_word}
use Rattle.edge_block.specs.{Slots.IsStamp, Lending.LentEdge, Lending.lent_edge, Lending.edges_left}
use Rattle.edge_block.proofs.LentEntries.{edges_lent}
use Rattle.graph_cores.{specs.Tallies.shown_block, proofs.Blocks.lent_block}
use Rattle.graph_cores.proofs.{Parts.begun_start, Parts.begun_end, Turns.next_room, Turns.next_begun}
use Rattle.graph_cores.proofs.tallies.count_block.Goals as goal

pub loop-edge-init : goal.loop-edge-init
loop-edge-init c =
    let f = c.args.view.now in
    let b = c.args.block.now in
    let same = ap edges_left c.into_iter-edge-iterator.ensures.into_iter_gives in
    record {
      begun = begun_start f (shown_block f b) (edges_lent b.source (edges_left c.into_iter-edge-iterator.result)) c.args.table.now
          (lent_block f b (edges_left c.into_iter-edge-iterator.result) (same ∙ c.select-edge-items.ensures.lends));
      stamps = subst (All (λ (e : LentEdge). IsStamp e.stamp)) (sym same) c.select-edge-items.ensures.in_range;
    }

pub count_edge-requires-clause-source : goal.count_edge-requires-clause-source
count_edge-requires-clause-source c =
    let now = next_room c.args.view.now c.args.block.now c.args.table.now c.loop-edge.table (edges_left c.loop-edge.edge-iterator)
    (edges_left c.next.new.self) (lent_edge c.in-Some.edge) c.in-Some.ensures.steps c.loop-edge.auto.table c.requires
    c.loop-edge.invariant.begun in
    omega (arith, now.source, c.source-source.ensures)

pub count_edge-requires-clause-target : goal.count_edge-requires-clause-target
count_edge-requires-clause-target c =
    (next_room c.args.view.now c.args.block.now c.args.table.now c.loop-edge.table (edges_left c.loop-edge.edge-iterator)
    (edges_left c.next.new.self) (lent_edge c.in-Some.edge) c.in-Some.ensures.steps c.loop-edge.auto.table c.requires
    c.loop-edge.invariant.begun).target

pub count_edge-requires-clause-room : goal.count_edge-requires-clause-room
count_edge-requires-clause-room c =
    let l = lent_edge c.in-Some.edge in
    let rest = edges_left c.next.new.self in
    let stamps = subst (All (λ (e : LentEdge). IsStamp e.stamp)) c.in-Some.ensures.steps c.loop-edge.invariant.stamps in
    let stamp : IsStamp l.stamp = All-head (λ (e : LentEdge). IsStamp e.stamp) l rest stamps in
    let weight = c.in-Some.edge.weight.now in
    rw (to_z-of_z w64 weight (weight_fits_word weight stamp.0))
    (next_room c.args.view.now c.args.block.now c.args.table.now c.loop-edge.table (edges_left c.loop-edge.edge-iterator) rest l
    c.in-Some.ensures.steps c.loop-edge.auto.table c.requires c.loop-edge.invariant.begun).room

pub loop-edge-preserved : goal.loop-edge-preserved
loop-edge-preserved c =
    let l = lent_edge c.in-Some.edge in
    let rest = edges_left c.next.new.self in
    let stamps = subst (All (λ (e : LentEdge). IsStamp e.stamp)) c.in-Some.ensures.steps c.loop-edge.invariant.stamps in
    let stamp : IsStamp l.stamp = All-head (λ (e : LentEdge). IsStamp e.stamp) l rest stamps in
    let weight = c.in-Some.edge.weight.now in
    let counts = (rw (to_z-of_z w64 weight (weight_fits_word weight stamp.0)) at c.count_edge.ensures) in
    record {
      begun = next_begun c.args.view.now c.args.block.now c.args.table.now c.loop-edge.table
          (edges_left c.loop-edge.edge-iterator) rest l c.in-Some.ensures.steps c.loop-edge.auto.table c.requires
          c.loop-edge.invariant.begun
          c.count_edge.new.table c.source-source.result.0 c.source-source.ensures stamp counts;
      stamps = All-tail (λ (e : LentEdge). IsStamp e.stamp) l rest stamps;
    }

pub returns : goal.returns
returns c =
    let f = c.args.view.now in
    let b = c.args.block.now in
    begun_end f (shown_block f b) (edges_lent b.source (edges_left c.loop-edge.edge-iterator)) c.args.table.now c.loop-edge.table
    (ap (edges_lent b.source) c.in-None.ensures.steps.0) c.loop-edge.invariant.begun
