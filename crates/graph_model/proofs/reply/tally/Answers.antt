-- What the loop has counted so far is within the limits, and at its end it is the table.
use Rattle.std.proofs.Common.{All, length, ap, sym, ◌∙◌, arith, rules}
use Rattle.graph_types.specs.Graph.{IsEdgeWithin}
use Rattle.graph_types.proofs.DegreeTables.{tally_within, tally_all, tally_none, tally_shown, tally_hidden}
use Rattle.graph_model.proofs.reply.tally.Goals.{then-shows, else-shows}
use Rattle.graph_model.proofs.reply.tally.Goals as goal

pub count_edge-requires-clause-room : goal.count_edge-requires-clause-room
count_edge-requires-clause-room c =
    tally_within c.args.filter c.args.content.now c.requires c.as_slice-edges.result.now c.loop-edge.edge-index _
    c.loop-edge.table.items c.as_slice-edges.ensures c.loop-edge-test.true c.loop-edge.invariant

pub returns : goal.returns
returns c =
    tally_all c.args.filter c.args.content.now c.requires c.as_slice-edges.result.now c.loop-edge.edge-index
    c.loop-edge.table.items c.as_slice-edges.ensures (omega arith) c.loop-edge.invariant

-- The searches of the rest are long.

pub returns-in_err-table : goal.returns-in_err-table
returns-in_err-table c = search rules

pub loop-edge-init : goal.loop-edge-init
loop-edge-init c =
    tally_none c.args.filter _ (length c.as_slice-names.result.now) _ (ap length c.as_slice-names.ensures) (search rules)

within : (c : goal.After-table-then-shows-1)
    → All (IsEdgeWithin (length c.loop-edge.table.items) (length c.args.content.now.kinds)) c.as_slice-edges.result.now
within c = rw (c.loop-edge.invariant.size, c.as_slice-edges.ensures) c.requires.edges_within

pub count_edge-requires-clause-source : goal.count_edge-requires-clause-source
count_edge-requires-clause-source c = (within c c.loop-edge.edge-index _ c.loop-edge-test.true).source

pub count_edge-requires-clause-target : goal.count_edge-requires-clause-target
count_edge-requires-clause-target c = (within c c.loop-edge.edge-index _ c.loop-edge-test.true).target

pub loop-edge-preserved : goal.loop-edge-preserved
loop-edge-preserved c =
    let edges = c.as_slice-edges.result.now in
    let i = c.loop-edge.edge-index in
    elim c.if-shows.branch [
      | then-shows w ↦ rw w.table-is
          (tally_shown c.args.filter edges i _ _ c.loop-edge.table.items _ c.loop-edge.invariant c.loop-edge-test.true
          (sym c.shows.ensures ∙ w.if-shows.true) w.count_edge.ensures)
      | else-shows w ↦ rw w.table-is
          (tally_hidden c.args.filter edges i _ _ c.loop-edge.table.items c.loop-edge.invariant c.loop-edge-test.true
          (sym c.shows.ensures ∙ w.if-shows.false))
    ]
