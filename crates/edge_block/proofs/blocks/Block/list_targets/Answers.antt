use Rattle.std.{proofs.Common.{◌≡◌, ◌∙◌, ◌++◌, ◌-◌, ◌^◌, ap, sym, arith, map, filter}, specs.Int.RustNames.bit_and}
use Rattle.graph_types.specs.View.{in_view}
use Rattle.lane_scan.specs.Masks.{selected}
use Rattle.edge_block.specs.{Slots.edges_in, Slots.entries_of, Lending.edges_left}
use Rattle.edge_block.proofs.Runs.{lent_targets, run_targets, targets_in_slots, targets_of_entries}
use Rattle.edge_block.proofs.blocks.Block.list_targets.Goals as goal

pub loop-edge-init : goal.loop-edge-init
loop-edge-init c =
    ap (λ ts. c.args.targets.now.items ++ ts)
    (ap (λ it. lent_targets (edges_left it)) c.into_iter-edge-iterator.ensures.into_iter_gives
    ∙ ap lent_targets c.places_of-mask.ensures.lends
    ∙ targets_of_entries (filter (in_view c.args.view.now) (entries_of c.args.self.now)))

pub returns-in_ok-extend_from_slice : goal.returns-in_ok-extend_from_slice
returns-in_ok-extend_from_slice c =
    let run : bit_and c.places_of-mask.result c.self.inside.live ≡ 2 ^ c.used_places-used.result - 1 =
    omega (arith, c.if-mask-self.true, c.first_places.ensures) in
    let first = run_targets c.places_of-mask.result c.used_places-used.result c.self.inside.live c.self.inside.targets
    c.self.inside.weights c.self.inside.firsts c.self.inside.recents (omega arith) (omega arith) run in
    c.in_ok-extend_from_slice.ensures.items
    ∙ ap (λ ts. c.args.targets.now.items ++ ts)
    (sym first
    ∙ ap (λ b. map (λ e. e.target) (edges_in (selected c.places_of-mask.result b.slots))) c.self.view_is
    ∙ sym (targets_in_slots c.args.self.now (edges_in (selected c.places_of-mask.result c.args.self.now.slots)))
    ∙ ap lent_targets c.places_of-mask.ensures.lends
    ∙ targets_of_entries (filter (in_view c.args.view.now) (entries_of c.args.self.now)))
