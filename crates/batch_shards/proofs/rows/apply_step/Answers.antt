use Rattle.std.{proofs.Common.{◌≡◌, ◌<◌, List, true, sym, ap, ◌∙◌, subst, get_or, length, rules}, specs.Option.is_some}
use Rattle.std.specs.declared.option.Option.TheVariants.{None, Some}
use Rattle.graph_types.specs.{Step.stamp_after, Changes.option_stamp, Changes.stamp_in}
use Rattle.edge_block.{specs.Slots.stamp_at, specs.Rows.OpenBlock, specs.Rows.old_in_row, proofs.Entries.list_any-holds}
use Rattle.edge_block.proofs.SlotTargets.{absent_puts, absent_stays}
use Rattle.batch_shards.specs.{RowBlocks.{block_of, opens, IsChanged}, declared.row_blocks.RowBlock.RowBlock, Notes.has_target}
use Rattle.batch_shards.{specs.Room.IsRoom, proofs.RowSteps.{absent_edge, at_edge, placed, keeps_set}}
use Rattle.batch_shards.proofs.{RowSteps.{found_within, found_edge, found_some, found_changed, absent_any}, Noting.noted_kept}
use Rattle.batch_shards.proofs.Noting.{changed_targets}
use Rattle.batch_shards.proofs.rows.apply_step.Goals as goal

pub change_here-requires-clause-edge : goal.change_here-requires-clause-edge
change_here-requires-clause-edge c =
    let found = placed (at_edge c.args.kind.0 c.args.target) c.as_slice.ensures.value c.in-Some.ensures in
    subst (λ (h : RowBlock). is_some (stamp_at (block_of h.block).slots c.args.target) ≡ true) (sym c.index_mut.ensures.value)
    (found_some c.args.kind.0 c.args.target c.args.row.now.items c.in-Some.place c.index_mut.result.now found)

pub add_edge-requires-clause-absent : goal.add_edge-requires-clause-absent
add_edge-requires-clause-absent c =
    let none = placed (at_edge c.args.kind.0 c.args.target) c.as_slice.ensures.value c.in-None.ensures in
    absent_any c.args.kind.0 c.args.target c.args.row.now.items none

pub returns-in_ok-outcome-in-Some : goal.returns-in_ok-outcome-in-Some
returns-in_ok-outcome-in-Some c =
    let k = c.args.kind.0 in
    let row = c.args.row.now.items in
    let place = c.in-Some.place in
    let found = placed (at_edge k c.args.target) c.as_slice.ensures.value c.in-Some.ensures in
    let h : RowBlock = c.index_mut.result.now in
    let y : RowBlock = c.change_here.new.here in
    let here : RowBlock = get_or row place h in
    let within : place < length row = found_within k c.args.target row place h found in
    let has : has_target c.args.target here ≡ true =
    list_any-holds c.args.target (block_of here.block).slots ∙ found_some k c.args.target row place h found in
    let changed : IsChanged c.args.change c.args.target here y =
    subst (λ (x : RowBlock). IsChanged c.args.change c.args.target x y) c.index_mut.ensures.value
    c.in_ok-outcome-in-Some.ensures.changed in
    record {
      outcome = rw (found_edge k c.args.target row place h found, ← c.index_mut.ensures.value)
          c.in_ok-outcome-in-Some.ensures.outcome;
      row = sym (found_changed k c.args.target row place h found c.args.change y changed);
      hints = record {
        noted = noted_kept c.args.hints.now.notes row place y h within c.requires.hints.noted
            (λ other now. changed_targets c.args.change c.args.target here y other changed has now);
        room = subst (λ (row : List RowBlock). IsRoom c.after_change-hints.result row) c.as_slice-in-Some.ensures.value
            (c.after_change-hints.ensures row y c.as_slice-in-Some.ensures.value c.requires.hints.room);
        young = subst (λ (r : List OpenBlock). old_in_row c.since_after-hints.result r ≡ 0)
            (found_changed k c.args.target row place h found c.args.change y changed)
            (c.since_after-hints.ensures (k, c.args.target) (opens row) c.requires.hints.young);
      };
      own = search rules;
      keeps = keeps_set 1 row place y h c.args.fresh.now c.change_here.new.fresh within c.index_mut.ensures.value
          c.in_ok-outcome-in-Some.ensures.keeps;
    }

pub returns-in_ok-note_edge-in-None-clause-outcome : goal.returns-in_ok-note_edge-in-None-clause-outcome
returns-in_ok-note_edge-in-None-clause-outcome c =
    let none = placed (at_edge c.args.kind.0 c.args.target) c.as_slice.ensures.value c.in-None.ensures in
    rw (absent_edge c.args.kind.0 c.args.target c.args.row.now.items none) c.change_edge-outcome.ensures.outcome

pub returns-in_ok-note_edge-in-None-clause-row : goal.returns-in_ok-note_edge-in-None-clause-row
returns-in_ok-note_edge-in-None-clause-row c =
    let none = placed (at_edge c.args.kind.0 c.args.target) c.as_slice.ensures.value c.in-None.ensures in
    let marks = c.in-Some-after.marks in
    let stamp : Some (stamp_in marks) ≡ stamp_after c.args.change None = ap option_stamp (sym c.in-Some-after.is)
    ∙ c.change_edge-outcome.ensures.stamp in
    rw (absent_edge c.args.kind.0 c.args.target c.args.row.now.items none)
    (c.in_ok-place-in-None.ensures.row ∙ sym (absent_puts c.args.change (c.args.kind.0, c.args.target)
    (opens c.args.row.now.items) (stamp_in marks) stamp))

pub returns-in_ok-note_edge-in-None-clause-hints : goal.returns-in_ok-note_edge-in-None-clause-hints
returns-in_ok-note_edge-in-None-clause-hints c = record {
  noted = c.in_ok-note_edge-in-None.ensures c.args.row.now.items c.add_edge.new.row.items c.requires.hints.noted
      c.in_ok-place-in-None.ensures.gains;
  room = c.in_ok-place-in-None.ensures.full;
  young = subst (λ (r : List OpenBlock). old_in_row c.since_after-hints.result r ≡ 0)
      (sym (returns-in_ok-note_edge-in-None-clause-row c))
      (c.since_after-hints.ensures (c.args.kind.0, c.args.target) (opens c.args.row.now.items) c.requires.hints.young);
}

pub returns-in_default-clause-outcome : goal.returns-in_default-clause-outcome
returns-in_default-clause-outcome c =
    let none = placed (at_edge c.args.kind.0 c.args.target) c.as_slice.ensures.value c.in-None.ensures in
    rw (absent_edge c.args.kind.0 c.args.target c.args.row.now.items none) c.change_edge-outcome.ensures.outcome

pub returns-in_default-clause-row : goal.returns-in_default-clause-row
returns-in_default-clause-row c =
    let none = placed (at_edge c.args.kind.0 c.args.target) c.as_slice.ensures.value c.in-None.ensures in
    rw (absent_edge c.args.kind.0 c.args.target c.args.row.now.items none)
    (sym (absent_stays c.args.change (c.args.kind.0, c.args.target) (opens c.args.row.now.items)
    (ap option_stamp (sym c.in_default.is) ∙ c.change_edge-outcome.ensures.stamp)))

pub returns-in_default-clause-hints : goal.returns-in_default-clause-hints
returns-in_default-clause-hints c = record {
  noted = c.requires.hints.noted;
  room = c.requires.hints.room;
  young = subst (λ (r : List OpenBlock). old_in_row c.since_after-hints.result r ≡ 0) (sym (returns-in_default-clause-row c))
      (c.since_after-hints.ensures (c.args.kind.0, c.args.target) (opens c.args.row.now.items) c.requires.hints.young);
}
