-- The sums over the readers, each of which found nothing wrong.
use Rattle.std.{proofs.Common.{◌≡◌, ◌*◌, ◌∙◌, List, ap, sym, arith, length}, specs.Prelude.sum_by}
use Rattle.store_drive.{specs.declared.tally.Tally.Tally, proofs.Right.right_sums}
use Rattle.store_drive.proofs.driving.report_of.Goals as goal

pub returns : goal.returns
returns g c =
    let list = c.in_ok-tallies.tallies.items in
    let right = right_sums list c.in_ok-tallies.ensures.each in
    let same : c.as_slice-2.result.now ≡ list = c.as_slice-2.ensures.value in
    let checked = c.sum_of-tally.ensures.checked ∙ ap (λ (l : List Tally). sum_by (λ t. t.checked) l) same ∙ right.0 in
    let wrong = c.sum_of-tally.ensures.wrong ∙ ap (λ (l : List Tally). sum_by (λ t. t.wrong) l) same ∙ right.1 in
    let count : length list ≡ length c.args.readings.items =
    c.in_ok-tallies.ensures.count ∙ ap length c.as_slice.ensures.value in
    record {
      report_is = record {
        readers_are = c.len-readers.ensures ∙ sym c.as_slice.ensures.len ∙ ap length c.as_slice.ensures.value;
        batches_are = omega (arith, c.len.ensures, c.requires.fed, c.args.feed.now.earlier.ok);
        checked_are = checked ∙ ap (λ n. 80 * n) count;
        none_wrong = wrong;
      };
      between_few = c.sum_of-tally.result.between_few;
    }
