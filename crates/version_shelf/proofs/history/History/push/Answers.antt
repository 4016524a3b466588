use Rattle.std.proofs.Common.{sym, ◌∙◌, ap, length}
use Rattle.version_shelf.{specs.Histories.{HistoryView, right_at}, proofs.Adding.adds_moves}
use Rattle.version_shelf.proofs.history.History.push.Goals as goal

pub compare_exchange-self-inside-requires : goal.compare_exchange-self-inside-requires
compare_exchange-self-inside-requires c =
    let h = c.requires.end.0 in
    let b = ap (λ (f : HistoryView). f.book) c.self.view_is in
    let offer = c.plain-offer.ensures in
    let pen = c.requires.end.2 ∙ ap (λ (f : HistoryView). right_at (length f.batches)) (sym c.self.view_is) in (
      ap (λ w. w.tracked) h,
      b ∙ sym (ap (λ w. w.book) h),
      c.requires.end.1 ∙ sym (ap (λ w. w.book) h),
      offer.0,
      rw (ap (λ w. w.key) h, pen, offer.1, offer.3) (adds_moves c.self.inside.seen.log c.args.batch.now 0),
    )
