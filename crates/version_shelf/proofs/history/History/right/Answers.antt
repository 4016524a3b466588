use Rattle.std.proofs.Common.{[], sym, ◌∙◌, ap}
use Rattle.version_shelf.{specs.Histories.HistoryView, proofs.Adding.makes_moves}
use Rattle.version_shelf.proofs.history.History.right.Goals as goal

pub compare_exchange-found-requires : goal.compare_exchange-found-requires
compare_exchange-found-requires c =
    let h = c.requires.word in
    let b = ap (λ s. s.book) c.again-seen.ensures
    ∙ (ap (λ (f : HistoryView). f.book) c.self.view_is ∙ sym (ap (λ w. w.book) h)) in
    let offer = c.plain-offer.ensures in
    let pen = c.no_pen-pen.ensures in (
      ap (λ w. w.tracked) h,
      b,
      pen.0 ∙ b,
      offer.0,
      rw (ap (λ w. w.key) h, pen.1, offer.3) (makes_moves c.again-seen.result.log [] c.args.made),
    )
