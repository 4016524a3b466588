use Rattle.std.proofs.Common.{refl, sym, ap, ◌∙◌}
use Rattle.version_shelf.specs.Shelves.{ShelfView}
use Rattle.store_steps.specs.{Desks.DeskView}
use Rattle.stream_store.proofs.posting.Desk.opened.Goals as goal

pub invariant_of-result : goal.invariant_of-result
invariant_of-result c =
    let limits = c.workers.ensures.limits in
    let zero = c.requires.zero in
    let alone = ap (λ (d : DeskView). d.last.batches) zero.2 ∙ zero.1.alone in (
      record {
        opening_is = ap (λ (s : ShelfView). s.opening) c.requires.shelf;
        posted_is = ap (λ (s : ShelfView). s.posted) c.requires.shelf ∙ sym alone;
        shown_is = ap (λ (s : ShelfView). s.shown) c.requires.shelf ∙ sym alone;
        workers_some = rw c.workers.ensures.number limits.workers_some;
        workers_few = rw c.workers.ensures.number limits.workers_few;
      },
      refl,
    )
