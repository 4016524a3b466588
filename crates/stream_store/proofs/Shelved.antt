-- What a desk's shelf shows.
use Rattle.std.proofs.Common.{◌≡◌, List, [], ◌∷◌, ◌++◌, sym, ap, ◌∙◌}
use Rattle.graph_types.specs.declared.batches.NamedOp.{NamedOp}
use Rattle.version_shelf.specs.Shelves.{ShelfView, IsNext}
use Rattle.store_steps.specs.{Desks.DeskView, Journal.Ledger, Acceptances.Accepts}
use Rattle.stream_store.specs.Kept.{DeskState, IsDeskState}

-- the version of a desk that accepted a batch is the next one of a shelf that posted the last one's batches
pub is_next : (s : ShelfView) (old new : DeskView) (ops : List NamedOp) → Accepts old ops new → s.opening ≡ old.last.opening
    → s.posted ≡ old.last.batches → IsNext s new.last
is_next s old new ops accepts opening posted = (
  accepts.accepted.opening ∙ sym opening,
  (ops, ap (λ (l : Ledger). l.batches) accepts.accepted.ledger ∙ ap (λ bs. bs ++ ops ∷ []) (sym posted)),
)

-- once it is posted
pub posted_kept : (d e : DeskState) (s t : ShelfView) (ops : List NamedOp) → IsDeskState d s → Accepts d.desk ops e.desk
    → e.workers ≡ d.workers → t.opening ≡ s.opening → t.posted ≡ e.desk.last.batches → t.shown ≡ e.desk.last.batches
    → IsDeskState e t
posted_kept d e s t ops kept accepts workers opening posted shown = record {
  opening_is = opening ∙ kept.opening_is ∙ sym accepts.accepted.opening;
  posted_is = posted;
  shown_is = shown;
  workers_some = rw workers kept.workers_some;
  workers_few = rw workers kept.workers_few;
}
