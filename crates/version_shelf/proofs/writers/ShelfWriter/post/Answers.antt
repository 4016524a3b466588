use Rattle.std.proofs.Common.{◌≡◌, ◌++◌, ◌∷◌, [], length, inr, Some, sym, ap, subst, ◌∙◌, arith, length-append}
use Rattle.graph_types.proofs.Prefixes.{ends_with_last}
use mathlib.Core.List.{IsPrefix}
use Rattle.graph_version.specs.Versions.{VersionView}
use Rattle.version_shelf.specs.{Histories.HistoryView, Shelves.ToldView, Shelves.ShelfView}
use Rattle.version_shelf.proofs.Steps.{still_showing}
use Rattle.version_shelf.proofs.writers.ShelfWriter.post.Given.{Over}
use Rattle.version_shelf.proofs.writers.ShelfWriter.post.Goals as goal
use Rattle.version_shelf.proofs.writers.ShelfWriter.post.Goals.{After-share}

-- the history with the batch that the version lends has the version's batches
entered : (g : Over) (c : After-share g) → c.self.inside.history.batches ≡ c.args.version.value.batches
entered g c =
    ap (λ (s : ShelfView). s.posted) c.self.view_is
    ∙ (c.if-not-enter_batch.ensures.posted ∙ sym (ends_with_last c.args.version.value.batches c.args.self.now.posted
    c.in-Some.ensures.batch.0 c.requires.next.1.0 c.in-Some.batch.now c.requires.next.1.1
    (ap (λ (v : VersionView). v.batches) (sym c.deref.ensures) ∙ c.in-Some.ensures.batch.1)))

pub unreachable-requires : goal.unreachable-requires
unreachable-requires g c =
    let none : c.args.self.now.posted ++ c.requires.next.1.0 ∷ [] ≡ [] =
    sym c.requires.next.1.1 ∙ ap (λ (v : VersionView). v.batches) (sym c.deref.ensures) ∙ c.in_default.ensures.batch in
    let empty : length (c.args.self.now.posted ++ c.requires.next.1.0 ∷ []) ≡ 0 = ap length none in
    let long = length-append c.args.self.now.posted (c.requires.next.1.0 ∷ []) in omega arith

pub show_twice-requires : goal.show_twice-requires
show_twice-requires g c =
    let before = (goal.at.show_twice-requires g c).After-share in
    let shown : ToldView = c.self.inside.place.desk.shown.value in
    let same : c.in_ok-copy.copy.value ≡ c.args.version.value = c.in_ok-copy.ensures in
    record {
      newer = (
        c.self.invariant.1.0 ∙ ap (λ (h : HistoryView). h.book) (sym c.share.ensures),
        (
          ap (λ (s : ShelfView). s.opening) (c.self.view_is ∙ c.enter_batch.ensures.same) ∙ sym c.requires.next.0
              ∙ ap (λ (v : VersionView). v.opening) (sym same),
          subst (IsPrefix shown.version.batches) (entered g before ∙ ap (λ (v : VersionView). v.batches) (sym same))
              c.self.invariant.1.1,
        ),
      );
      same = λ i. record {
        book = (ap (λ (h : HistoryView). h.book) (c.share-2.ensures ∙ sym c.share.ensures)) i;
        version = (c.in_ok-other.ensures ∙ sym same) i;
      };
    }

pub invariant_of-shown : goal.invariant_of-shown
invariant_of-shown g c =
    ap (λ (v : VersionView). v.batches) c.in_ok-copy.ensures ∙ sym (entered g (goal.at.invariant_of-shown g c).After-share)
    ∙ ap (λ (h : HistoryView). h.batches) (sym c.share.ensures)

pub invariant_of-result : goal.invariant_of-result
invariant_of-result g c =
    sym (entered g (goal.at.invariant_of-result g c).After-share) ∙ ap (λ (h : HistoryView). h.batches) (sym c.share-3.ensures)

pub invariant_of-self : goal.invariant_of-self
invariant_of-self g c =
    let history : HistoryView = c.self.inside.history in
    let shown : ToldView = c.self.inside.place.desk.shown.value in
    let told : ToldView = record { book = c.share.result.book; version = c.in_ok-copy.copy.value } in (
      c.self.invariant.0,
      still_showing shown c.show_twice.new.place.desk.shown.value told history c.self.invariant.1
          (ap (λ (h : HistoryView). h.book) c.share.ensures)
          (ap (λ (v : VersionView). v.batches) c.in_ok-copy.ensures
          ∙ sym (entered g (goal.at.invariant_of-self g c).After-share)) (inr c.show_twice.ensures.shown),
      c.show_twice.ensures.view ∙ ap (λ (t : ToldView). Some t) (sym c.show_twice.ensures.shown),
    )

pub returns-clause-posted : goal.returns-clause-posted
returns-clause-posted g c = (
  entered g (goal.at.returns-clause-posted g c).After-share,
  ap (λ (t : ToldView). t.version.batches) c.show_twice.ensures.shown ∙ ap (λ (v : VersionView). v.batches) c.in_ok-copy.ensures,
  λ i. record {
    book = (ap (λ (h : HistoryView). h.book) c.share-3.ensures
        ∙ ap (λ (s : ShelfView). s.book) (c.self.view_is ∙ c.enter_batch.ensures.same)) i;
    version = c.args.version.value;
  },
)

pub returns-clause-same : goal.returns-clause-same
returns-clause-same g c = (
  ap (λ (s : ShelfView). s.book) (c.self.view_is ∙ c.enter_batch.ensures.same),
  ap (λ (t : ToldView). t.version.opening) c.show_twice.ensures.shown
      ∙ (ap (λ (v : VersionView). v.opening) c.in_ok-copy.ensures ∙ c.requires.next.0),
)
