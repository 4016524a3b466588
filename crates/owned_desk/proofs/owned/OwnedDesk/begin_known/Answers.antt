use Rattle.std.proofs.Common.{sym, subst, ◌∙◌}
use Rattle.store_steps.specs.Desks.{DeskView}
use Rattle.owned_desk.specs.{Kept.KeepsVersions, Owned.{OwnedView, IsOwned, owned_view}}
use Rattle.owned_desk.proofs.OwnedLaws.{owned_with, ready_owned}
use Rattle.owned_desk.proofs.owned.OwnedDesk.begin_known.Goals as goal

pub of-requires : goal.of-requires
of-requires c =
    let s = c.self.inside in
    let kept = c.touch_sources.new.kept in
    let o : OwnedView = owned_view s.desk s.board s.counts s.opening kept in
    let b = c.in-Ok.ensures.begun in
    let before : KeepsVersions c.in-Ok.ready.old s.board.pins s.kept =
    subst (λ (d : DeskView). KeepsVersions d s.board.pins s.kept) (sym b.0) c.self.invariant.kept in
    record {
      ready = ready_owned o c.in-Ok.ready.old c.in-Ok.ready.new c.in-Ok.ready.ops _ b.0 b.1
          (owned_with (owned_view s.desk s.board s.counts s.opening s.kept) kept.versions c.self.invariant.owned)
          c.in-Ok.ensures.accepts;
      before = c.touch_sources.ensures.before s.board.pins before;
      after = c.in-Ok-touch_sources.ensures.after s.board.pins before;
    }

pub with-desk-requires : goal.with-desk-requires
with-desk-requires c =
    let s = c.self.inside in
    let kept = c.touch_sources.new.kept in
    let b = c.in-Ok.ensures.begun in
    let before : KeepsVersions c.in-Ok.ready.old s.board.pins s.kept =
    subst (λ (d : DeskView). KeepsVersions d s.board.pins s.kept) (sym b.0) c.self.invariant.kept in
    record {
      owned = subst (λ (d : DeskView). IsOwned (owned_view d s.board s.counts s.opening kept)) (sym (c.cancel.ensures ∙ b.0))
          (owned_with (owned_view s.desk s.board s.counts s.opening s.kept) kept.versions c.self.invariant.owned);
      kept = subst (λ (d : DeskView). KeepsVersions d s.board.pins kept) (sym c.cancel.ensures)
          (c.touch_sources.ensures.before s.board.pins before);
    }
