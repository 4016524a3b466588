use Rattle.std.proofs.Common.{ℕ, ap, sym, subst, ◌∙◌, All}
use Rattle.logbook.specs.Pages.{Book}
use Rattle.graph_types.proofs.Cases.{err_then}
use Rattle.graph_version.specs.Versions.{VersionView}
use Rattle.stream_store.specs.{Kept.DeskState, Seats.HasSeen, Openings.RefusesStore}
use Rattle.stream_store.proofs.opening.open_over.Goals as goal

pub returns-clause-seats : goal.returns-clause-seats
returns-clause-seats g c = (
  c.in_ok-writer.ensures.seats.0 ∙ c.seats.ensures.number,
  subst (λ (b : Book). All (HasSeen b c.args.kept.last) c.in_ok-writer.seats.items)
      (sym (ap (λ (d : DeskState). d.book) c.opened.ensures))
      (subst (λ (v : VersionView). All (HasSeen c.in_ok-writer.writer.book v) c.in_ok-writer.seats.items) c.last.ensures
      c.in_ok-writer.ensures.seats.1),
)

pub returns-in_err-writer-clause-refused : goal.returns-in_err-writer-clause-refused
returns-in_err-writer-clause-refused g c =
    err_then c.from_residual.result (λ e. (needed : ℕ) → RefusesStore needed c.args.config.blocks e) c.in_err-writer.field-0.0
    c.from_residual.ensures.1 (λ needed. c.in_err-writer.ensures.refused needed c.args.config.blocks)
