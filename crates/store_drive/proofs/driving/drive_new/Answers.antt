use Rattle.std.proofs.Common.{◌≡◌, ◌∙◌, ap}
use Rattle.graph_types.specs.{Limits.{LimitsView, standard_limits}, Step.empty_graph_in}
use Rattle.version_shelf.specs.Shelves.{ToldView}
use Rattle.stream_store.specs.Configs.{ConfigView}
use Rattle.store_drive.proofs.driving.drive_new.Goals as goal

-- each seat has seen the version that a store under the standard limits begins with
pub drive_over-requires-clause-seats : goal.drive_over-requires-clause-seats
drive_over-requires-clause-seats g c κs within k d lt =
    let seen = c.in-Ok-open_parts.ensures.seats.1 k d lt in
    let standard : c.in-Ok.config.limits ≡ standard_limits = ap (λ (x : ConfigView). x.limits) c.in-Ok.ensures.0 in
    record {
      book_is = ap (λ (t : ToldView). t.book) seen;
      opening_is = ap (λ (t : ToldView). t.version.opening) seen ∙ ap (λ (l : LimitsView). empty_graph_in l) standard;
    }
