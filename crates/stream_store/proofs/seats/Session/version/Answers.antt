use Rattle.std.{proofs.Common.sym, proofs.Common.ap, proofs.Common.◌∙◌, specs.Prelude.option_map, specs.Arc.arc_value}
use Rattle.graph_version.specs.declared.versions.Version.{Version}
use Rattle.stream_store.specs.Seats.{held_version, lent_or_seen}
use Rattle.stream_store.proofs.seats.Session.version.Goals as goal

-- Its search is long where it fails.
pub returns-in-Some : goal.returns-in-Some
returns-in-Some c =
    c.deref.ensures
    ∙ ap (λ o. lent_or_seen (option_map (λ v. arc_value {X = Version} v) o) c.self.inside.reader) (sym c.in-Some.is)
    ∙ ap held_version c.self.view_is
