use Rattle.std.{proofs.Common.{sym, ap, subst}, specs.Prelude.All}
use Rattle.graph_version.specs.Versions.{VersionView}
use Rattle.stream_store.specs.{Kept.DeskState, Seats.HasSeen}
use Rattle.stream_store.proofs.opened.Store+Brand.open.Goals as goal

-- the version that the seats have seen is the desk's last
pub invariant_of-result : goal.invariant_of-result
invariant_of-result g c =
    subst (λ (v : VersionView). All (HasSeen c.in_ok-desk.desk.book v) c.in_ok-desk.seats.items)
    (sym (ap (λ (d : DeskState). d.desk.last) c.in_ok-desk.ensures.desk)) c.in_ok-desk.ensures.seats.1
