use Rattle.std.proofs.{Common.{◌≡◌, map, length, refl, sym, ap, subst, ◌∙◌, arith, All}, lemmas.List.length-map}
use Rattle.graph_version.specs.Versions.{VersionView}
use Rattle.stream_store.{specs.Seats.SeatView, specs.Seats.HasSeen, proofs.Seated.new_seats}
use Rattle.stream_store.proofs.opening.shelf_and_seats.Goals as goal

pub returns-clause-seats : goal.returns-clause-seats
returns-clause-seats g c =
    let same : map (λ (s : SeatView). s.seen) c.in_ok-seats.seats.items ≡ c.in-Ok.parts.1.items =
    c.in_ok-seats.ensures.seen in
    let count : length c.in-Ok.parts.1.items ≡ c.args.count = omega (arith, c.in-Ok.ensures.count) in (
      sym (length-map c.in_ok-seats.seats.items (λ (s : SeatView). s.seen)) ∙ ap length same ∙ count,
      subst (λ (v : VersionView). All (HasSeen c.in-Ok.parts.0.book v) c.in_ok-seats.seats.items) c.in_ok-shown.ensures
          (new_seats _ _ _ c.in_ok-seats.seats.items c.in-Ok.parts.1.items same c.in-Ok.ensures.readers refl),
    )
