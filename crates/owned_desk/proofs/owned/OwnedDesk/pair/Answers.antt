use Rattle.std.proofs.Common.{◌≡◌, sym, subst, rules}
use Rattle.std.specs.Arc.{arc_value}
use Rattle.graph_version.specs.{declared.versions.Version.Version, Differences.DifferAt, Rows.row_of, Versions.VersionView}
use Rattle.version_diff.specs.Pairs.{AreSameByNumber, IsNamedAfter}
use Rattle.owned_desk.specs.Owned.{OwnedView, KeepsOwned}
use Rattle.owned_desk.proofs.HeldPairs.{held_alike, held_differ, held_named}
use Rattle.owned_desk.proofs.owned.OwnedDesk.pair.Goals as goal

pub of-requires-clause-named : goal.of-requires-clause-named
of-requires-clause-named c =
    let earlier : arc_value {X = Version} c.in_ok-earlier.earlier ≡ arc_value {X = Version} c.in-Some.earlier.now = search rules in
    let later : arc_value {X = Version} c.in_ok-later.later ≡ arc_value {X = Version} c.in-Some-version_of.later.now = search rules in
    let keeps : KeepsOwned c.args.self.now c.self.inside.kept.touched =
    subst (λ (o : OwnedView). KeepsOwned o c.self.inside.kept.touched) c.self.view_is c.self.invariant in
    subst (λ (v : VersionView). IsNamedAfter v (arc_value {X = Version} c.in_ok-later.later)) (sym earlier)
    (subst (λ (w : VersionView). IsNamedAfter (arc_value {X = Version} c.in-Some.earlier.now) w) (sym later)
    (held_named c.args.self.now c.self.inside.kept.touched c.args.first c.args.second _ _ keeps c.in-Some.ensures
    c.in-Some-version_of.ensures c.if-second-first.false))

pub of-requires-clause-alike : goal.of-requires-clause-alike
of-requires-clause-alike c = λ source.
    let earlier : arc_value {X = Version} c.in_ok-earlier.earlier ≡ arc_value {X = Version} c.in-Some.earlier.now = search rules in
    let later : arc_value {X = Version} c.in_ok-later.later ≡ arc_value {X = Version} c.in-Some-version_of.later.now = search rules in
    let keeps : KeepsOwned c.args.self.now c.self.inside.kept.touched =
    subst (λ (o : OwnedView). KeepsOwned o c.self.inside.kept.touched) c.self.view_is c.self.invariant in
    subst (λ (v : VersionView). AreSameByNumber (row_of v.rows source) (row_of (arc_value {X = Version} c.in_ok-later.later).rows source))
    (sym earlier)
    (subst (λ (w : VersionView). AreSameByNumber (row_of (arc_value {X = Version} c.in-Some.earlier.now).rows source) (row_of w.rows source))
    (sym later) (held_alike c.args.self.now c.self.inside.kept.touched c.args.first c.args.second _ _ keeps c.in-Some.ensures
    c.in-Some-version_of.ensures source))

pub of-requires-clause-differ : goal.of-requires-clause-differ
of-requires-clause-differ c =
    let earlier : arc_value {X = Version} c.in_ok-earlier.earlier ≡ arc_value {X = Version} c.in-Some.earlier.now = search rules in
    let later : arc_value {X = Version} c.in_ok-later.later ≡ arc_value {X = Version} c.in-Some-version_of.later.now = search rules in
    let keeps : KeepsOwned c.args.self.now c.self.inside.kept.touched =
    subst (λ (o : OwnedView). KeepsOwned o c.self.inside.kept.touched) c.self.view_is c.self.invariant in
    subst (λ (v : VersionView). DifferAt c.in_ok-sources.sources.items v.rows (arc_value {X = Version} c.in_ok-later.later).rows)
    (sym earlier)
    (subst (λ (w : VersionView). DifferAt c.in_ok-sources.sources.items (arc_value {X = Version} c.in-Some.earlier.now).rows w.rows)
    (sym later) (held_differ c.args.self.now c.self.inside.kept.touched c.args.first c.args.second _ _ keeps c.in-Some.ensures
    c.in-Some-version_of.ensures c.in_ok-sources.sources.items c.if-second-first.false c.in_ok-sources.ensures))
