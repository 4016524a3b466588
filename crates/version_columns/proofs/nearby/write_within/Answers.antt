use Rattle.std.proofs.Common.{◌≡◌, ◌∙◌, ℕ, Option, Some, length, inr, sym, ap, subst}
use Rattle.graph_types.specs.Analyses.{Joins, LeadsTo}
use Rattle.graph_version.specs.Versions.{VersionView, content}
use Rattle.version_columns.specs.declared.nearby.Ways.{Ways}
use Rattle.version_columns.specs.{Nearby.{WritesNear, bound_in, near_columns, step_in, walked_version}, Views.filter_of}
use Rattle.version_columns.proofs.nearby.write_within.Goals as goal

pub returns-in-Along : goal.returns-in-Along
returns-in-Along c =
    let v : VersionView = c.in-Along.version.now in
    let f = c.in-Some.filter in
    let old = near_columns c.args.vertices.now c.args.levels.now in
    let new = near_columns c.write_near.new.vertices c.write_near.new.levels in
    let there : filter_of (content (walked_version c.args.ways.now)) c.args.view.now ≡ Some f =
    ap (λ (w : VersionView). filter_of (content w) c.args.view.now) (sym c.walked_version-version.ensures)
    ∙ sym c.filter_of.ensures ∙ c.in-Some.is in
    let near : WritesNear (length (content v).names) (LeadsTo f (content v)) c.args.sources.now (bound_in c.args.steps) old new
    c.write_near.new.count c.write_near.result =
    subst (λ (most : Option ℕ). WritesNear (length (content v).names) (LeadsTo f (content v)) c.args.sources.now most old new
    c.write_near.new.count c.write_near.result) c.bound_in-most.ensures c.write_near.ensures in
    inr (
      f,
      there,
      subst (λ (w : Ways). WritesNear (length (content (walked_version w)).names) (step_in w f) c.args.sources.now (bound_in c.args.steps)
          old new c.write_near.new.count c.write_near.result) (sym c.in-Along.is) near,
    )

pub returns-in-Against : goal.returns-in-Against
returns-in-Against c =
    let v : VersionView = c.in-Against.incoming.now in
    let f = c.in-Some.filter in
    let old = near_columns c.args.vertices.now c.args.levels.now in
    let new = near_columns c.write_near-in-Against.new.vertices c.write_near-in-Against.new.levels in
    let there : filter_of (content (walked_version c.args.ways.now)) c.args.view.now ≡ Some f =
    ap (λ (w : VersionView). filter_of (content w) c.args.view.now) (sym c.walked_version-version.ensures)
    ∙ sym c.filter_of.ensures ∙ c.in-Some.is in
    let near : WritesNear (length (content v).names) (λ a b. LeadsTo f (content v) b a) c.args.sources.now (bound_in c.args.steps) old new
    c.write_near-in-Against.new.count c.write_near-in-Against.result =
    subst (λ (most : Option ℕ). WritesNear (length (content v).names) (λ a b. LeadsTo f (content v) b a) c.args.sources.now most old new
    c.write_near-in-Against.new.count c.write_near-in-Against.result) c.bound_in-most.ensures c.write_near-in-Against.ensures in
    inr (
      f,
      there,
      subst (λ (w : Ways). WritesNear (length (content (walked_version w)).names) (step_in w f) c.args.sources.now (bound_in c.args.steps)
          old new c.write_near-in-Against.new.count c.write_near-in-Against.result) (sym c.in-Against.is) near,
    )

pub returns-in-EitherWay : goal.returns-in-EitherWay
returns-in-EitherWay c =
    let v : VersionView = c.in-EitherWay.incoming.now in
    let f = c.in-Some.filter in
    let old = near_columns c.args.vertices.now c.args.levels.now in
    let new = near_columns c.write_near-in-EitherWay.new.vertices c.write_near-in-EitherWay.new.levels in
    let there : filter_of (content (walked_version c.args.ways.now)) c.args.view.now ≡ Some f =
    ap (λ (w : VersionView). filter_of (content w) c.args.view.now) (sym c.walked_version-version.ensures)
    ∙ sym c.filter_of.ensures ∙ c.in-Some.is in
    let near : WritesNear (length (content v).names) (Joins f (content v)) c.args.sources.now (bound_in c.args.steps) old new
    c.write_near-in-EitherWay.new.count c.write_near-in-EitherWay.result =
    subst (λ (most : Option ℕ). WritesNear (length (content v).names) (Joins f (content v)) c.args.sources.now most old new
    c.write_near-in-EitherWay.new.count c.write_near-in-EitherWay.result) c.bound_in-most.ensures c.write_near-in-EitherWay.ensures in
    inr (
      f,
      there,
      subst (λ (w : Ways). WritesNear (length (content (walked_version w)).names) (step_in w f) c.args.sources.now (bound_in c.args.steps)
          old new c.write_near-in-EitherWay.new.count c.write_near-in-EitherWay.result) (sym c.in-EitherWay.is) near,
    )
