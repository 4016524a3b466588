use Rattle.std.proofs.Common.{◌≡◌, List, set, ap, ap₂, ◌∙◌}
use Rattle.std.proofs.lemmas.List.{map-set}
use Rattle.std.specs.{Prelude.{Option, option_map}, Arc.arc_value}
use Rattle.graph_version.specs.{declared.versions.Version.Version, Versions.VersionView}
use Rattle.owned_desk.specs.Kept.{KeptView}
use Rattle.owned_desk.proofs.kept.Kept.put.Goals as goal

pub returns : goal.returns
returns c =
    let kept = c.self.inside in
    let at : c.from.result ≡ c.args.seat = c.from.ensures ∙ c.number.ensures.value in
    let versions = map-set (option_map (arc_value {X = Version})) kept.versions c.from.result c.args.version
    ∙ ap₂ (λ (vs : List (Option VersionView)) n. set vs n (option_map (arc_value {X = Version}) c.args.version))
    (ap (λ (k : KeptView). k.versions) c.self.view_is) at in
    λ i. record { versions = versions i; touched = ap (λ (k : KeptView). k.touched) c.self.view_is i }
