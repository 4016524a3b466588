use Rattle.std.proofs.Common.{◌≡◌, ◌++◌, ◌∙◌, List, ℕ, sym, ap, subst}
use Rattle.std.specs.{Prelude.◌↔◌, List.Contains}
use Rattle.graph_types.specs.{Analyses.{Joins, LeadsTo}, declared.ids.Edge.Edge}
use Rattle.graph_version.specs.Versions.{VersionView, content}
use Rattle.graph_walks.specs.ByTarget.{edges_of_version, sources_shown}
use Rattle.graph_version.specs.InEdges.{edges_into}
use Rattle.graph_walks.proofs.Sources.{both_join}
use Rattle.graph_walks.proofs.backward.EitherWaySteps.list_next.Goals as goal

pub returns : goal.returns
returns c =
    let v = c.args.self.now.incoming.now in
    let f = c.args.self.now.filter in
    let vertex = c.args.vertex in
    let targets : List ℕ = c.list_targets.new.targets.items in
    let lead : (b : ℕ) → Contains targets b ↔ LeadsTo f (content v) vertex b =
    subst (λ (w : VersionView). (b : ℕ) → Contains targets b ↔ LeadsTo f (content w) vertex b) c.version.ensures
    c.in_ok-list_targets.ensures in
    let whole : c.push_sources.new.sources.items ≡ targets ++ sources_shown f (edges_into vertex (edges_of_version v)) =
    c.in_ok-push_sources.ensures ∙ ap (λ (es : List Edge). targets ++ sources_shown f es) c.edges_to.ensures.edges in
    λ b. subst (λ (xs : List ℕ). Contains xs b ↔ Joins f (content v) vertex b) (sym whole)
    (both_join (content v) f (edges_of_version v) c.edges_to.ensures.once vertex targets lead b)
