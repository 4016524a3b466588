use Rattle.std.proofs.Common.{◌≡◌, ◌++◌, ◌∙◌, List, ℕ, [], sym, ap, subst}
use Rattle.std.specs.{Prelude.◌↔◌, List.Contains}
use Rattle.graph_types.specs.{Analyses.LeadsTo, declared.ids.Edge.Edge}
use Rattle.graph_version.specs.Versions.{content}
use Rattle.graph_walks.specs.ByTarget.{edges_of_version, sources_shown}
use Rattle.graph_version.specs.InEdges.{edges_into}
use Rattle.graph_walks.proofs.Sources.{sources_lead}
use Rattle.graph_walks.proofs.backward.AgainstSteps.list_next.Goals as goal

pub returns : goal.returns
returns c =
    let v = c.args.self.now.incoming.now in
    let f = c.args.self.now.filter in
    let vertex = c.args.vertex in
    let whole : c.push_sources.new.sources.items ≡ sources_shown f (edges_into vertex (edges_of_version v)) =
    c.in_ok-push_sources.ensures
    ∙ ap (λ (xs : List ℕ). xs ++ sources_shown f c.edges_to.result.now) c.clear.ensures.items
    ∙ ap (λ (es : List Edge). sources_shown f es) c.edges_to.ensures.edges in
    λ b. subst (λ (xs : List ℕ). Contains xs b ↔ LeadsTo f (content v) b vertex) (sym whole)
    (sources_lead (content v) f (edges_of_version v) c.edges_to.ensures.once vertex b)
