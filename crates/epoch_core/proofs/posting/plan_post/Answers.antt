-- What the batch leaves of the last content is what it leaves of the last version's graph.
use Rattle.std.proofs.Common.{◌≡◌, ◌∙◌, length, true, Option, Some, ap, ap₂, subst, rules}
use Rattle.std.specs.Prelude.{◌&&◌, nat_lt, MatchOption, IsTrue, IsFalse}
use Rattle.graph_types.specs.{Graph.{Graph, graph_in, graph_of}, Step.after_all, declared.contents.Content.Content}
use Rattle.graph_types.proofs.ChangedContents.{within_graph}
use Rattle.epoch_core.specs.declared.states.{Version.Version, Opening.Opening}
use Rattle.epoch_core.specs.{Blocks.all_differ, Posting.{IsContentAfter, all_listable, are_edges_of, graph_after}}
use Rattle.epoch_core.specs.Versions.{blocks_at, edges_of}
use Rattle.epoch_core.proofs.Read.{content_graph}
use Rattle.epoch_core.proofs.posting.plan_post.Goals as goal

pub returns : goal.returns
returns c =
    let o : Opening = c.args.opening.now in
    let versions = c.args.versions.now in
    let batch = c.args.batch.now in
    let blocks = c.args.blocks.now in
    let g : Graph = graph_after o versions batch in
    let content : Content = c.in-Some.content in
    let edges = edges_of c.args.heap.now blocks in
    let applied : IsContentAfter o.limits c.in_ok-last.last batch (Some content) =
    subst (IsContentAfter o.limits c.in_ok-last.last batch) c.in-Some.is c.in_ok-content.ensures in
    let same : graph_in o.limits content ≡ g = applied.1
    ∙ ap (λ l. after_all batch (graph_in o.limits l)) c.in_ok-last.ensures ∙ ap (after_all batch) c.requires.graph in
    let made = subst (λ (m : Option Version). MatchOption m (IsFalse (are_edges_of (graph_of content) edges))
    (λ v. IsTrue (are_edges_of (graph_of content) edges)
    × (v ≡ record { batch = batch; blocks = blocks; names = content.names; kinds = content.kinds }))) c.in-Some-2.is
    c.in_ok-version.ensures in
    let listed : (nat_lt (length versions) o.limits.batches
    && all_listable c.args.status.now (blocks_at o versions (length versions)) blocks && all_differ blocks) ≡ true =
    search rules in
    let shown : are_edges_of g edges ≡ true = subst (λ (h : Graph). are_edges_of h edges ≡ true) same made.0 in (
      ap₂ ◌&&◌ (ap₂ ◌&&◌ listed (within_graph o.limits content g applied.0 same)) shown,
      search rules,
      made.1 ∙ (λ i. record { batch = batch; blocks = blocks; names = (same i).names; kinds = (same i).kinds }),
      content_graph o.limits content g applied.0 same,
    )
