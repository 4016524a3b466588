use Rattle.std.proofs.Common.{◌∙◌, ap}
use Rattle.graph_version.specs.{Versions.VersionView, Versions.content, Kept.vertex_book, Kept.kind_book}
use Rattle.graph_version.proofs.drafts.VersionDraft.over.Goals as goal

pub returns : goal.returns
returns c =
    let names = c.in_ok-share.ensures ∙ c.version.invariant.names_are
    ∙ ap (λ (v : VersionView). vertex_book (content v)) c.version.view_is in
    let kinds = c.in_ok-share-2.ensures ∙ c.version.invariant.kinds_are
    ∙ ap (λ (v : VersionView). kind_book (content v)) c.version.view_is in
    rw (names, kinds) at c.over_named.ensures
