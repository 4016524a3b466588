-- What is read of a version is a content.
use Rattle.graph_types.specs.declared.contents.Content.{Content}
use Rattle.std.proofs.Common.{refl, ◌≡◌, ◌≢◌, ℕ, ◌*◌, ◌≤◌, List, length, get_or, sym, ap, subst, ◌∙◌, arith, nat_abs}
use Rattle.std.{specs.Prelude.{All, AllPairs}, specs.FinMap.get, proofs.lemmas.List.take_all}
use Rattle.graph_types.specs.Graph.{Graph, key_of, stamp_of, map_of, graph_in, IsContent, IsContentIn, IsEdgeWithin}
use Rattle.graph_types.specs.Limits.{LimitsView, SumsFit, most_names, most_kinds}
use Rattle.graph_types.proofs.LimitsKept.{limits_left_by}
use Rattle.graph_types.{specs.declared.ids.Edge.Edge, proofs.Keys.{get_is, get_listed, find_listed}}
use Rattle.graph_types.proofs.ChangedContents.{same_within, sums_again, weights_again}
use Rattle.epoch_core.specs.declared.{states.Version.Version, session_states.SessionState.SessionState}
use Rattle.epoch_core.specs.{Posting.last_content, Machine.ReadsContent, Sound.IsNamed, Sound.IsSessionSound, Sound.IsSound}
use Rattle.epoch_core.specs.declared.session_states.SessionState.TheVariants.{Idle, Pinned, Holding, Asking}
use Rattle.epoch_core.specs.Worlds.{HasContents, World, last_blocks, last_graph, last_number, session_of}
use Rattle.epoch_core.specs.Versions.{IsContentGraph, AreEdgesOf, graph_of_opening, batches_at, blocks_at, content_with, edges_of, graph_at, version_at}

-- edges that show a content's graph are a content with its names and kinds
pub is_content : (v : Version) (es : List Edge) (g : Graph) → IsContentGraph g → v.names ≡ g.names → v.kinds ≡ g.kinds
    → AreEdgesOf es g → IsContentIn g.limits (content_with v es)
is_content v es g (c, within, same) names kinds shows =
    let is : IsContent c = within.content in
    let ns : v.names ≡ c.names = names ∙ sym (ap (λ h. h.names) same) in
    let ks : v.kinds ≡ c.kinds = kinds ∙ sym (ap (λ h. h.kinds) same) in
    let map : map_of es ≡ map_of c.edges = shows.same ∙ sym (ap (λ h. h.edges) same) in
    let content : IsContent (content_with v es) = record {
      names_distinct = subst (λ xs. AllPairs ◌≢◌ xs) (sym ns) is.names_distinct;
      kinds_distinct = subst (λ xs. AllPairs ◌≢◌ xs) (sym ks) is.kinds_distinct;
      names_few = subst (λ xs. length xs ≤ most_names) (sym ns) is.names_few;
      kinds_few = subst (λ xs. length xs ≤ most_kinds) (sym ks) is.kinds_few;
      keys_distinct = shows.once;
      edges_within = λ k d h.
          let e : Edge = get_or es k d in
          let (x, ((i, low, at), key, stamp)) = find_listed (key_of e) c.edges (stamp_of e)
          (sym (get_is (key_of e) c.edges) ∙ ap (λ m. get m (key_of e)) (sym map) ∙ get_listed es shows.once k d h) in
          let w : IsEdgeWithin (length c.names) (length c.kinds) x =
          subst (IsEdgeWithin (length c.names) (length c.kinds)) at (is.edges_within i x low) in
          subst (λ n. IsEdgeWithin n (length v.kinds) e) (ap length (sym ns))
          (subst (λ m. IsEdgeWithin (length c.names) m e) (ap length (sym ks)) (same_within _ _ x e key (sym stamp) w));
      sums_fit = subst (λ n. All (λ (e : Edge). SumsFit (n * length v.kinds) (nat_abs e.weight)) es) (ap length (sym ns))
          (subst (λ m. All (λ (e : Edge). SumsFit (length c.names * m) (nat_abs e.weight)) es) (ap length (sym ks))
          (sums_again c es (length c.names * length c.kinds) shows.once map is.sums_fit));
    } in
    record {
      content = content;
      names_few = subst (λ xs. length xs ≤ g.limits.names) (sym ns) within.names_few;
      kinds_few = subst (λ xs. length xs ≤ g.limits.kinds) (sym ks) within.kinds_few;
      weights_few = weights_again c es g.limits.weight shows.once map within.weights_few;
    }

-- the last version's content
pub last_is_content : (w : World) → IsSound w → HasContents w.opening w.versions
    → IsContentIn w.opening.limits (last_content w.opening w.heap w.versions)
last_is_content w sound contents =
    let named : IsNamed w (last_number w) = sound.named (last_number w) (omega arith) in
    subst (λ l. IsContentIn l (last_content w.opening w.heap w.versions)) (limits_left_by (batches_at w.versions (last_number w)) _)
    (is_content (version_at w.opening w.versions (last_number w)) (edges_of w.heap (last_blocks w)) (last_graph w)
    (contents (last_number w) (omega arith)) named.names named.kinds sound.shown)

-- what a session has read
reads_at : (w : World) (session : SessionState) → IsSound w → HasContents w.opening w.versions → IsSessionSound w session
    → ReadsContent w.opening w.versions session
reads_at w Idle sound contents p = tt
reads_at w (Pinned pin) sound contents p = tt
reads_at w (Holding hold) sound contents p = tt
reads_at w (Asking hold inquiry) sound contents p = λ all.
    let low : length (blocks_at w.opening w.versions hold.version) ≤ inquiry.next = grind (arith, all) in
    let named : IsNamed w hold.version = sound.named hold.version p.0.held_last in
    let whole : inquiry.read ≡ edges_of w.heap (blocks_at w.opening w.versions hold.version) =
    p.1 ∙ ap (edges_of w.heap) (take_all inquiry.next (blocks_at w.opening w.versions hold.version) low) in
    (is_content (version_at w.opening w.versions hold.version) inquiry.read (graph_at w.opening w.versions hold.version)
    (contents hold.version p.0.held_last) named.names named.kinds
    (subst (λ es. AreEdgesOf es (graph_at w.opening w.versions hold.version)) (sym whole) p.0.shown)).content

pub reads_content : (w : World) (s : ℕ) → IsSound w → HasContents w.opening w.versions
    → ReadsContent w.opening w.versions (session_of w s)
reads_content w s sound contents = reads_at w (session_of w s) sound contents (sound.sessions s)

-- the graph of a content within its limits
pub content_graph : (l : LimitsView) (c : Content) (g : Graph) → IsContentIn l c → graph_in l c ≡ g → IsContentGraph g
content_graph l c g is same = subst IsContentGraph same (c, is, refl)

-- the last version's names, kinds and edges, as its blocks show them, are the last graph
pub last_graph_is : (w : World) → IsSound w → graph_in w.opening.limits (last_content w.opening w.heap w.versions) ≡ last_graph w
last_graph_is w sound =
    let named : IsNamed w (last_number w) = sound.named (last_number w) (omega arith) in
    let limits = limits_left_by (batches_at w.versions (last_number w)) (graph_of_opening w.opening) in
    λ i. record { names = named.names i; kinds = named.kinds i; edges = sound.shown.same i; limits = sym limits i }
