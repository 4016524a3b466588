-- A version has fewer than 2 ^ 58 edges: at most one for each source and each place of its targets.
use Rattle.std.proofs.Common.{◌≡◌, ℕ, ◌^◌, ◌<◌, ◌≤◌, true, List, length, get_or, sym, ap, ◌∙◌}
use Rattle.std.proofs.Common.{arith, All}
use Rattle.std.{specs.{Option.is_some, FinMap.get}, proofs.lemmas.Grind.common_steps}
use Rattle.graph_types.specs.{Graph.key_of, declared.ids.Edge.Edge}
use Rattle.graph_types.{specs.Limits.{most_names, most_kinds}, proofs.LimitsKept.places_few}
use Rattle.graph_types.proofs.Keys.{get_listed, len_once}
use Rattle.graph_types.proofs.EdgeMaps.{few_edges}
use Rattle.graph_version.specs.Rows.{blocks_of}
use Rattle.graph_version.specs.{Versions.{VersionView, content, IsVersion}, Edges.edges_in_blocks, Kept.edge_total}
use Rattle.graph_version.proofs.Shown.{rows_each_once}

-- the rows of a version list as many edges as its content has
pub count_is_total : (v : VersionView) → IsVersion v → length (edges_in_blocks (blocks_of v.rows)) ≡ edge_total v
count_is_total v is = grind (arith, common_steps, rows_each_once, len_once)

pub few_total : (v : VersionView) → IsVersion v → edge_total v ≤ 2 ^ 58
few_total v is =
    let es : List Edge = edges_in_blocks (blocks_of v.rows) in
    let each = rows_each_once (content v) v.rows is.rows in
    let n : ℕ = length (content v).names in
    let m : ℕ = length (content v).kinds in
    let there : (j : ℕ) (d : Edge) → j < length es → is_some (get (content v).edges (key_of (get_or es j d))) ≡ true = λ j d lt.
    ap (λ m. is_some (get m (key_of (get_or es j d)))) (sym each.same) ∙ ap is_some (get_listed es each.once j d lt) in
    let kinds : All (λ (e : Edge). e.kind.0 < m) es = λ j d lt. (is.within (key_of (get_or es j d)) (there j d lt)).0 in
    let sources : All (λ (e : Edge). e.source.0 < n) es = λ j d lt. (is.within (key_of (get_or es j d)) (there j d lt)).1 in
    let targets : All (λ (e : Edge). e.target.0 < n) es = λ j d lt. (is.within (key_of (get_or es j d)) (there j d lt)).2 in
    let few_names : n ≤ most_names = omega (arith, is.small.names, is.small.limits.names) in
    let few_kinds : m ≤ most_kinds = omega (arith, is.small.kinds, is.small.limits.kinds) in
    let few = few_edges n m es each.once kinds sources targets few_names (places_few n m few_names few_kinds) in
    omega (arith, few, count_is_total v is)
