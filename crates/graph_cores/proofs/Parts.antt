-- Parts of lists of edges, and what is left to count.
use Rattle.std.proofs.Common.{◌≡◌, ◌≢◌, ℕ, true, ◌<◌, List, [], ◌++◌, length, append_assoc, append-nil}
use Rattle.std.proofs.Common.{sym, ap, ◌∙◌, subst}
use Rattle.graph_types.specs.{declared.ids.{Degree.Degree, Edge.Edge, Filter.Filter}, Graph.key_of, Limits.IsWeightIn}
use Rattle.graph_types.proofs.Elements.{AllPairs-left, all_left}
use Rattle.graph_cores.specs.Tallies.{passes, IsCounted, AreViewEdges, HasTallyRoom, Counts}

-- the first of edges of a view are such
pub first_edges : (f : Filter) (n : ℕ) (xs ys : List Edge) → AreViewEdges f n (xs ++ ys) → AreViewEdges f n xs
first_edges f n xs ys are = record {
  kind_count = are.kind_count;
  few = are.few;
  most_weight = are.most_weight;
  weights = all_left (λ e. IsWeightIn are.most_weight e.weight) xs ys are.weights;
  sums = are.sums;
  once = AllPairs-left (λ a b. key_of a ≢ key_of b) xs ys are.once;
  kinds = all_left (λ e. e.kind.0 < are.kind_count) xs ys are.kinds;
  sources = all_left (λ e. e.source.0 < n) xs ys are.sources;
  targets = all_left (λ e. e.target.0 < n) xs ys are.targets;
  seen = all_left (λ e. passes f e ≡ true) xs ys are.seen;
}

-- of all edges those left are still to be counted
abbrev pub IsBegun : Filter → List Edge → List Edge → List Degree → List Degree → Type 0
IsBegun f all left old table = (before : List Edge) → IsCounted f before old
    → (edges : List Edge) × IsCounted f edges table × (edges ++ left ≡ before ++ all)

pub begun_start : (f : Filter) (all left : List Edge) (table : List Degree) → left ≡ all → IsBegun f all left table table
begun_start f all left table same before is = (before, is, ap (λ es. before ++ es) same)

pub begun_end : (f : Filter) (all left : List Edge) (old table : List Degree) → left ≡ [] → IsBegun f all left old table
    → Counts f all old table
begun_end f all left old table none begun before is =
    let r = begun before is in
    subst (λ (es : List Edge). IsCounted f es table) (sym (append-nil r.0) ∙ ap (λ es. r.0 ++ es) (sym none) ∙ r.2) r.1

-- a piece of what is left has room, and once it is counted the rest is left
pub begun_room : (f : Filter) (all left piece rest : List Edge) (old table : List Degree) → left ≡ piece ++ rest
    → length table ≡ length old → HasTallyRoom f all old → IsBegun f all left old table → HasTallyRoom f piece table
begun_room f all left piece rest old table split long room begun =
    let r = begun room.0 room.1 in
    let whole : room.0 ++ all ≡ (r.0 ++ piece) ++ rest =
    sym r.2 ∙ ap (λ es. r.0 ++ es) split ∙ sym (append_assoc r.0 piece rest) in
    let are : AreViewEdges f (length old) ((r.0 ++ piece) ++ rest) = subst (AreViewEdges f (length old)) whole room.2 in
    (r.0, r.1, subst (λ n. AreViewEdges f n (r.0 ++ piece)) (sym long) (first_edges f (length old) (r.0 ++ piece) rest are))

pub begun_more : (f : Filter) (all left piece rest : List Edge) (old table new : List Degree) → left ≡ piece ++ rest
    → Counts f piece table new → IsBegun f all left old table → IsBegun f all rest old new
begun_more f all left piece rest old table new split counts begun before is =
    let r = begun before is in
    (r.0 ++ piece, counts r.0 r.1, append_assoc r.0 piece rest ∙ ap (λ es. r.0 ++ es) (sym split) ∙ r.2)
