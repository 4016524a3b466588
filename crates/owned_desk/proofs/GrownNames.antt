-- Batches keep the names and kinds that there are, and append others.
use Rattle.std.proofs.Common.{◌≡◌, ℕ, ◌≤◌, true, false, List, [], ◌∷◌, ◌++◌, length, refl, sym, ap, ◌∙◌}
use Rattle.std.specs.{List.list_any, Prelude.{bytes_eq, if◌then◌else◌}}
use mathlib.Core.List.{IsPrefix}
use Rattle.graph_types.specs.{Graph.Graph, Step.{with_name, makes_names, names_made, kinds_made, changed, after, after_all, left_by}}
use Rattle.graph_types.specs.declared.batches.NamedOp.{NamedOp, TheVariants.{Insert, Incr, Remove, Expire}}
use Rattle.graph_types.specs.declared.changes.EdgeChange.{EdgeChange, TheVariants.{Insert as ToInsert, Incr as ToIncr, Remove as ToRemove}}
use Rattle.graph_types.proofs.Prefixes.{prefix_self, prefix_shorter, prefix_trans}
use Rattle.graph_version.specs.Versions.{VersionView, content}
use Rattle.version_diff.specs.Pairs.{IsNamedAfter}

-- One name

with_more : (names : List (List ℕ)) (name : List ℕ) → IsPrefix names (with_name names name)
with_more names name = elim (list_any (bytes_eq name) names) as (λ t. IsPrefix names (if t then names else names ++ name ∷ [])) [
  | true ↦ prefix_self names
  | false ↦ (name ∷ [], refl)
]

made_more : (change : EdgeChange) (source target : List ℕ) (names : List (List ℕ))
    → IsPrefix names (names_made change source target names)
made_more change source target names = elim (makes_names change) as (λ t. IsPrefix names
    (if t then with_name (with_name names source) target else names)) [
      | true ↦ prefix_trans names (with_name names source) _ (with_more names source) (with_more (with_name names source) target)
      | false ↦ prefix_self names
    ]

kinds_more : (change : EdgeChange) (kind : List ℕ) (kinds : List (List ℕ)) → IsPrefix kinds (kinds_made change kind kinds)
kinds_more change kind kinds = elim (makes_names change) as (λ t. IsPrefix kinds (if t then with_name kinds kind else kinds)) [
  | true ↦ with_more kinds kind
  | false ↦ prefix_self kinds
]

-- Batches

-- a graph's names and kinds begin another's
record AreGrown (g h : Graph) : Type 0 where
  names : IsPrefix g.names h.names
  kinds : IsPrefix g.kinds h.kinds

grown_self : (g : Graph) → AreGrown g g
grown_self g = record { names = prefix_self g.names; kinds = prefix_self g.kinds }

grown_twice : (f g h : Graph) → AreGrown f g → AreGrown g h → AreGrown f h
grown_twice f g h one two = record {
  names = prefix_trans f.names g.names h.names one.names two.names;
  kinds = prefix_trans f.kinds g.kinds h.kinds one.kinds two.kinds;
}

changed_grown : (change : EdgeChange) (kind source target : List ℕ) (g : Graph) → AreGrown g (changed change kind source target g)
changed_grown change kind source target g =
    record { names = made_more change source target g.names; kinds = kinds_more change kind g.kinds }

after_grown : (op : NamedOp) (g : Graph) → AreGrown g (after op g)
after_grown (Insert kind source target weight time) g = changed_grown (ToInsert weight time g.limits.weight) kind source target g
after_grown (Incr kind source target amount time) g = changed_grown (ToIncr amount time g.limits.weight) kind source target g
after_grown (Remove kind source target) g = changed_grown ToRemove kind source target g
after_grown (Expire time) g = record { names = prefix_self g.names; kinds = prefix_self g.kinds }

all_grown : (ops : List NamedOp) (g : Graph) → AreGrown g (after_all ops g)
all_grown [] g = grown_self g
all_grown (op ∷ ops) g = grown_twice g (after op g) (after_all ops (after op g)) (after_grown op g) (all_grown ops (after op g))

left_grown : (batches : List (List NamedOp)) (g : Graph) → AreGrown g (left_by batches g)
left_grown [] g = grown_self g
left_grown (ops ∷ batches) g =
    grown_twice g (after_all ops g) (left_by batches (after_all ops g)) (all_grown ops g) (left_grown batches (after_all ops g))

pub left_twice : (before others : List (List NamedOp)) (g : Graph) → left_by (before ++ others) g ≡ left_by others (left_by before g)
left_twice [] others g = refl
left_twice (ops ∷ before) others g = left_twice before others (after_all ops g)

-- Versions

-- of two versions of one opening, with the first batches of the same list, the one with fewer is named before the other
pub named_after : (v w : VersionView) (batches x y : List (List NamedOp)) → v.opening ≡ w.opening → batches ≡ v.batches ++ x
    → batches ≡ w.batches ++ y → length v.batches ≤ length w.batches → IsNamedAfter v w
named_after v w batches x y opening of_v of_w fewer =
    let begins : IsPrefix v.batches w.batches =
    prefix_shorter v.batches w.batches batches (x, sym of_v) (y, sym of_w) fewer in
    let later : content w ≡ left_by begins.0 (content v) =
    ap (λ bs. left_by bs w.opening) (sym begins.1)
    ∙ (ap (left_by (v.batches ++ begins.0)) (sym opening) ∙ left_twice v.batches begins.0 v.opening) in
    let grown : AreGrown (content v) (left_by begins.0 (content v)) = left_grown begins.0 (content v) in
    record {
      names = (grown.names.0, ap (λ (g : Graph). g.names) later ∙ sym grown.names.1);
      kinds = (grown.kinds.0, ap (λ (g : Graph). g.kinds) later ∙ sym grown.kinds.1);
    }
