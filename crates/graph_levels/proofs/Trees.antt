-- Changes of trees that keep what they say.
use Rattle.std.proofs.Common.{◌≡◌, ℕ, ◌+◌, ◌<◌, ◌≤◌, arith, sym, ap, ◌∙◌, subst, inl, inr, List, length, get_or, set}
use Rattle.std.proofs.lemmas.{Bool.{cases_eq, cases_lt}, List.{get_or-set_same, get_or-set_other, get_or_default, get_or_past}}
use Rattle.std.{proofs.lemmas.List.FromFn.{length-range_with_len, get_or-range_with_len}, specs.List.range_with_len}
use Rattle.std.proofs.lemmas.Grind.{common_steps}
use Rattle.graph_types.specs.{Graph.Graph, Analyses.Connects, declared.ids.Filter.Filter}
use Rattle.graph_types.proofs.Walks.{then, itself}
use Rattle.graph_levels.specs.Forest.{parent, IsForest, IsSoundForest, Respects}

-- a read of a place within
pub read : (ps : List ℕ) (v : ℕ) → v < length ps → get_or ps v 0 ≡ parent ps v
read ps v lt = get_or_default ps v 0 v lt

pub parent_set_same : (ps : List ℕ) (v a : ℕ) → v < length ps → parent (set ps v a) v ≡ a
parent_set_same ps v a lt = get_or-set_same ps v a v lt

pub parent_set_other : (ps : List ℕ) (v a w : ℕ) → (w ≡ v → ⊥) → parent (set ps v a) w ≡ parent ps w
parent_set_other ps v a w ne = get_or-set_other ps v w a w ne

-- a parent that is no greater
pub forest_set : (ps : List ℕ) (v a : ℕ) → v < length ps → a ≤ v → IsForest ps → IsForest (set ps v a)
forest_set ps v a lt le low = grind (arith, common_steps, cases_eq, parent_set_same, parent_set_other)

-- a parent that walks join
pub sound_set : (f : Filter) (g : Graph) (ps : List ℕ) (v a : ℕ) → v < length ps → Connects f g a v → IsSoundForest f g ps
    → IsSoundForest f g (set ps v a)
sound_set f g ps v a lt c sound = λ w. elim (cases_eq w v) [
  | inl e ↦ subst (λ x. Connects f g (parent (set ps v a) x) x) (sym e)
      (subst (λ x. Connects f g x v) (sym (parent_set_same ps v a lt)) c)
  | inr ne ↦ subst (λ x. Connects f g x w) (sym (parent_set_other ps v a w ne)) (sound w)
]

-- the parent's parent in place of the parent
pub respects_halved : (ps : List ℕ) (v : ℕ) (label : ℕ → ℕ) → v < length ps → Respects (set ps v (parent ps (parent ps v))) label
    → Respects ps label
respects_halved ps v label lt new = grind (arith, common_steps, cases_eq, parent_set_same, parent_set_other)

-- a root put below another vertex
pub respects_linked : (ps : List ℕ) (r a : ℕ) (label : ℕ → ℕ) → r < length ps → parent ps r ≡ r → Respects (set ps r a) label
    → Respects ps label
respects_linked ps r a label lt root new = λ w. elim (cases_eq w r) [
  | inl e ↦ ap label e ∙ ap label (sym root) ∙ ap (λ x. label (parent ps x)) (sym e)
  | inr ne ↦ new w ∙ ap label (parent_set_other ps r a w ne)
]

pub linked_same : (ps : List ℕ) (r a : ℕ) (label : ℕ → ℕ) → r < length ps → Respects (set ps r a) label → label r ≡ label a
linked_same ps r a label lt new = new r ∙ ap label (parent_set_same ps r a lt)

-- all vertices below i are right below their roots
abbrev pub FlatBelow : List ℕ → ℕ → Type 0
FlatBelow ps i = (v : ℕ) → v < i → parent ps (parent ps v) ≡ parent ps v

pub flat_more : (ps : List ℕ) (i : ℕ) → i < length ps → IsForest ps → FlatBelow ps i
    → FlatBelow (set ps i (parent ps (parent ps i))) (i + 1)
flat_more ps i lt low flat = grind (arith, common_steps, cases_eq, parent_set_same, parent_set_other)

-- the parent's parent, as the code reads it
abbrev pub up : List ℕ → ℕ → ℕ
up ps v = get_or ps (get_or ps v 0) 0

pub up_is : (ps : List ℕ) (v : ℕ) → v < length ps → IsForest ps
    → (up ps v ≡ parent ps (parent ps v)) × (get_or ps v 0 ≡ parent ps v) × (parent ps v ≤ v) × (up ps v ≤ parent ps v)
up_is ps v lt low = grind (arith, common_steps, read)

pub halved_forest : (ps : List ℕ) (v : ℕ) → v < length ps → IsForest ps → IsForest (set ps v (up ps v))
halved_forest ps v lt low = let u = up_is ps v lt low in forest_set ps v (up ps v) lt (omega arith) low

pub halved_respects : (ps : List ℕ) (v : ℕ) (label : ℕ → ℕ) → v < length ps → IsForest ps → Respects (set ps v (up ps v)) label
    → Respects ps label × (label v ≡ label (up ps v))
halved_respects ps v label lt low new =
    let u = up_is ps v lt low in
    let e = u.0 in
    let old : Respects ps label = respects_halved ps v label lt (subst (λ x. Respects (set ps v x) label) e new) in
    (old, linked_same ps v (up ps v) label lt new)

pub halved_connects : (f : Filter) (g : Graph) (ps : List ℕ) (v : ℕ) → v < length ps → IsForest ps → IsSoundForest f g ps
    → Connects f g (up ps v) v
halved_connects f g ps v lt low sound =
    let u = up_is ps v lt low in
    subst (λ x. Connects f g x v) (sym u.0) (then f g _ _ _ (sound (parent ps v)) (sound v))

pub halved_sound : (f : Filter) (g : Graph) (ps : List ℕ) (v : ℕ) → v < length ps → IsForest ps → IsSoundForest f g ps
    → IsSoundForest f g (set ps v (up ps v))
halved_sound f g ps v lt low sound = sound_set f g ps v (up ps v) lt (halved_connects f g ps v lt low sound) sound

pub halved_flat : (ps : List ℕ) (i : ℕ) → i < length ps → IsForest ps → FlatBelow ps i → FlatBelow (set ps i (up ps i)) (i + 1)
halved_flat ps i lt low flat = grind (arith, common_steps, up_is, flat_more)

-- a root stays one
pub halved_roots : (ps : List ℕ) (v w : ℕ) → v < length ps → parent ps w ≡ w → parent (set ps v (up ps v)) w ≡ w
halved_roots ps v w lt root = grind (arith, common_steps, cases_eq, read, parent_set_same, parent_set_other)

-- each vertex is its own parent
pub fresh : (n v : ℕ) → parent (range_with_len 0 n) v ≡ v
fresh n v = grind (arith, common_steps, cases_lt, get_or-range_with_len, length-range_with_len, get_or_past)

pub fresh_forest : (n : ℕ) (ps : List ℕ) → ps ≡ range_with_len 0 n → IsForest ps
fresh_forest n ps e = λ v. let f = fresh n v in let same = ap (λ xs. parent xs v) e in omega arith

pub fresh_sound : (f : Filter) (g : Graph) (n : ℕ) (ps : List ℕ) → ps ≡ range_with_len 0 n → IsSoundForest f g ps
fresh_sound f g n ps e = λ v. subst (λ x. Connects f g x v) (sym (ap (λ xs. parent xs v) e ∙ fresh n v)) (itself f g v)
