-- Versions, and what a new one leaves of the older.
use Rattle.std.proofs.Common.{◌≡◌, ℕ, zero, suc, ◌≤◌, List, [], ◌∷◌, ◌++◌, length, map, refl, ap, ◌∙◌, arith, add-one}
use Rattle.std.proofs.lemmas.{List.{take-append-le, take_all, map-append, length_push}, Grind.common_steps}
use Rattle.std.specs.Option.{unwrap_or}
use Rattle.graph_types.{specs.Step.after_all, proofs.More.left_more}
use Rattle.graph_types.proofs.ListPlaces.{get_before, get_last}
use Rattle.epoch_core.specs.declared.states.{Version.Version, Opening.Opening}
use Rattle.epoch_core.specs.Versions.{batches_at, graph_at, left, version_at, version_zero}

pub length_next : (vs : List Version) (v : Version) → length (vs ++ v ∷ []) ≡ suc (length vs)
length_next vs v = length_push vs v ∙ add-one (length vs)

pub version_before : (o : Opening) (vs : List Version) (v : Version) (n : ℕ) → n ≤ length vs → version_at o (vs ++ v ∷ []) n
    ≡ version_at o vs n
version_before o vs v zero h = refl
version_before o vs v (suc n) h = ap (λ found. unwrap_or found (version_zero o)) (get_before vs (v ∷ []) n (omega arith))

pub graph_before : (o : Opening) (vs : List Version) (v : Version) (n : ℕ) → n ≤ length vs → graph_at o (vs ++ v ∷ []) n
    ≡ graph_at o vs n
graph_before o vs v n h = ap (λ us. left o (map (λ u. u.batch) us)) (take-append-le n vs (v ∷ []) h)

pub version_next : (o : Opening) (vs : List Version) (v : Version) → version_at o (vs ++ v ∷ []) (length (vs ++ v ∷ [])) ≡ v
version_next o vs v = ap (version_at o (vs ++ v ∷ [])) (length_next vs v)
    ∙ ap (λ found. unwrap_or found (version_zero o)) (get_last vs v)

pub batches_all : (vs : List Version) → batches_at vs (length vs) ≡ map (λ v. v.batch) vs
batches_all vs = ap (map (λ v. v.batch)) (take_all (length vs) vs (omega arith))

pub graph_next : (o : Opening) (vs : List Version) (v : Version) → graph_at o (vs ++ v ∷ []) (length (vs ++ v ∷ []))
    ≡ after_all v.batch (graph_at o vs (length vs))
graph_next o vs v = grind (arith, common_steps, batches_all, map-append, left_more)
