-- Walks: put together, turned, and along steps of another kind.
use Rattle.std.proofs.Common.{ℕ, zero, suc, refl, sym, subst, inl, inr, ◌≡◌, ap, ◌∙◌, ◌≤◌, arith}
use Rattle.graph_types.specs.{Graph.Graph, Analyses.Joins, Analyses.Walk, Analyses.Connects, declared.ids.Filter.Filter}
use Rattle.graph_types.specs.Analyses.{IsLabel}

-- where each step of one kind is one of another, so is a walk
pub walk_map : (P Q : ℕ → ℕ → Type 0) → ((a b : ℕ) → P a b → Q a b) → (a b n : ℕ) → Walk P a b n → Walk Q a b n
walk_map P Q h a b zero w = w
walk_map P Q h a b (suc n) w = (w.0, walk_map P Q h a w.0 n w.1, h w.0 b w.2)

-- a walk, and one from where it ends
pub joined : (P : ℕ → ℕ → Type 0) (m n a b c : ℕ) → Walk P a b m → Walk P b c n → (k : ℕ) × Walk P a c k
joined P m zero a b c p q = (m, subst (λ x. Walk P a x m) q p)
joined P m (suc n) a b c p q = let r = joined P m n a b q.0 p q.1 in (suc r.0, (q.0, r.1, q.2))

module _ (f : Filter) (g : Graph) where
  other_way : (a b : ℕ) → Joins f g a b → Joins f g b a
  other_way a b j = elim j [ inl x ↦ inr x | inr x ↦ inl x ]

  pub back : (n a b : ℕ) → Walk (Joins f g) a b n → Connects f g b a
  back zero a b p = (0, sym p)
  back (suc n) a b p =
      let rest = back n a p.0 p.1 in
      let step : Walk (Joins f g) b p.0 1 = (b, refl, other_way p.0 b p.2) in
      joined (Joins f g) 1 rest.0 b p.0 a step rest.1

module _ (f : Filter) (g : Graph) where
  pub itself : (a : ℕ) → Connects f g a a
  itself a = (0, refl)

  pub then : (a b c : ℕ) → Connects f g a b → Connects f g b c → Connects f g a c
  then a b c p q = joined (Joins f g) p.0 q.0 a b c p.1 q.1

  pub one_step : (a b : ℕ) → Joins f g a b → Connects f g a b
  one_step a b j = (1, (a, refl, j))

  pub backward : (a b : ℕ) → Connects f g a b → Connects f g b a
  backward a b p = back f g p.0 a b p.1

module _ (f : Filter) (g : Graph) where
  module _ (label : ℕ → ℕ) (sound : (v : ℕ) → Connects f g (label v) v) (low : (v : ℕ) → label v ≤ v)
      (closed : (u v : ℕ) → Joins f g u v → label u ≡ label v) where
    along : (n u v : ℕ) → Walk (Joins f g) u v n → label u ≡ label v
    along zero u v w = ap label w
    along (suc n) u v w = along n u w.0 w.1 ∙ closed w.0 v w.2

    -- each label is joined, no greater, and the same along edges: such a table has the labels
    pub are_labels : (v : ℕ) → IsLabel f g v (label v)
    are_labels v = (sound v, λ w c. let same = along c.0 w v c.1 in let below = low w in omega arith)
