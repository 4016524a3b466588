-- At most one table of levels, of labels and of core numbers.
use Rattle.std.proofs.Common.{◌≡◌, ℕ, List, length, get_or, Option, sym, ◌∙◌, arith}
use Rattle.std.proofs.lemmas.{Option.slice_get-get_or, List.same_lists, Grind.common_steps}
use Rattle.graph_types.specs.{Graph.Graph, Analyses.IsLevel, Analyses.IsLabel, Analyses.IsCoreNumber, Analyses.IsTable}
use Rattle.graph_types.specs.{Tables.HaveOneTable, declared.ids.Filter.Filter}

-- where each vertex has at most one value, there is at most one table
same_table : {X : Type 0} (Is : ℕ → X → Type 0) → ((v : ℕ) (x y : X) → Is v x → Is v y → x ≡ y) → (n : ℕ) (a b : List X)
    → IsTable n Is a → IsTable n Is b → a ≡ b
same_table Is one n a b p q = same_lists a b (p.one_each ∙ sym q.one_each) (λ k d h.
    one k (get_or a k d) (get_or b k d) (p.each k (get_or a k d) (slice_get-get_or a k d h))
    (q.each k (get_or b k d) (slice_get-get_or b k d (omega (arith, p.one_each, q.one_each)))))

one_level : (f : Filter) (g : Graph) (source v : ℕ) (x y : Option ℕ) → IsLevel f g source v x → IsLevel f g source v y → x ≡ y
one_level f g source v h4 h5 p q = grind (arith, common_steps)

one_label : (f : Filter) (g : Graph) (v x y : ℕ) → IsLabel f g v x → IsLabel f g v y → x ≡ y
one_label f g v x y p q = omega (arith, p.1 y q.0, q.1 x p.0)

one_core : (f : Filter) (g : Graph) (v x y : ℕ) → IsCoreNumber f g v x → IsCoreNumber f g v y → x ≡ y
one_core f g v x y p q = omega (arith, p.1 y q.0, q.1 x p.0)

pub one_table : HaveOneTable
one_table = record {
  levels = λ f g source. same_table (IsLevel f g source) (one_level f g source) (length g.names);
  labels = λ f g. same_table (IsLabel f g) (one_label f g) (length g.names);
  cores = λ f g. same_table (IsCoreNumber f g) (one_core f g) (length g.names);
}
