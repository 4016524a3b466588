-- What one more makes of a list: of a range, of the batches that left a graph, of an answer's rows.
use Rattle.std.proofs.Common.{◌≡◌, ℕ, ◌+◌, List, [], ◌∷◌, ◌++◌, None, Some, refl, sym, ap, ◌∙◌, arith}
use Rattle.std.proofs.lemmas.List.{map-id, FromFn.map-range_with_len_more}
use Rattle.std.specs.{Prelude.Option, Prelude.filter_map, List.{range_with_len, cons_option}, Option.option_to_list}
use Rattle.graph_types.specs.{Graph.Graph, Step.{after_all, left_by}, Answer.level_row, declared.batches.NamedOp.NamedOp}

pub range_more : (n : ℕ) → range_with_len 0 (n + 1) ≡ range_with_len 0 n ++ n ∷ []
range_more n = sym (map-id (range_with_len 0 (n + 1))) ∙ map-range_with_len_more (λ x. x) 0 n n (omega arith)
    ∙ ap (λ xs. xs ++ n ∷ []) (map-id (range_with_len 0 n))

pub left_more : (bs : List (List NamedOp)) (b : List NamedOp) (g : Graph) → left_by (bs ++ b ∷ []) g ≡ after_all b (left_by bs g)
left_more [] b g = refl
left_more (x ∷ bs) b g = left_more bs b (after_all x g)

pub kept_row : (row : List ℕ × Option ℕ) → filter_map level_row (row ∷ []) ≡ option_to_list (level_row row)
kept_row row = elim (level_row row) as (λ o. cons_option o [] ≡ option_to_list o) [ None ↦ refl | Some x ↦ refl ]
