-- Lines, sums and maxima over rows of names and values, one vertex after another.
use Rattle.std.proofs.Common.{◌≡◌, ℕ, ◌+◌, ◌<◌, List, [], ◌∷◌, ◌++◌, length, min, max, take}
use Rattle.std.proofs.Common.{get_or, map, append_assoc, append-nil, arith, refl, sym, ap, ◌∙◌}
use Rattle.std.proofs.lemmas.Grind.{flat_map-append}
use Rattle.std.proofs.lemmas.List.{map_more, get_or_default, Sums.fold-append}
use Rattle.std.specs.Prelude.{Option, zip}
use Rattle.std.specs.{List.flat_map, List.filter_map, Option.option_to_list}
use Rattle.graph_types.specs.{Answer.level_row, declared.ids.VertexId.VertexId}
use Rattle.graph_types.proofs.AnalysisReplies.{next_pair, levels_more}
use Rattle.script_lines.specs.Lines.{greatest, number_line}

-- the greatest number of one row more
pub greatest_more : (names : List (List ℕ)) (numbers : List ℕ) (most k : ℕ) → most ≡ greatest (take k (zip names numbers))
    → k < min (length names) (length numbers)
    → max most (get_or numbers k 0) ≡ greatest (take (k + 1) (zip names numbers))
greatest_more names numbers most k is within =
    let x = get_or names k [] in
    let y = get_or numbers k 0 in
    ap (λ n. max n y) is
    ∙ sym (fold-append (λ n entry. max n entry.1) 0 (take k (zip names numbers)) ((x, y) ∷ []))
    ∙ ap greatest (sym (next_pair names numbers k x [] y (omega arith) (omega arith) refl
    (get_or_default numbers k 0 y (omega arith))))

pub level_lines_more : (names : List (List ℕ)) (levels : List (Option ℕ)) (start lines new : List ℕ) (k : ℕ) (d : Option ℕ)
    (x : List ℕ) → x ≡ get_or names k []
    → lines ≡ start ++ flat_map number_line (filter_map level_row (take k (zip names levels)))
    → new ≡ lines ++ flat_map number_line (option_to_list (level_row (x, get_or levels k d)))
    → k < min (length names) (length levels)
    → new ≡ start ++ flat_map number_line (filter_map level_row (take (k + 1) (zip names levels)))
level_lines_more names levels start lines new k d x name is written within =
    let before = filter_map level_row (take k (zip names levels)) in
    let row = option_to_list (level_row (get_or names k [], get_or levels k d)) in
    written ∙ ap (λ n. lines ++ flat_map number_line (option_to_list (level_row (n, get_or levels k d)))) name
    ∙ ap (λ text. text ++ flat_map number_line row) is
    ∙ append_assoc start (flat_map number_line before) (flat_map number_line row)
    ∙ ap (λ text. start ++ text) (sym (flat_map-append number_line before row))
    ∙ ap (λ rows. start ++ flat_map number_line rows) (levels_more names levels k d within)

-- one row more of a vertex that was reached
pub reached_lines_more : (names : List (List ℕ)) (rows : List (VertexId × ℕ)) (start lines new : List ℕ) (k : ℕ)
    (d : VertexId × ℕ) (x : List ℕ) → x ≡ get_or names (get_or rows k d).0.0 []
    → lines ≡ start ++ flat_map number_line (map (λ row. (get_or names row.0.0 [], row.1)) (take k rows))
    → new ≡ lines ++ number_line (x, (get_or rows k d).1) → k < length rows
    → new ≡ start ++ flat_map number_line (map (λ row. (get_or names row.0.0 [], row.1)) (take (k + 1) rows))
reached_lines_more names rows start lines new k d x name is written lt =
    let level = (get_or rows k d).1 in
    let row : List (List ℕ × ℕ) = named (get_or rows k d) ∷ [] in
    let before = map named (take k rows) in
    written ∙ ap (λ n. lines ++ number_line (n, level)) name
    ∙ ap (λ text. lines ++ text) (sym (append-nil (number_line (named (get_or rows k d)))))
    ∙ ap (λ text. text ++ flat_map number_line row) is
    ∙ append_assoc start (flat_map number_line before) (flat_map number_line row)
    ∙ ap (λ text. start ++ text) (sym (flat_map-append number_line before row))
    ∙ ap (λ rs. start ++ flat_map number_line rs) (sym (map_more named rows k d lt)) where
      named : VertexId × ℕ → List ℕ × ℕ
      named row = (get_or names row.0.0 [], row.1)
