-- Answers of the analyses, row by row, with names, and the refusals that stay where a vertex is asked for too.
use Rattle.std.proofs.Common.{◌≡◌, ℕ, ◌+◌, ◌<◌, min, Bool, true, false, cond, ◌≢◌, ◌⊎◌, List, [], ◌∷◌, ◌++◌, length, get_or, take}
use Rattle.std.proofs.Common.{Some, None, Option, inl, inr, length-append, refl, sym, ap, ◌∙◌, arith}
use Rattle.std.proofs.lemmas.{Grind.common_steps, List.{length-map, get_or_default, get_or-map, take_more, take_all}}
use Rattle.std.proofs.lemmas.{List.Elements.filter_map-append, Option.slice_get-get_or, Slice.Zip.{length-zip, get_or-zip}}
use Rattle.std.specs.{List.filter_map, Option.option_to_list, Prelude.{All, zip, position, bytes_eq, Ok, Result, Err, is_some}}
use mir.Val.{bool_byte}
use Rattle.graph_types.specs.Analyses.{AreLabels, AreLevels, AreCoreNumbers}
use Rattle.graph_types.specs.Answer.{names_of_vertices, first_refusal, level_row, reached, IsAnswer, resolved_filter}
use Rattle.graph_types.specs.{Answer.filter_refusal, Graph.{Graph, graph_of}, declared.contents.Content.Content}
use Rattle.graph_types.specs.declared.{ids.Filter.Filter, requests.AskError.{AskError, TheVariants.{NoVertex, OutOfMemory}}}
use Rattle.graph_types.specs.declared.requests.{NamedFilter.NamedFilter, Reply.{Reply, TheVariants.{Levels, Labels, Cores}}}
use Rattle.graph_types.specs.declared.requests.Request.{Request}
use Rattle.graph_types.specs.declared.requests.Request.TheVariants.{Levels as AskLevels, Labels as AskLabels, Cores as AskCores}
use Rattle.graph_types.proofs.{More.kept_row, NameNumbers.{place_some, place_number}, ZippedRows.next_row}

-- a label is a vertex, as it is at most the vertex that has it
pub labels_below : (f : Filter) (g : Graph) (labels : List ℕ) → AreLabels f g labels
    → All (λ label. label < length g.names) labels
labels_below f g labels table k d h =
    let is = table.each k (get_or labels k d) (slice_get-get_or labels k d h) in
    let least = is.1 k (0, refl) in
    let long = table.one_each in
    omega arith

-- the name of a label in place of its number
pub label_turn : (names : List (List ℕ)) (labels : List ℕ) (k : ℕ) (x : List ℕ) (label : ℕ) (y : List ℕ)
    → (k < length names) × (k < length labels) × ((d : List ℕ) → x ≡ get_or names k d) × ((d : ℕ) → label ≡ get_or labels k d)
    → label < length names → y ≡ get_or names label y
    → (k < length names) × (k < length (names_of_vertices names labels)) × ((d : List ℕ) → x ≡ get_or names k d)
    × ((d : List ℕ) → y ≡ get_or (names_of_vertices names labels) k d)
label_turn names labels k x label y turn within is =
    let long : length (names_of_vertices names labels) ≡ length labels = length-map labels (λ v. get_or names v []) in
    let h = turn.1 in (
      turn.0,
      omega arith,
      turn.2,
      λ d. is ∙ get_or_default names label y [] within ∙ ap (λ v. get_or names v []) (turn.3 0)
          ∙ sym (get_or-map (λ v. get_or names v []) labels k 0 d h),
    )

-- what is refused of the window or the kind is refused all the same
pub refused_so : (window kind vertex : Bool) (error : AskError) → first_refusal window kind true ≡ Some error
    → first_refusal window kind vertex ≡ Some error
refused_so h0 kind vertex error is = grind (arith, common_steps)

-- and where it is not, the vertex decides
pub vertex_refused : (window kind vertex : Bool) → first_refusal window kind true ≡ None → vertex ≡ false
    → first_refusal window kind vertex ≡ Some NoVertex
vertex_refused h0 kind vertex none absent = grind (arith, common_steps)

pub vertex_listed : (window kind vertex : Bool) → first_refusal window kind true ≡ None → vertex ≡ true
    → first_refusal window kind vertex ≡ None
vertex_listed window kind vertex none listed = ap (first_refusal window kind) listed ∙ none

-- one row more, where there is a level
pub level_rows_more : (names : List (List ℕ)) (levels : List (Option ℕ)) (rows new : List (List ℕ × ℕ)) (k n : ℕ) (x : List ℕ)
    (level : Option ℕ)
    → rows ≡ filter_map level_row (take k (zip names levels)) → new ≡ rows ++ option_to_list (level_row (x, level)) → n ≡ k + 1
    → (k < length names) × (k < length levels) × ((d : List ℕ) → x ≡ get_or names k d)
    × ((d : Option ℕ) → level ≡ get_or levels k d)
    → new ≡ filter_map level_row (take n (zip names levels))
level_rows_more names levels rows new k n x level is pushed next turn =
    pushed ∙ ap (λ xs. xs ++ option_to_list (level_row (x, level))) is
    ∙ ap (λ ys. filter_map level_row (take k (zip names levels)) ++ ys) (sym (kept_row (x, level)))
    ∙ sym (filter_map-append level_row (take k (zip names levels)) ((x, level) ∷ []))
    ∙ ap (filter_map level_row) (sym (next_row names levels k n x level next turn))

-- each table with names put in is the answer
module _ (c : Content) (named : NamedFilter) (f : Filter) (found : f ≡ resolved_filter (graph_of c) named)
    (fine : filter_refusal (graph_of c) named true ≡ None) where
  pub levels_answer : (source : List ℕ) (place : ℕ) (levels : List (Option ℕ)) (rows : List (List ℕ × ℕ))
      → Some place ≡ position (bytes_eq source) c.names → AreLevels f (graph_of c) place levels
      → rows ≡ reached c.names levels → IsAnswer (AskLevels source named) (graph_of c) (Ok (Levels rows))
  levels_answer source place levels rows at table is = grind (arith, common_steps, place_some, place_number, vertex_listed)

  pub labels_answer : (labels : List ℕ) (rows : List (List ℕ × List ℕ)) → AreLabels f (graph_of c) labels
      → rows ≡ zip c.names (names_of_vertices c.names labels) → IsAnswer (AskLabels named) (graph_of c) (Ok (Labels rows))
  labels_answer labels rows table is = grind (arith, common_steps)

  pub cores_answer : (numbers : List ℕ) (rows : List (List ℕ × ℕ)) → AreCoreNumbers f (graph_of c) numbers
      → rows ≡ zip c.names numbers → IsAnswer (AskCores named) (graph_of c) (Ok (Cores rows))
  cores_answer numbers rows table is = grind (arith, common_steps)

module _ {A B : Type 0} (xs : List A) (ys : List B) where
  -- the row that comes next
  pub next_pair : (k : ℕ) (x d : A) (y : B) → k < length xs → k < length ys → x ≡ get_or xs k d → y ≡ get_or ys k y
      → take (k + 1) (zip xs ys) ≡ take k (zip xs ys) ++ (x, y) ∷ []
  next_pair k x d y left right first second =
      let within : k < length (zip xs ys) = omega (arith, length-zip xs ys) in
      let row : get_or (zip xs ys) k (x, y) ≡ (x, y) =
      get_or-zip xs ys k (x, y) left right ∙ (λ i. ((get_or_default xs k x d left ∙ sym first) i, sym second i)) in
      take_more (zip xs ys) k (x, y) within ∙ ap (λ row. take k (zip xs ys) ++ row ∷ []) row

  pub pairs_more : (rows : List (A × B)) (k : ℕ) (x d : A) (y : B) → rows ≡ take k (zip xs ys) → k < length xs → k < length ys
      → x ≡ get_or xs k d → y ≡ get_or ys k y → rows ++ (x, y) ∷ [] ≡ take (k + 1) (zip xs ys)
  pairs_more rows k x d y is left right first second =
      ap (λ rs. rs ++ (x, y) ∷ []) is ∙ sym (next_pair k x d y left right first second)

  pub pairs_all : (k : ℕ) → k ≡ min (length xs) (length ys) → take k (zip xs ys) ≡ zip xs ys
  pairs_all k end = take_all k (zip xs ys) (omega (arith, length-zip xs ys))

-- one row more, where there is a level
pub named_levels_more : (names : List (List ℕ)) (levels : List (Option ℕ)) (rows new : List (List ℕ × ℕ)) (k : ℕ)
    (d : Option ℕ) → rows ≡ filter_map level_row (take k (zip names levels))
    → new ≡ rows ++ option_to_list (level_row (get_or names k [], get_or levels k d)) → k < length names → k < length levels
    → new ≡ filter_map level_row (take (k + 1) (zip names levels))
named_levels_more names levels rows new k d is pushed left right =
    let x = get_or names k [] in
    let level = get_or levels k d in
    pushed ∙ ap (λ xs. xs ++ option_to_list (level_row (x, level))) is
    ∙ ap (λ ys. filter_map level_row (take k (zip names levels)) ++ ys) (sym (kept_row (x, level)))
    ∙ sym (filter_map-append level_row (take k (zip names levels)) ((x, level) ∷ []))
    ∙ ap (filter_map level_row)
    (sym (next_pair names levels k x [] level left right refl (get_or_default levels k d level right)))

pub answered : (request : Request) (g : Graph) (x : Result Reply AskError) → (x ≡ Err OutOfMemory) ⊎ IsAnswer request g x
    → x ≢ Err OutOfMemory → IsAnswer request g x
answered request g x (inl is) other = absurd (other is)
answered request g x (inr is) other = is

pub bool_value : (b : Bool) → ◌≡◌ {A = ℕ} (bool_byte b) (cond b 1 0)
bool_value true = refl
bool_value false = refl

-- one vertex's level more
pub levels_more : (names : List (List ℕ)) (levels : List (Option ℕ)) (k : ℕ) (d : Option ℕ)
    → k < min (length names) (length levels)
    → filter_map level_row (take k (zip names levels)) ++ option_to_list (level_row (get_or names k [], get_or levels k d))
    ≡ filter_map level_row (take (k + 1) (zip names levels))
levels_more names levels k d within =
    named_levels_more names levels (filter_map level_row (take k (zip names levels))) _ k d refl refl (omega arith) (omega arith)

length_row : (name : List ℕ) (level : Option ℕ) → length (option_to_list (level_row (name, level))) ≡ cond (is_some level) 1 0
length_row name None = refl
length_row name (Some level) = refl

pub reached_more : (names : List (List ℕ)) (levels : List (Option ℕ)) (count k : ℕ) (d : Option ℕ)
    → count ≡ length (filter_map level_row (take k (zip names levels)))
    → k < min (length names) (length levels)
    → count + bool_byte (is_some (get_or levels k d)) ≡ length (filter_map level_row (take (k + 1) (zip names levels)))
reached_more names levels count k d is within =
    let before = filter_map level_row (take k (zip names levels)) in
    let row = option_to_list (level_row (get_or names k [], get_or levels k d)) in
    let more : length (before ++ row) ≡ length before + length row = length-append before row in
    let one : length row ≡ bool_byte (is_some (get_or levels k d)) =
    length_row (get_or names k []) (get_or levels k d) ∙ sym (bool_value (is_some (get_or levels k d))) in
    let all = ap length (levels_more names levels k d within) in
    omega (arith, is, more, one, all)
