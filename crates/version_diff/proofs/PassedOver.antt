-- An edge that bears the same in two rows is no difference, and may be left out of both.
use Rattle.std.proofs.Common.{◌≡◌, ℕ, List, [], ◌∷◌, ◌++◌, cond, Bool, true, false, Option, None, Some}
use Rattle.std.proofs.Common.{refl, sym, ap, ◌∙◌, arith}
use Rattle.std.proofs.lemmas.{Grind.common_steps, Bool.eq-eqb}
use Rattle.std.specs.{Prelude.filter_map, List.cons_option}
use Rattle.edge_block.specs.Lending.{LentEdge}
use Rattle.graph_types.specs.Graph.{Stamp}
use Rattle.version_diff.specs.declared.rows.EdgeDifference.{EdgeDifference}
use Rattle.version_diff.specs.Differences.{is_to, edge_to, AreApart, bears_same, if_gone, if_not_same, gone_among, not_same_among, difference_of}
use Rattle.version_diff.proofs.Apart.{is_own}

turned : (d e : LentEdge) → is_to d.kind d.target e ≡ false → is_to e.kind e.target d ≡ false
turned d e apart = grind (arith, common_steps)

not_here : (is : Bool) (x : LentEdge) (o : Option LentEdge) → cond is (Some x) o ≡ None → is ≡ false
not_here true x o none = absurd (cc)
not_here false x o none = refl

not_later : (is : Bool) (x : LentEdge) (o : Option LentEdge) → cond is (Some x) o ≡ None → o ≡ None
not_later true x o none = absurd (cc)
not_later false x o none = none

-- where there is none of a kind to a target, the one in the middle isn't
middle_none : (xs ys : List LentEdge) (e : LentEdge) (kind target : ℕ) → edge_to (xs ++ e ∷ ys) kind target ≡ None
    → is_to kind target e ≡ false
middle_none [] ys e kind target none = not_here (is_to kind target e) e (edge_to ys kind target) none
middle_none (x ∷ xs) ys e kind target none =
    middle_none xs ys e kind target (not_later (is_to kind target x) x (edge_to (xs ++ e ∷ ys) kind target) none)

-- one in the middle that isn't may be left out
middle_out : (xs ys : List LentEdge) (e : LentEdge) (kind target : ℕ) → is_to kind target e ≡ false
    → edge_to (xs ++ e ∷ ys) kind target ≡ edge_to (xs ++ ys) kind target
middle_out [] ys e kind target apart = rw apart refl
middle_out (x ∷ xs) ys e kind target apart = ap (cond (is_to kind target x) (Some x)) (middle_out xs ys e kind target apart)

-- the others have none of its kind and target
around : (xs ys : List LentEdge) (e : LentEdge) → AreApart (xs ++ e ∷ ys) → edge_to (xs ++ ys) e.kind e.target ≡ None
around [] ys e apart = apart.0
around (x ∷ xs) ys e apart =
    let other : is_to e.kind e.target x ≡ false = turned x e (middle_none xs ys e x.kind x.target apart.0) in
    ap (λ is. cond is (Some x) (edge_to (xs ++ ys) e.kind e.target)) other ∙ around xs ys e apart.1

-- they stay apart without it
apart_without : (xs ys : List LentEdge) (e : LentEdge) → AreApart (xs ++ e ∷ ys) → AreApart (xs ++ ys)
apart_without [] ys e apart = apart.1
apart_without (x ∷ xs) ys e apart = (
  sym (middle_out xs ys e x.kind x.target (middle_none xs ys e x.kind x.target apart.0)) ∙ apart.0,
  apart_without xs ys e apart.1,
)

-- it is found
found : (xs ys : List LentEdge) (e : LentEdge) → edge_to (xs ++ ys) e.kind e.target ≡ None
    → edge_to (xs ++ e ∷ ys) e.kind e.target ≡ Some e
found [] ys e none = rw (is_own e) refl
found (x ∷ xs) ys e none =
    let here = is_to e.kind e.target x in
    let rest = edge_to (xs ++ ys) e.kind e.target in
    ap (λ is. cond is (Some x) (edge_to (xs ++ e ∷ ys) e.kind e.target)) (not_here here x rest none)
    ∙ found xs ys e (not_later here x rest none)

-- an element that gives nothing may be left out
nothing_given : (h : LentEdge → Option EdgeDifference) (xs ys : List LentEdge) (e : LentEdge) → h e ≡ None
    → filter_map h (xs ++ e ∷ ys) ≡ filter_map h (xs ++ ys)
nothing_given h [] ys e none = ap (λ o. cons_option o (filter_map h ys)) none
nothing_given h (x ∷ xs) ys e none = ap (cons_option (h x)) (nothing_given h xs ys e none)

module _ (told : LentEdge → Option LentEdge → Option EdgeDifference) where
  -- what is told of each edge by those of its kind to its target
  abbrev told_by : List LentEdge → LentEdge → Option EdgeDifference
  told_by others d = told d (edge_to others d.kind d.target)

  -- of edges that have none of an edge's kind and target the same is told without it
  told_without : (ds xs ys : List LentEdge) (e : LentEdge) → edge_to ds e.kind e.target ≡ None
      → filter_map (told_by (xs ++ e ∷ ys)) ds ≡ filter_map (told_by (xs ++ ys)) ds
  told_without [] xs ys e none = refl
  told_without (d ∷ ds) xs ys e none =
      let rest = edge_to ds e.kind e.target in
      let apart : is_to d.kind d.target e ≡ false = turned e d (not_here (is_to e.kind e.target d) d rest none) in
      ap (λ o. cons_option (told d o) (filter_map (told_by (xs ++ e ∷ ys)) ds)) (middle_out xs ys e d.kind d.target apart)
      ∙ ap (cons_option (told_by (xs ++ ys) d)) (told_without ds xs ys e (not_later (is_to e.kind e.target d) d rest none))

  -- an edge of both of which nothing is told may be left out of both
  left_out : (cs bs xs ys : List LentEdge) (e : LentEdge) → AreApart (cs ++ e ∷ bs) → AreApart (xs ++ e ∷ ys)
      → told e (Some e) ≡ None → filter_map (told_by (xs ++ e ∷ ys)) (cs ++ e ∷ bs) ≡ filter_map (told_by (xs ++ ys)) (cs ++ bs)
  left_out cs bs xs ys e one other none =
      let here : told_by (xs ++ e ∷ ys) e ≡ None = ap (told e) (found xs ys e (around xs ys e other)) ∙ none in
      nothing_given (told_by (xs ++ e ∷ ys)) cs bs e here ∙ told_without (cs ++ bs) xs ys e (around cs bs e one)

bears_own : (s : Stamp) → bears_same s s ≡ true
bears_own s = grind (arith, common_steps, eq-eqb)

same_told : (source : ℕ) (e : LentEdge) → if_not_same source e (Some e) ≡ None
same_told source e = rw (bears_own e.stamp) refl

-- an edge that two rows have may be left out of both
one_out : (source : ℕ) (cs bs xs ys : List LentEdge) (e : LentEdge) → AreApart (cs ++ e ∷ bs) → AreApart (xs ++ e ∷ ys)
    → difference_of source (cs ++ e ∷ bs) (xs ++ e ∷ ys) ≡ difference_of source (cs ++ bs) (xs ++ ys)
one_out source cs bs xs ys e one other =
    ap (λ ds. ds ++ not_same_among source (cs ++ e ∷ bs) (xs ++ e ∷ ys)) (left_out (if_gone source) cs bs xs ys e one other refl)
    ∙ ap (λ ds. gone_among source (xs ++ ys) (cs ++ bs) ++ ds)
    (left_out (if_not_same source) xs ys cs bs e other one (same_told source e))

-- edges that two rows have may be left out of both
pub both_out : (source : ℕ) (es cs bs xs ys : List LentEdge) → AreApart (cs ++ (es ++ bs)) → AreApart (xs ++ (es ++ ys))
    → difference_of source (cs ++ (es ++ bs)) (xs ++ (es ++ ys)) ≡ difference_of source (cs ++ bs) (xs ++ ys)
both_out source [] cs bs xs ys one other = refl
both_out source (e ∷ es) cs bs xs ys one other =
    one_out source cs (es ++ bs) xs (es ++ ys) e one other
    ∙ both_out source es cs bs xs ys (apart_without cs (es ++ bs) e one) (apart_without xs (es ++ ys) e other)

pub both_apart : (es cs bs : List LentEdge) → AreApart (cs ++ (es ++ bs)) → AreApart (cs ++ bs)
both_apart [] cs bs apart = apart
both_apart (e ∷ es) cs bs apart = both_apart es cs bs (apart_without cs (es ++ bs) e apart)

-- a row that stays has no difference
pub no_difference : (source : ℕ) (es : List LentEdge) → AreApart es → difference_of source es es ≡ []
no_difference source [] apart = refl
no_difference source (e ∷ es) apart = one_out source [] es [] es e apart apart ∙ no_difference source es apart.1
