-- The ends of insertions in columns are names of their dictionary.
use Rattle.std.proofs.Common.{◌≡◌, ℕ, zero, suc, ◌+◌, ◌≤◌, ℤ, List, [], ◌∷◌, length, drop, get_or, drop-cons, add-one, Option, Some, None}
use Rattle.std.proofs.Common.{refl, sym, subst, arith, true}
use Rattle.std.proofs.lemmas.Bool.{and_parts, Decides.nat_tests}
use Rattle.graph_types.specs.{Parts.parts_of, declared.batches.NamedOp.{NamedOp, TheVariants.Insert}}
use Rattle.batch_apply.specs.Listed.{AreEndsAt, AreEndsListed}
use Rattle.batch_columns.specs.Dictionaries.{Insertions, insertion, insertion_at, insertions_from, name_in}
use Rattle.batch_columns.proofs.OneMore.{joined_parts}
use Rattle.desk_columns.specs.Feeding.{are_alike_columns}

name_or_none : Option (List ℕ) → List ℕ
name_or_none (Some name) = name
name_or_none None = []

-- the name of an entry
pub entry_name : Insertions → ℕ → List ℕ
entry_name c entry = name_or_none (name_in c.text c.ends entry)

ends_inserted : (name : ℕ → List ℕ) (kind : List ℕ) (weight : ℤ) (time : ℕ) (source target : Option (List ℕ)) (s t : ℕ) (op : NamedOp)
    → name s ≡ name_or_none source → name t ≡ name_or_none target → insertion kind weight time source target ≡ Some op
    → AreEndsAt name (parts_of op) s t
unfolding name_or_none
ends_inserted name kind weight time (Some source) (Some target) s t op from to is =
    let same : Insert kind source target weight time ≡ op = cc in
    subst (λ (o : NamedOp). AreEndsAt name (parts_of o) s t) same (sym from, sym to)
ends_inserted name kind weight time None target s t op from to is = cc
ends_inserted name kind weight time (Some source) None s t op from to is = cc

pub listed_from : (c : Insertions) (at n : ℕ) (ops : List NamedOp) → insertions_from c at n ≡ Some ops → at + n ≤ length c.sources
    → at + n ≤ length c.targets → AreEndsListed (entry_name c) ops (drop at c.sources) (drop at c.targets)
unfolding name_or_none entry_name
listed_from c at zero ops is some many =
    let none : [] ≡ ops = cc in
    subst (λ (os : List NamedOp). AreEndsListed (entry_name c) os (drop at c.sources) (drop at c.targets)) none tt
listed_from c at (suc n) ops is some many =
    let (op, others, here, rest, all) = joined_parts (insertion_at c at) (insertions_from c (at + 1) n) ops is in
    let sources : drop at c.sources ≡ get_or c.sources at 0 ∷ drop (at + 1) c.sources =
    rw add-one (drop-cons c.sources at 0 (omega (arith, some))) in
    let targets : drop at c.targets ≡ get_or c.targets at 0 ∷ drop (at + 1) c.targets =
    rw add-one (drop-cons c.targets at 0 (omega (arith, many))) in
    let first = ends_inserted (entry_name c) c.kind _ _ _ _ (get_or c.sources at 0) (get_or c.targets at 0) op refl refl here in
    let more = listed_from c (at + 1) n others rest (omega (arith, some)) (omega (arith, many)) in
    subst (λ (os : List NamedOp). AreEndsListed (entry_name c) os (drop at c.sources) (drop at c.targets)) (sym all)
    (subst (λ (l : List ℕ). AreEndsListed (entry_name c) (op ∷ others) l (drop at c.targets)) (sym sources)
    (subst (λ (l : List ℕ). AreEndsListed (entry_name c) (op ∷ others) (get_or c.sources at 0 ∷ drop (at + 1) c.sources) l) (sym targets)
    (first, more)))

-- columns that are alike are as long
pub same_length : (c : Insertions) → are_alike_columns c ≡ true → length c.targets ≡ length c.sources
same_length c alike = grind (arith, nat_tests, and_parts, alike)
