use Rattle.std.proofs.Common.{◌≡◌, ◌<◌, ◌∙◌, ◌∷◌, [], ℕ, List, ap, sym, subst, arith, refl, true, take, length, get_or}
use Rattle.std.proofs.lemmas.List.{take_more}
use Rattle.block_pool.specs.Pools.{is_in_use_at, marked}
use Rattle.block_reclamation.specs.declared.status.BlockStatus.{BlockStatus, TheVariants.{Used}}
use Rattle.opening_columns.proofs.PoolMarks.{marks_stay, marked_push}
use Rattle.opening_columns.proofs.pooling.born_first.Goals as goal

pub born-requires : goal.born-requires
born-requires c =
    let ns : List ℕ = c.args.numbers.now in
    let i : ℕ = c.loop-number.number-index in
    let lt : i < length ns = omega arith in
    subst (λ (p : List BlockStatus). is_in_use_at p (get_or ns i 0) ≡ true) (sym c.loop-number.invariant)
    (marks_stay (take i ns) c.args.pool.now (get_or ns i 0) (Used 0) refl (c.requires i 0 lt))

pub loop-number-preserved : goal.loop-number-preserved
loop-number-preserved c =
    let ns : List ℕ = c.args.numbers.now in
    let i : ℕ = c.loop-number.number-index in
    let lt : i < length ns = omega arith in
    let n : ℕ = get_or ns i 0 in
    c.born.ensures ∙ ap (marked (n ∷ []) (Used 0)) c.loop-number.invariant ∙ sym (marked_push (take i ns) n (Used 0) c.args.pool.now)
    ∙ ap (λ (ms : List ℕ). marked ms (Used 0) c.args.pool.now) (sym (take_more ns i 0 lt))
