use Rattle.std.proofs.Common.{◌≡◌, ◌++◌, ◌∙◌, ℕ, List, All, ap, sym, subst, true, take, drop, length, arith}
use Rattle.std.proofs.Math.Seq.{take-append_seam}
use Rattle.std.specs.declared.{sync.Arc.Arc, alloc.Global.Global}
use Rattle.edge_block.specs.declared.blocks.Block.{Block}
use Rattle.block_pool.specs.Pools.{is_in_use_at, marked}
use Rattle.block_reclamation.specs.declared.status.BlockStatus.{TheVariants.{Used}}
use Rattle.graph_version.specs.Sharing.{block_values}
use Rattle.graph_version.specs.Rows.{numbers_of}
use Rattle.opening_columns.specs.Openings.{AreLaidOut}
use Rattle.opening_columns.proofs.PoolMarks.{granted_in_use, granted_numbers, laid_is}
use Rattle.opening_columns.proofs.pooling.laid_out.Goals as goal

written : (items new : List (Arc Block Global)) (len : ℕ) → length new ≡ len → take len (new ++ drop (length new) items) ≡ new
written items new len is =
    ap (λ (n : ℕ). take n (new ++ drop (length new) items)) (sym is) ∙ take-append_seam new (drop (length new) items)

pub born_first-requires : goal.born_first-requires
born_first-requires c =
    subst (All (λ (n : ℕ). is_in_use_at c.grant.new.self n ≡ true)) (sym c.as_slice-2.ensures.value)
    (granted_in_use c.args.blocks c.in-Ok.field-0.numbers.items c.in_ok-pool.pool c.grant.new.self c.in_ok-pool.ensures c.in-Ok.ensures.numbers.0
    c.in-Ok.ensures.used)

pub returns-clause-laid : goal.returns-clause-laid
returns-clause-laid c =
    let (runs, are, long) = c.in_ok-lengths.ensures in
    let new : List (Arc Block Global) = c.fill_each.new.blocks in
    let old : List (Arc Block Global) = c.in-Ok.field-0.blocks.items in
    let back : take c.in-Ok.field-0.blocks.len (new ++ drop (length new) old) ≡ new =
    written old new c.in-Ok.field-0.blocks.len
    (let same_long = c.fill_each.auto.blocks in let len = c.as_mut_slice.ensures.len in omega arith) in
    let same : numbers_of (block_values new) ≡ numbers_of (block_values old) = c.in_ok-fill_each.ensures.numbers
    ∙ ap (λ (xs : List (Arc Block Global)). numbers_of (block_values xs)) c.as_mut_slice.ensures.value in
    subst (λ (xs : List (Arc Block Global)). AreLaidOut c.args.blocks c.args.edges.now (block_values xs) c.born_first.new.pool) (sym back)
    (laid_is c.args.blocks c.args.edges.now runs (block_values new) c.in-Ok.field-0.numbers.items c.in_ok-pool.pool c.grant.new.self
    c.born_first.new.pool are (c.in_ok-fill_each.ensures.filled runs are (long ∙ sym c.as_slice.ensures.value))
    (granted_numbers old (block_values new) c.in-Ok.field-0.numbers.items c.in-Ok.ensures.blocks same) c.in_ok-pool.ensures
    c.in-Ok.ensures.numbers.0 c.in-Ok.ensures.used
    (c.born_first.ensures ∙ ap (λ (ns : List ℕ). marked ns (Used 0) c.grant.new.self) c.as_slice-2.ensures.value))
